-- `neighbours::nearest::place_of_closest` meets its contract: of the records held, one of the first two on the sides of the target's place that are not on the path.
-- Assumes nothing.
use mathlib.Core.Path.{◌≡◌, sym, ap, ap₂, ◌∙◌}
use mathlib.Core.Bool.{Bool}
use mathlib.Core.List.{List, append-nil}
use Prim.Native.Nat.{ℕ, ◌*◌, ◌/◌, ◌≤◌, ◌<◌}
use native.Mathlib.Omega.{arith}
use lib.ListN.{length}
use Rattle.key.specs.Number.{key_at}
use Rattle.key.specs.Around.{ring}
use Rattle.key.proofs.KeyLaws.{key-lt}
use Rattle.own.specs.Own.{own_keys, own_records, own_record}
use Rattle.own.proofs.FormLaws.{own_formed}
use Rattle.table.specs.Rows.{rows}
use Rattle.table.proofs.RowLaws.{rows-length}
use Rattle.kept.specs.Keys.{Every}
use Rattle.kept.specs.Turned.{count_under}
use Rattle.cache.specs.Form.{keys_of}
use Rattle.cache.proofs.FormLaws.{form_laid, keys_small}
use Rattle.neighbours.specs.Closest.{candidates, closest_of}
use Rattle.neighbours.specs.Where.{steps_up, steps_down, skips_at, skipped_up, skipped_down, record_at, nearest_of}
use Rattle.round.proofs.OverLaws.{over-le}
use Rattle.neighbours.proofs.BesideLaws.{nearest_within}
use Rattle.neighbours.proofs.SidesLaws.{place-most, none_left, under-less, sides-closest}
use Rattle.neighbours.proofs.nearest.place_of_closest.Goals.{After-place_of-ours, After-skipped_down-under, After-skipped_up-over, Start}
use Rattle.neighbours.proofs.nearest.place_of_closest.Goals as goal

-- where the slices are known
module _ (n : After-place_of-ours) where
  abbrev s : Start
  s = (goal.at.After-place_of-ours n).Start

  abbrev own : List ℕ
  own = s.args.own.now

  abbrev cache : List ℕ
  cache = s.args.cache.now

  abbrev used : ℕ
  used = s.args.used

  abbrev path : List ℕ
  path = s.args.path.now

  abbrev t : ℕ
  t = key_at 0 s.args.target.now

  -- the target's place
  abbrev at : ℕ
  at = count_under t (keys_of (rows 100 used cache))

  place : s.args.at ≡ at
  place = s.requires.at_value

  room : 100 * used ≤ length cache
  room = (form_laid (own_keys own) used cache s.requires.form).room

  small : Every (λ (k : ℕ). k < ring) (keys_of (rows 100 used cache))
  small = keys_small used cache (λ i. omega (arith, n.type_inv.cache i)) room

  o : t < ring
  o = key-lt 0 s.args.target.now (λ i. omega (arith, n.type_inv.target i)) s.requires.own_value.1

  at_most : s.args.at ≤ used
  at_most = omega (arith, place, place-most t own path cache used s.requires.form.held o small)

-- the closest of our own records
module _ (p : After-place_of-ours) where
  abbrev ours : List ℕ
  ours = own p

  own-many : p.count.result ≡ length ours / 100
  own-many = p.count.ensures ∙ rows-length 100 (length ours / 100) ours

  mine : own_record ours p.place_of-ours.result ≡ closest_of (t p) (own_records ours)
  mine = p.place_of-ours.ensures.s_value ∙ ap₂ (λ (k m : ℕ). closest_of k (rows 100 m ours)) p.key_at.ensures own-many

  inside : p.place_of-ours.result < length (own_records ours)
  inside = omega (arith, p.place_of-ours.ensures.upper_bound.0, p.count.ensures)

-- how many are passed over on each side
over-is : (c : After-skipped_up-over)
    → (let n = (goal.at.After-skipped_up-over c).After-place_of-ours in c.skipped_up-over.result ≡ skipped_up (path n) (cache n) (used n) (at n))
over-is c =
    let n = (goal.at.After-skipped_up-over c).After-place_of-ours in
    c.skipped_up-over.ensures ∙ ap (skipped_up (path n) (cache n) (used n)) (place n)

abbrev behind : After-skipped_down-under → After-place_of-ours
behind c = (goal.at.After-skipped_down-under c).After-place_of-ours

under-is : (c : After-skipped_down-under)
    → (let n = (behind c) in c.skipped_down-under.result ≡ skipped_down (path n) (cache n) (used n) (at n))
under-is c = let n = (behind c) in c.skipped_down-under.ensures ∙ ap (skipped_down (path n) (cache n) (used n)) (place n)

-- not all of them
some : (c : After-skipped_down-under) → (let n = (behind c) in skipped_up (path n) (cache n) (used n) (at n) < used n)
some c =
    let n = (behind c) in
    let f : ℕ → Bool = λ (i : ℕ). skips_at (path n) (cache n) (steps_up (used n) (at n) i) in
    omega (arith, c.if-over-used.false, over-is (goal.at.After-skipped_down-under c).After-skipped_up-over, over-le f 0 (used n))

under-most : (c : After-skipped_down-under) → c.skipped_down-under.result < used ((behind c))
under-most c =
    let n = (behind c) in
    omega (arith, under-is c, under-less (t n) (own n) (path n) (cache n) (used n) (s n).requires.form.held (o n) (small n) (some c))

over-most : (c : After-skipped_down-under) → c.skipped_up-over.result < used ((behind c))
over-most c = omega (arith, some c, over-is (goal.at.After-skipped_down-under c).After-skipped_up-over)

pub place_of-ours-requires : goal.place_of-ours-requires
place_of-ours-requires c =
    let own = c.args.own.now in
    let f = own_formed own c.requires.own_value.0 in
    let m = c.count.ensures ∙ rows-length 100 (length own / 100) own in
    (omega (arith, m, f.least), omega (arith, m, f.many))

pub skipped_up-over-requires : goal.skipped_up-over-requires
skipped_up-over-requires c =
    let n = (goal.at.skipped_up-over-requires c).After-place_of-ours in
    (room n, at_most n, (s n).requires.form.held.formed)

pub returns-then-over-used : goal.returns-then-over-used
returns-then-over-used c =
    let n = (goal.at.returns-then-over-used c).After-place_of-ours in
    let none = none_left (t n) (own n) (path n) (cache n) (used n) (s n).requires.form.held (o n) (small n) (sym (over-is (goal.at.returns-then-over-used c).After-skipped_up-over) ∙ c.if-over-used.true) in record {
      result_value = mine n ∙ sym (ap (λ (l : List (List ℕ)). closest_of (t n) (candidates (own_records (own n)) l)) none
          ∙ ap (closest_of (t n)) (append-nil (own_records (own n))));
      within = inside n;
    }

pub skipped_down-under-requires : goal.skipped_down-under-requires
skipped_down-under-requires c =
    let n = (goal.at.skipped_down-under-requires c).After-place_of-ours in
    (room n, at_most n, (s n).requires.form.held.formed)

pub overflow_add-at : goal.overflow_add-at
overflow_add-at c = let n = (behind (goal.at.overflow_add-at c).After-skipped_down-under) in omega (arith, at_most n, over-most (goal.at.overflow_add-at c).After-skipped_down-under, room n)

pub wrap-up-requires : goal.wrap-up-requires
wrap-up-requires c = let n = (behind (goal.at.wrap-up-requires c).After-skipped_down-under) in omega (arith, at_most n, over-most (goal.at.wrap-up-requires c).After-skipped_down-under)

pub overflow_add-under : goal.overflow_add-under
overflow_add-under c = let n = (behind (goal.at.overflow_add-under c).After-skipped_down-under) in omega (arith, under-most (goal.at.overflow_add-under c).After-skipped_down-under, room n)

pub overflow_sub-used : goal.overflow_sub-used
overflow_sub-used c = omega (arith, under-most (goal.at.overflow_sub-used c).After-skipped_down-under)

pub overflow_add-at-2 : goal.overflow_add-at-2
overflow_add-at-2 c = let n = (behind (goal.at.overflow_add-at-2 c).After-skipped_down-under) in omega (arith, at_most n, room n)

pub wrap-down-requires : goal.wrap-down-requires
wrap-down-requires c = let n = (behind (goal.at.wrap-down-requires c).After-skipped_down-under) in omega (arith, at_most n, under-most (goal.at.wrap-down-requires c).After-skipped_down-under)

pub nearest_of-requires : goal.nearest_of-requires
nearest_of-requires c =
    let n = (goal.at.nearest_of-requires c).After-place_of-ours in (
      omega (arith, n.place_of-ours.ensures.upper_bound.0, own-many n, (own_formed (own n) (s n).requires.own_value.0).many),
      omega (arith, room n, c.wrap-up.ensures.1),
      omega (arith, room n, c.wrap-down.ensures.1),
    )

pub returns : goal.returns
returns c =
    let stop = (goal.at.returns c).After-skipped_down-under in
    let n = behind stop in
    let i = n.place_of-ours.result in
    let eu : c.wrap-up.result ≡ steps_up (used n) (at n) (skipped_up (path n) (cache n) (used n) (at n)) =
    c.wrap-up.ensures.0 ∙ ap₂ (steps_up (used n)) (place n) (over-is (goal.at.After-skipped_down-under stop).After-skipped_up-over) in
    let ed : c.wrap-down.result ≡ steps_down (used n) (at n) (skipped_down (path n) (cache n) (used n) (at n)) =
    c.wrap-down.ensures.0 ∙ ap₂ (steps_down (used n)) (place n) (under-is stop) in
    let is : c.nearest_of.result ≡ nearest_of (t n) (own n) i (cache n) c.wrap-up.result c.wrap-down.result =
    c.nearest_of.ensures ∙ ap (λ (m : ℕ). nearest_of m (own n) i (cache n) c.wrap-up.result c.wrap-down.result) c.key_at-2.ensures in record {
      result_value = ap (record_at (own n) (cache n)) is
          ∙ sides-closest (t n) (own n) (path n) (cache n) (used n) (s n).requires.form.held (o n) (small n) (some stop) i (s n).requires.own_value.0 (mine n)
          c.wrap-up.result c.wrap-down.result eu ed;
      within = rw is (nearest_within (t n) (own n) (cache n) (length (own_records (own n))) (used n) i c.wrap-up.result c.wrap-down.result (inside n)
          c.wrap-up.ensures.1 c.wrap-down.ensures.1);
    }
