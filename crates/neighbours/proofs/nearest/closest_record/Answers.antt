-- `neighbours::nearest::closest_record` meets its contract: the number where a row applies, else where the closest record stands. Assumes nothing.
use mathlib.Core.Path.{◌≡◌, sym, ap, ◌∙◌}
use mathlib.Core.Bool.{not}
use mathlib.Core.List.{List, [], ◌∷◌}
use Prim.Native.Nat.{ℕ, ◌*◌, ◌≤◌}
use native.Mathlib.Omega.{arith}
use lib.Dec.{eqb}
use lib.ListN.{length}
use borrow.Author.Tests.{eq-eqb, ne_eqb}
use Rattle.std.specs.Prelude.{Ok}
use Rattle.key.specs.Number.{key_at}
use Rattle.own.specs.Own.{own_keys, own_records}
use Rattle.path.specs.Path.{path_form}
use Rattle.refusal.specs.Table.{Refusal, or_refuse}
use Rattle.refusal.proofs.CallLaws.{row_applies, row_passes, no_row}
use Rattle.table.specs.Rows.{rows}
use Rattle.table.proofs.RowLaws.{rows-length}
use Rattle.kept.specs.Turned.{count_under}
use Rattle.search.specs.Halving.{halvings}
use Rattle.search.specs.declared.Sought.{Sought}
use Rattle.search.proofs.SeekLaws.{sought-under}
use Rattle.std.specs.Prelude.{Ok, Err}
use mathlib.Core.Logic.{◌⊎◌}
use Rattle.cache.specs.Form.{keys_of, Form}
use Rattle.cache.specs.Calls.{memory_wrong, key_wrong, held_by}
use Rattle.cache.proofs.FormLaws.{form_laid}
use Rattle.cache.proofs.LentLaws.{not_is, not_isn't, memory-own, memory-form, memory-held, memory-passes, memory-refuses}
use Rattle.neighbours.specs.Closest.{candidates, off_path, closest_of}
use Rattle.neighbours.specs.Where.{Within}
use Rattle.neighbours.specs.Calls.{Shown, shown, Inside, closest_wrong, closest_call, closest_compared}
use Rattle.neighbours.specs.declared.nearest.Spot.{Spot}
use Rattle.neighbours.specs.declared.nearest.Spot.TheVariants.{Own, Held}
use Rattle.neighbours.proofs.nearest.closest_record.Goals.{in-Ok, in-Ok-2, After-find_key-sought, After-is_path, After-memory, After-place_of_closest, Else-not-is_path, Else-target-ne32, In-Some, Start, Then-not-is_path}
use Rattle.neighbours.proofs.nearest.closest_record.Goals as goal

abbrev start : After-memory → Start
start m = (goal.at.After-memory m).Start

-- what a refusal hands back, and what is handed back where there is none: the record, and the count
abbrev refuse : ℕ → Shown
refuse n = shown n []

abbrev uncounted : ℕ → ℕ
uncounted n = 0

abbrev done : Start → Shown
done s =
    let a = s.args in
    shown 0 (closest_of (key_at 0 a.target.now) (candidates (own_records a.own.now) (off_path a.path.now (held_by a.own.now a.cache.now))))

abbrev counted : Start → ℕ
counted s = let a = s.args in halvings (keys_of (held_by a.own.now a.cache.now)) (key_at 0 a.target.now)

pub returns-in_default : goal.returns-in_default
unfolding closest_call closest_compared
returns-in_default c =
    let m = (goal.at.returns-in_default c).After-memory in
    let s = start m in
    let own = s.args.own.now in
    let cache = s.args.cache.now in record { nearest_value = sym (memory-refuses own cache m.memory.ensures c.in_default.is refuse _ (done s)); inside = tt; compared_value = sym (memory-refuses own cache m.memory.ensures c.in_default.is uncounted _ (counted s)) }

-- behind the test of memory
passes : (k : In-Some) {A : Type 0} (refuse : ℕ → A) (done : A) (more : List Refusal)
    → or_refuse refuse (memory_wrong k.args.own.now k.args.cache.now more) done ≡ or_refuse refuse more done
passes k refuse done more = memory-passes k.args.own.now k.args.cache.now k.memory.ensures k.in-Some.is refuse more done

-- the path is not whole, and it is
wrong-path : (c : Then-not-is_path) {A : Type 0} (refuse : ℕ → A) (done : A)
    → (let a = c.args in or_refuse refuse (closest_wrong a.own.now a.cache.now a.path.now a.target.now) done ≡ refuse 1)
wrong-path c refuse done =
    passes (goal.at.Then-not-is_path c).In-Some refuse done _
    ∙ row_applies refuse 1 (not (path_form c.args.path.now)) _ done (not_isn't (sym c.is_path.ensures ∙ c.if-not-is_path.true))

whole-path : (e : Else-not-is_path) {A : Type 0} (refuse : ℕ → A) (done : A)
    → (let a = e.args in or_refuse refuse (closest_wrong a.own.now a.cache.now a.path.now a.target.now) done
    ≡ or_refuse refuse (key_wrong a.target.now ∷ []) done)
whole-path e refuse done =
    passes (goal.at.Else-not-is_path e).In-Some refuse done _
    ∙ row_passes refuse 1 (not (path_form e.args.path.now)) _ done (not_is (sym e.is_path.ensures ∙ e.if-not-is_path.false))

pub returns-then-not-is_path : goal.returns-then-not-is_path
unfolding closest_call closest_compared
returns-then-not-is_path c =
    let s = (goal.at.returns-then-not-is_path c).Start in
    record { nearest_value = sym (wrong-path (goal.at.returns-then-not-is_path c).Then-not-is_path refuse (done s)); inside = tt; compared_value = sym (wrong-path (goal.at.returns-then-not-is_path c).Then-not-is_path uncounted (counted s)) }

pub returns-then-target-ne32 : goal.returns-then-target-ne32
unfolding closest_call closest_compared
returns-then-target-ne32 c =
    let e = (goal.at.returns-then-target-ne32 c).Else-not-is_path in
    let s = (goal.at.returns-then-target-ne32 c).Start in
    let n = length s.args.target.now in
    let wrong = not_isn't (ne_eqb n 32 c.if-target-ne32.true) in record { nearest_value = sym (whole-path e refuse (done s) ∙ row_applies refuse 1 (not (eqb n 32)) [] (done s) wrong); inside = tt; compared_value = sym (whole-path e uncounted (counted s) ∙ row_applies uncounted 1 (not (eqb n 32)) [] (counted s) wrong) }

-- behind the tests
module _ (e : Else-target-ne32) where
  abbrev tested : After-memory
  tested = (goal.at.Else-target-ne32 e).After-memory

  abbrev own : List ℕ
  own = (start tested).args.own.now

  abbrev cache : List ℕ
  cache = (start tested).args.cache.now

  abbrev path : List ℕ
  path = (start tested).args.path.now

  abbrev target : List ℕ
  target = (start tested).args.target.now

  abbrev used : ℕ
  used = e.in-Some.used

  held : held_by own cache ≡ rows 100 used cache
  held = memory-held own cache tested.memory.ensures e.in-Some.is

  form : Form (own_keys own) cache (rows 100 used cache)
  form = memory-form own cache tested.memory.ensures e.in-Some.is

  room : 100 * used ≤ length cache
  room = (form_laid (own_keys own) used cache form).room

  -- no row applies
  no_rows : {A : Type 0} (refuse : ℕ → A) (done : A) → or_refuse refuse (closest_wrong own cache path target) done ≡ done
  no_rows refuse done =
      whole-path (goal.at.Else-target-ne32 e).Else-not-is_path refuse done
      ∙ row_passes refuse 1 (not (eqb (length target) 32)) [] done (not_is (eq-eqb (length target) 32 e.if-target-ne32.false))
      ∙ no_row refuse done

  accepted : closest_call own cache path target ≡ shown 0 (closest_of (key_at 0 target) (candidates (own_records own) (off_path path (rows 100 used cache))))
  unfolding closest_call
  accepted =
      no_rows refuse (done (start tested))
      ∙ ap (λ (l : List (List ℕ)). shown 0 (closest_of (key_at 0 target) (candidates (own_records own) (off_path path l)))) held

  count : closest_compared own cache path target ≡ halvings (keys_of (rows 100 used cache)) (key_at 0 target)
  unfolding closest_compared
  count = no_rows uncounted (counted (start tested)) ∙ ap (λ (l : List (List ℕ)). halvings (keys_of l) (key_at 0 target)) held

pub find_key-sought-requires : goal.find_key-sought-requires
find_key-sought-requires c = record { used_in_bounds = room (goal.at.find_key-sought-requires c).Else-target-ne32; in_bounds = omega (arith, c.if-target-ne32.false); rising = (form (goal.at.find_key-sought-requires c).Else-target-ne32).held.rising }

-- what the search told
module _ (f : After-find_key-sought) where
  abbrev keys : List ℕ
  keys = keys_of (rows 100 f.in-Some.used f.args.cache.now)

  place : {at : ℕ} → (f.find_key-sought.result.found ≡ Ok at) ⊎ (f.find_key-sought.result.found ≡ Err at)
      → at ≡ count_under (key_at 0 f.args.target.now) keys
  place = sought-under (key_at 0 f.args.target.now) keys f.find_key-sought.ensures

  counted-all : f.find_key-sought.result.compared ≡ halvings keys (key_at 0 f.args.target.now)
  counted-all = ap (λ (q : Sought). q.compared) f.find_key-sought.ensures

pub place_of_closest-requires : goal.place_of_closest-requires
place_of_closest-requires c =
    let e = (goal.at.place_of_closest-requires c).Else-target-ne32 in
    let f = (goal.at.place_of_closest-requires c).After-find_key-sought in
    let good = memory-own (own e) (cache e) (tested e).memory.ensures e.in-Some.is in
    record { own_value = (good, omega (arith, e.if-target-ne32.false)); form = form e; at_value = elim c.match-sought.branch [ in-Ok w ↦ w.at-is ∙ place f w.in-Ok.is | in-Ok-2 w ↦ w.at-is ∙ place f w.in-Ok.is ] }

-- where it is found to be lies among our own records or those held
found-inside : (e : Else-target-ne32) (x : Spot) → Within (length (own_records (own e))) (used e) x → Inside (own e) (cache e) (Ok x)
found-inside e (Own i) w = w
found-inside e (Held i) w = (omega (arith, w, ap length (held e), rows-length 100 (used e) (cache e)), omega (arith, w, room e))

pub returns : goal.returns
returns c =
    let e = (goal.at.returns c).Else-target-ne32 in record {
      nearest_value = sym (accepted e ∙ ap (shown 0) (sym c.place_of_closest.ensures.result_value));
      inside = found-inside e c.place_of_closest.result c.place_of_closest.ensures.within;
      compared_value = counted-all (goal.at.returns c).After-find_key-sought ∙ sym (count e);
    }
