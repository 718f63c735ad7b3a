-- `named::choosing::spot_of` meets its contract: a walk over our own records, none of which is passed over, one over those held, and the closer of
-- the two. Assumes nothing.
use mathlib.Core.Path.{◌≡◌, sym, ap, ap₂, ◌∙◌}
use mathlib.Core.Bool.{Bool}
use mathlib.Core.List.{List, []}
use Prim.Native.Nat.{ℕ, ◌+◌, ◌*◌, ◌/◌, ◌≤◌, ◌<◌}
use native.Mathlib.Omega.{arith}
use lib.ListN.{length}
use borrow.Author.Rules.{rules}
use Rattle.std.specs.Prelude.{Option}
use Rattle.key.specs.Number.{number, key_at}
use Rattle.key.specs.Around.{closer}
use Rattle.own.specs.Own.{own_keys}
use Rattle.own.proofs.FormLaws.{own_formed}
use Rattle.cache.proofs.FormLaws.{form_laid}
use Rattle.next_row.specs.Walk.{wanted}
use Rattle.next_row.proofs.WalkLaws.{place_found}
use Rattle.neighbours.specs.declared.nearest.Spot.{Spot}
use Rattle.named.specs.Places.{closer_spot, spot_for}
use Rattle.named.proofs.SpotLaws.{spot-none, spot-held, spot-own, spot-closer, spot-nearer}
use Rattle.named.proofs.choosing.spot_of.Goals.{After-is_closer, After-row_of-j, Start}
use Rattle.named.proofs.choosing.spot_of.Goals as goal

room : (s : Start) → 100 * s.args.used ≤ length s.args.cache.now
room s = (form_laid (own_keys s.args.own.now) s.args.used s.args.cache.now s.requires.1).room

-- behind the two walks
module _ (c : After-row_of-j) where
  abbrev start : Start
  start = (goal.at.After-row_of-j c).Start

  abbrev own : List ℕ
  own = start.args.own.now

  abbrev cache : List ℕ
  cache = start.args.cache.now

  abbrev t : ℕ
  t = number start.args.target

  abbrev ours : ℕ
  ours = length own / 100

  abbrev i : ℕ
  i = c.row_of-i.result

  abbrev j : ℕ
  j = c.row_of-j.result

  -- the places are those that the walks find
  found : {x : Option Spot} → x ≡ closer_spot t own ours i cache start.args.used j
      → x ≡ spot_for own cache start.args.used start.args.path.now t start.args.leave (number start.args.k)
  found e =
      e ∙ ap₂ (λ (p q : ℕ). closer_spot t own ours p cache start.args.used q) c.row_of-i.ensures c.row_of-j.ensures

  abbrev looked : List ℕ → List ℕ → Bool
  looked path r = wanted path start.args.leave (number start.args.k) r

  in_own : (i ≡ ours → ⊥) → 100 * i + 100 ≤ length own
  in_own d = omega (arith, c.row_of-i.ensures, (place_found t (looked []) ours own).0, d)

  in-cache : (j ≡ start.args.used → ⊥) → 100 * j + 100 ≤ length cache
  in-cache d = omega (arith, c.row_of-j.ensures, (place_found t (looked start.args.path.now) start.args.used cache).0, d, room start)

pub row_of-i-requires : goal.row_of-i-requires
row_of-i-requires c = (omega arith, (own_formed c.args.own.now c.requires.0).formed)

pub row_of-j-requires : goal.row_of-j-requires
row_of-j-requires c = let s = (goal.at.row_of-j-requires c).Start in (room s, s.requires.1.held.formed)

pub returns-then-j-used : goal.returns-then-j-used
returns-then-j-used c =
    let w = (goal.at.returns-then-j-used c).After-row_of-j in
    let a = (start w).args in
    found w (spot-none (t w) (own w) (ours w) (i w) (cache w) a.used (j w) c.if-i-ours.true c.if-j-used.true)

pub returns-then-i-ours : goal.returns-then-i-ours
returns-then-i-ours c =
    let w = (goal.at.returns-then-i-ours c).After-row_of-j in
    let a = (start w).args in
    found w (spot-held (t w) (own w) (ours w) (i w) (cache w) a.used (j w) c.if-i-ours.true c.if-j-used.false)

pub returns-then-j-used-2 : goal.returns-then-j-used-2
returns-then-j-used-2 c =
    let w = (goal.at.returns-then-j-used-2 c).After-row_of-j in
    let a = (start w).args in
    found w (spot-own (t w) (own w) (ours w) (i w) (cache w) a.used (j w) c.if-i-ours.false c.if-j-used-2.true)

pub overflow_mul-i : goal.overflow_mul-i
overflow_mul-i c = let w = (goal.at.overflow_mul-i c).After-row_of-j in omega (arith, in_own w c.if-i-ours.false, (start w).well_formed)

pub key_at-near-requires : goal.key_at-near-requires
key_at-near-requires c = let w = (goal.at.key_at-near-requires c).After-row_of-j in omega (arith, in_own w c.if-i-ours.false)

pub overflow_mul-j : goal.overflow_mul-j
overflow_mul-j c = let w = (goal.at.overflow_mul-j c).After-row_of-j in omega (arith, in-cache w c.if-j-used-2.false, (start w).well_formed)

pub key_at-other-requires : goal.key_at-other-requires
key_at-other-requires c = let w = (goal.at.key_at-other-requires c).After-row_of-j in omega (arith, in-cache w c.if-j-used-2.false)

-- what the comparison says, of the keys where they lie
says : (c : After-is_closer)
    → (let w = (goal.at.After-is_closer c).After-row_of-j in
    closer (t w) (key_at (100 * j w) (cache w)) (key_at (100 * i w) (own w)) ≡ c.is_closer.result)
says c =
    let w = (goal.at.After-is_closer c).After-row_of-j in
    sym (c.is_closer.ensures ∙ ap₂ (closer (t w)) c.key_at-other.ensures c.key_at-near.ensures)

pub returns-then-is_closer : goal.returns-then-is_closer
returns-then-is_closer c =
    let m = (goal.at.returns-then-is_closer c).After-is_closer in
    let w = (goal.at.returns-then-is_closer c).After-row_of-j in
    let a = (start w).args in
    found w (spot-closer (t w) (own w) (ours w) (i w) (cache w) a.used (j w) c.if-i-ours.false c.if-j-used-2.false (says m ∙ c.if-is_closer.true))

pub returns : goal.returns
returns c =
    let m = (goal.at.returns c).After-is_closer in
    let w = (goal.at.returns c).After-row_of-j in
    let a = (start w).args in
    found w (spot-nearer (t w) (own w) (ours w) (i w) (cache w) a.used (j w) c.if-i-ours.false c.if-j-used-2.false (says m ∙ c.if-is_closer.false))
