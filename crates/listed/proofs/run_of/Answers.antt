-- `listed::run_of` meets its contract: both counts with the newcomer. Assumes nothing.
use mathlib.Core.Path.{sym, ap, ap₂, ◌∙◌}
use mathlib.Core.Bool.{Bool, not, cond}
use mathlib.Core.List.{List, map}
use Prim.Native.Nat.{ℕ, suc, ◌<◌}
use native.Mathlib.Omega.{arith}
use Rattle.record.specs.Record.{key_of}
use Rattle.table.specs.Rows.{rows}
use Rattle.kept.specs.Plain.{count_below}
use Rattle.kept.specs.Turned.{count_under}
use Rattle.kept.proofs.TurnLaws.{count-le, under_le}
use Rattle.search.proofs.SeekLaws.{keys_many}
use Rattle.listed.proofs.ListedLaws.{under_more, below_more}
use Rattle.listed.proofs.run_of.Goals.{After-count_under-under, Start}
use Rattle.listed.proofs.run_of.Goals as goal

abbrev own : Start → ℕ
own s = key_of s.args.own.now

abbrev held : Start → List ℕ
held s = map key_of (rows 100 s.args.used s.args.cache.now)

-- few are held
few : (s : Start) → (count_under (own s) (held s) < 1000) × (count_below (own s) (held s) < 1000)
few s =
    let l = keys_many s.args.used s.args.cache.now in
    (omega (arith, under_le (own s) (held s), s.requires.in_bounds.3), omega (arith, count-le (own s) (held s), s.requires.in_bounds.3))

abbrev start : After-count_under-under → Start
start c = (goal.at.After-count_under-under c).Start

pub count_under-under-requires : goal.count_under-under-requires
count_under-under-requires c = let p = c.requires in record { in_bounds = p.in_bounds.0; used_in_bounds = p.in_bounds.2; rising = p.rising }

pub count_below-held-requires : goal.count_below-held-requires
count_below-held-requires c = let p = (start (goal.at.count_below-held-requires c).After-count_under-under).requires in record { in_bounds = (p.in_bounds.0, p.in_bounds.2); rising = p.rising; every = p.every; first_value = c.count_under-under.ensures }

pub one_more-first-requires : goal.one_more-first-requires
one_more-first-requires c = let u = (goal.at.one_more-first-requires c).After-count_under-under in omega (arith, (few (start u)).0, u.count_under-under.ensures)

pub one_more-below-requires : goal.one_more-below-requires
one_more-below-requires c = omega (arith, (few (goal.at.one_more-below-requires c).Start).1, c.count_below-held.ensures)

pub returns : goal.returns
returns c =
    let m = c in
    let b = c in
    let u = (goal.at.returns c).After-count_under-under in
    let s = start u in
    let k : ℕ = key_of s.args.«record».now in
    let p =
    m.one_more-first.ensures ∙ ap₂ (λ (t : Bool) (n : ℕ). cond t (suc n) n) m.is_smaller.ensures u.count_under-under.ensures
    ∙ sym (under_more (own s) k (held s)) in
    let q =
    c.one_more-below.ensures ∙ ap₂ (λ (t : Bool) (n : ℕ). cond t (suc n) n) (ap not c.is_above.ensures) b.count_below-held.ensures
    ∙ sym (below_more (own s) k (held s)) in
    λ i. record { first = p i; below = q i }
