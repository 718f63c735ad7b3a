-- `neighbours::nearest::record_at` meets its contract: the part of the slice that the place names. Assumes nothing.
use mathlib.Core.Path.{◌≡◌, sym, ap, subst, ◌∙◌}
use Prim.Native.Nat.{ℕ, ◌+◌, ◌-◌, ◌*◌}
use native.Mathlib.Omega.{arith}
use lib.ListN.{take, drop}
use Rattle.neighbours.specs.declared.nearest.Spot.{Spot}
use Rattle.neighbours.specs.Where.{record_at, Lies}
use Rattle.neighbours.proofs.nearest.record_at.Goals.{Start}
use Rattle.neighbours.proofs.nearest.record_at.Goals as goal

-- what is known of the place, and its record
inside : (s : Start) {x : Spot} → s.args.spot ≡ x → Lies s.args.own.now s.args.cache.now x
inside s e = subst (Lies s.args.own.now s.args.cache.now) e s.requires

there : (s : Start) {x : Spot} → s.args.spot ≡ x
    → record_at s.args.own.now s.args.cache.now s.args.spot ≡ record_at s.args.own.now s.args.cache.now x
there s e = ap (record_at s.args.own.now s.args.cache.now) e

-- so many bytes as from a place to 100 behind it
hundred : (at : ℕ) → at + 100 - at ≡ 100
hundred at = omega arith

pub overflow_mul-at : goal.overflow_mul-at
overflow_mul-at c = let s = (goal.at.overflow_mul-at c).Start in omega (arith, inside s c.in-Own.is, s.well_formed)

pub overflow_add-result : goal.overflow_add-result
overflow_add-result c = let s = (goal.at.overflow_add-result c).Start in omega (arith, inside s c.in-Own.is, s.well_formed)

pub slice_bounds-result-end : goal.slice_bounds-result-end
slice_bounds-result-end c = let s = (goal.at.slice_bounds-result-end c).Start in omega (arith, inside s c.in-Own.is)

pub overflow_mul-at-in-Held : goal.overflow_mul-at-in-Held
overflow_mul-at-in-Held c = let s = (goal.at.overflow_mul-at-in-Held c).Start in omega (arith, inside s c.in-Held.is, s.well_formed)

pub overflow_add-result-in-Held : goal.overflow_add-result-in-Held
overflow_add-result-in-Held c = let s = (goal.at.overflow_add-result-in-Held c).Start in omega (arith, inside s c.in-Held.is, s.well_formed)

pub slice_bounds-result-end-in-Held : goal.slice_bounds-result-end-in-Held
slice_bounds-result-end-in-Held c = let s = (goal.at.slice_bounds-result-end-in-Held c).Start in omega (arith, inside s c.in-Held.is)

pub returns-in-Own : goal.returns-in-Own
returns-in-Own c =
    let s = (goal.at.returns-in-Own c).Start in
    let at = 100 * c.in-Own.i in
    ap (λ (n : ℕ). take n (drop at s.args.own.now)) (hundred at) ∙ sym (there s c.in-Own.is)

pub returns-in-Held : goal.returns-in-Held
returns-in-Held c =
    let s = (goal.at.returns-in-Held c).Start in
    let at = 100 * c.in-Held.i in
    ap (λ (n : ℕ). take n (drop at s.args.cache.now)) (hundred at) ∙ sym (there s c.in-Held.is)
