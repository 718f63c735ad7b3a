-- `carried::payload::take_reading` meets its contract. Assumes nothing.
use mathlib.Core.Path.{◌≡◌, sym, ap, ◌∙◌}
use Prim.Native.Nat.{ℕ, ◌+◌, ◌-◌}
use native.Mathlib.Omega.{arith}
use lib.ListN.{take, drop}
use Rattle.readings.specs.Unpack.{unpack_of}
use Rattle.carried.specs.Take.{taken_by}
use Rattle.carried.proofs.CarryLaws.{unpack_fine, payload-there, none-taken, some-taken}
use Rattle.carried.proofs.payload.take_reading.Goals as goal

pub overflow_add-place : goal.overflow_add-place
overflow_add-place c = omega (arith, payload-there _ _ (λ i. omega (arith, c.type_inv.d i)) _ c.requires _ c.in-Some.is)

pub slice_bounds-unpack-end : goal.slice_bounds-unpack-end
slice_bounds-unpack-end c = payload-there _ _ (λ i. omega (arith, c.type_inv.d i)) _ c.requires _ c.in-Some.is

pub shown-requires : goal.shown-requires
shown-requires c = λ r e. unpack_fine _ r (sym c.unpack.ensures ∙ e)

pub returns-in_default : goal.returns-in_default
returns-in_default c = c.nothing.ensures ∙ none-taken _ _ (λ i. omega (arith, c.type_inv.d i)) _ c.requires c.in_default.is

pub returns : goal.returns
returns c =
    let s = c.in-Some.place.start in
    let l = c.in-Some.place.len in
    let z : s + l - s ≡ l = omega arith in
    c.shown.ensures ∙ ap taken_by (c.unpack.ensures ∙ ap (λ (n : ℕ). unpack_of (take n (drop s c.args.d.now))) z)
    ∙ some-taken _ _ (λ i. omega (arith, c.type_inv.d i)) _ c.requires c.in-Some.place c.in-Some.is
