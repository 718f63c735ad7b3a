use mathlib.Core.Path.{refl, sym, ◌∙◌}
use Prim.Native.Nat.{◌/◌}
use native.Mathlib.Nat.{zero-add}
use lib.ListN.{length}
use native.Mathlib.Omega.{arith}
use Rattle.key.specs.Number.{key_at}
use Rattle.table.proofs.RowLaws.{rows-length}
use Rattle.own.specs.Own.{own_place, own_keys}
use Rattle.own.proofs.PlaceLaws.{has_on, has_end, place_here, place-on, not_own}
use Rattle.own.proofs.place.place_of.Goals as goal

pub loop-i-init : goal.loop-i-init
loop-i-init c =
    let a = c.args in
    (refl, sym (zero-add (own_place (own_keys a.own.now) (key_at a.at a.s.now))))

pub same_at-requires : goal.same_at-requires
same_at-requires c = let s = c in record { a_in_bounds = s.requires.at_in_bounds; b_in_bounds = omega arith }

pub returns-then-same_at : goal.returns-then-same_at
returns-then-same_at c =
    let l = c in
    let a = l.args in
    let n = length a.own.now / 100 in
    let e = place_here n a.own.now l.loop-i.i (key_at a.at a.s.now) (omega arith) (sym c.same_at.ensures ∙ c.if-same_at.true) in
    record { value = omega (arith, l.loop-i.invariant.1, e); upper_bound = omega (arith, rows-length 100 n a.own.now) }

pub loop-i-preserved : goal.loop-i-preserved
loop-i-preserved c =
    let l = c in
    let a = l.args in
    let n = length a.own.now / 100 in
    let k = key_at a.at a.s.now in
    let d = sym c.same_at.ensures ∙ c.if-same_at.false in
    let e = place-on n a.own.now l.loop-i.i k (omega arith) d in (
      l.loop-i.invariant.0 ∙ has_on n a.own.now l.loop-i.i k (omega arith) d,
      omega (arith, l.loop-i.invariant.1, e),
    )

pub returns : goal.returns
returns c =
    let a = c.args in
    let none : ⊥ = not_own (own_keys a.own.now) (key_at a.at a.s.now)
    (c.loop-i.invariant.0 ∙ has_end (length a.own.now / 100) a.own.now c.loop-i.i (key_at a.at a.s.now) (omega arith)) c.requires.own in
    record { value = absurd none; upper_bound = absurd none }
