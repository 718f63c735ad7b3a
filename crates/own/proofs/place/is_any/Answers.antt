use mathlib.Core.Path.{refl, sym, ◌∙◌}
use Prim.Native.Nat.{◌/◌}
use lib.ListN.{length}
use native.Mathlib.Omega.{arith}
use Rattle.key.specs.Number.{key_at}
use Rattle.own.proofs.PlaceLaws.{has_here, has_on, has_end}
use Rattle.own.proofs.place.is_any.Goals as goal

pub loop-i-init : goal.loop-i-init
loop-i-init c = refl

pub same_at-requires : goal.same_at-requires
same_at-requires c = let s = c in record { a_in_bounds = s.requires; b_in_bounds = omega arith }

pub returns-then-same_at : goal.returns-then-same_at
returns-then-same_at c =
    let l = c in
    let a = l.args in
    sym (l.loop-i.invariant ∙ has_here (length a.own.now / 100) a.own.now l.loop-i.i (key_at a.at a.s.now) (omega arith)
    (sym c.same_at.ensures ∙ c.if-same_at.true))

pub loop-i-preserved : goal.loop-i-preserved
loop-i-preserved c =
    let l = c in
    let a = l.args in
    l.loop-i.invariant ∙ has_on (length a.own.now / 100) a.own.now l.loop-i.i (key_at a.at a.s.now) (omega arith)
    (sym c.same_at.ensures ∙ c.if-same_at.false)

pub returns : goal.returns
returns c =
    let l = c in
    let a = l.args in
    sym (l.loop-i.invariant ∙ has_end (length a.own.now / 100) a.own.now l.loop-i.i (key_at a.at a.s.now) (omega arith))
