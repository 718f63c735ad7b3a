use mathlib.Core.Path.{refl, sym, ap, ap₂, ◌∙◌}
use Prim.Native.Nat.{ℕ, ◌+◌}
use native.Mathlib.Omega.{arith}
use mathlib.Core.Bool.{Bool, ◌&&◌}
use mathlib.Core.List.{List}
use lib.ListN.{drop, get_or, drop_of_length-le}
use borrow.Author.Tests.{eq-eqb, ne_eqb}
use Rattle.octet.specs.Part.{same}
use Rattle.octet.proofs.TestLaws.{same-lengths, same_from, and_true, flag_falls, flag_stays}
use Rattle.octet.proofs.same.equal.Goals as goal
use Rattle.octet.proofs.same.equal.Goals.{then-a-i, else-a-i}

pub returns-then-a-b : goal.returns-then-a-b
returns-then-a-b c = sym (same-lengths c.args.a.now c.args.b.now c.if-a-b.true)

pub loop-i-init : goal.loop-i-init
loop-i-init c = (refl)

pub loop-i-preserved : goal.loop-i-preserved
loop-i-preserved c =
    let at-loop = c in
    let i = at-loop.loop-i.i in
    let a = at-loop.args.a.now in
    let b = at-loop.args.b.now in
    let flag = at-loop.loop-i.same in
    let rest = same (drop (i + 1) a) (drop (i + 1) b) in
    let turn = at-loop.loop-i.invariant ∙ ap (λ (t : Bool). flag && t) (same_from i a b (omega arith) (omega arith)) in
    elim c.if-a-i.branch [
      | then-a-i w ↦ (flag_falls flag rest turn (ne_eqb (get_or a i 0) (get_or b i 0) w.if-a-i.true) w.same-is)
      | else-a-i w ↦ (flag_stays flag rest turn (eq-eqb (get_or a i 0) (get_or b i 0) w.if-a-i.false) w.same-is)
    ]

pub returns : goal.returns
unfolding same
returns c =
    let at-loop = c in
    let i = at-loop.loop-i.i in
    sym (at-loop.loop-i.invariant
    ∙ ap₂ (λ (k l : List ℕ). at-loop.loop-i.same && same k l) (drop_of_length-le at-loop.args.a.now {i = i} (omega arith))
    (drop_of_length-le at-loop.args.b.now {i = i} (omega arith))
    ∙ and_true at-loop.loop-i.same)
