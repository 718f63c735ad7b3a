use mathlib.Core.Path.{refl, sym, ap, ◌∙◌}
use mathlib.Core.List.{List}
use Prim.Native.Nat.{ℕ, ◌+◌, ◌*◌}
use native.Mathlib.Omega.{arith}
use lib.ListN.{set, length-set}
use lib.Seq.{take_all}
use Rattle.octet.specs.Part.{splice}
use Rattle.octet.proofs.PartLaws.{splice_nil}
use Rattle.digits.specs.Digits.{hex_of}
use Rattle.digits.proofs.DigitLaws.{hex_turn}
use Rattle.digits.proofs.put_hex.Goals.{At-loop-i, Start}
use Rattle.digits.proofs.put_hex.Goals as goal

abbrev start : At-loop-i → Start
start l = (goal.at.At-loop-i l).Start

pub loop-i-init : goal.loop-i-init
unfolding hex_of
loop-i-init c = let a = c.args in sym (splice_nil a.at a.out.now)

pub overflow_mul-place : goal.overflow_mul-place
overflow_mul-place c = omega (arith, (start (goal.at.overflow_mul-place c).At-loop-i).requires, (start (goal.at.overflow_mul-place c).At-loop-i).well_formed)

pub overflow_add-place : goal.overflow_add-place
overflow_add-place c = omega (arith, (start (goal.at.overflow_add-place c).At-loop-i).requires, (start (goal.at.overflow_add-place c).At-loop-i).well_formed)

pub hex_digit-requires : goal.hex_digit-requires
hex_digit-requires c = omega (arith, c.type_inv.s c.loop-i.i)

pub bounds-out-place : goal.bounds-out-place
bounds-out-place c = let l = (goal.at.bounds-out-place c).At-loop-i in omega (arith, (start l).requires, l.loop-i.auto.out)

pub overflow_add-out : goal.overflow_add-out
overflow_add-out c = let l = (goal.at.overflow_add-out c).At-loop-i in omega (arith, (start l).requires, (start l).well_formed)

pub bounds-out-place-in-loop-i : goal.bounds-out-place-in-loop-i
bounds-out-place-in-loop-i c =
    let l = (goal.at.bounds-out-place-in-loop-i c).At-loop-i in
    omega (arith, (start l).requires, l.loop-i.auto.out, length-set l.loop-i.out ((start l).args.at + 2 * l.loop-i.i) c.hex_digit.result)

pub loop-i-preserved : goal.loop-i-preserved
loop-i-preserved c =
    let l = (goal.at.loop-i-preserved c).At-loop-i in
    let a = (start l).args in
    let at = a.at + 2 * l.loop-i.i in
    ap (λ (t : List ℕ). set (set t at c.hex_digit.result) (at + 1) c.hex_digit-in-loop-i.result) l.loop-i.invariant
    ∙ hex_turn a.at l.loop-i.i a.s.now a.out.now (omega arith) (start l).requires c.hex_digit.result
    c.hex_digit-in-loop-i.result
    c.hex_digit.ensures c.hex_digit-in-loop-i.ensures

pub overflow_mul-result : goal.overflow_mul-result
overflow_mul-result c = omega (arith, (start (goal.at.overflow_mul-result c).At-loop-i).requires, (start (goal.at.overflow_mul-result c).At-loop-i).well_formed)

pub overflow_add-result : goal.overflow_add-result
overflow_add-result c = omega (arith, (start (goal.at.overflow_add-result c).At-loop-i).requires, (start (goal.at.overflow_add-result c).At-loop-i).well_formed)

pub returns : goal.returns
returns c =
    let l = (goal.at.returns c).At-loop-i in
    let a = (start l).args in
    let all = take_all l.loop-i.i a.s.now (omega arith) in
    record { value = refl; out_after = l.loop-i.invariant ∙ ap (λ (bs : List ℕ). splice a.at (hex_of bs) a.out.now) all }
