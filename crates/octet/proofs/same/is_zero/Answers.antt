use mathlib.Core.Path.{◌≡◌, refl, sym, ap, ◌∙◌}
use mathlib.Core.Bool.{Bool, ◌&&◌}
use Prim.Native.Nat.{ℕ, ◌+◌, ◌*◌, ◌/◌}
use native.Mathlib.Omega.{arith}
use lib.ListN.{length, drop}
use Rattle.octet.specs.Part.{all_zero}
use Rattle.octet.proofs.TestLaws.{zero_rest}
use Rattle.octet.proofs.same.is_zero.Goals as goal

pub loop-block-init : goal.loop-block-init
loop-block-init c = refl

pub returns-then-not-zero_block : goal.returns-then-not-zero_block
returns-then-not-zero_block c =
    let l = c in
    let s = l.args.s.now in
    let at = 64 * l.loop-block.block in
    sym (l.loop-block.invariant ∙ zero_rest at 64 s ∙ ap (λ (t : Bool). t && all_zero (drop (at + 64) s))
    (sym c.zero_block.ensures ∙ c.if-not-zero_block.true))

pub loop-block-preserved : goal.loop-block-preserved
loop-block-preserved c =
    let l = c in
    let s = l.args.s.now in
    let b = l.loop-block.block in
    let next : 64 * b + 64 ≡ 64 * (b + 1) = omega arith in
    l.loop-block.invariant ∙ zero_rest (64 * b) 64 s ∙ ap (λ (t : Bool). t && all_zero (drop (64 * b + 64) s))
    (sym c.zero_block.ensures ∙ c.if-not-zero_block.false)
    ∙ ap (λ (n : ℕ). all_zero (drop n s)) next

pub returns : goal.returns
returns c =
    let l = c in
    let s = l.args.s.now in
    let end : 64 * l.loop-block.block ≡ 64 * (length s / 64) = omega arith in
    c.zero_tail.ensures ∙ sym (l.loop-block.invariant ∙ ap (λ (n : ℕ). all_zero (drop n s)) end)
