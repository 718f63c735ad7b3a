use mathlib.Core.Path.{sym, ap, ◌∙◌}
use mathlib.Core.Bool.{Bool, ◌&&◌}
use Prim.Native.Nat.{◌+◌, ◌-◌, ◌*◌, ◌/◌}
use native.Mathlib.Omega.{arith}
use lib.ListN.{length, drop, get_or, drop_of_length-le}
use borrow.Author.Tests.{eq-eqb, ne_eqb}
use Rattle.octet.specs.Part.{all_zero}
use Rattle.octet.proofs.TestLaws.{zero_from, zero_rest}
use Rattle.octet.proofs.same.zero_tail.Goals as goal

pub returns-then-not-zero_words : goal.returns-then-not-zero_words
returns-then-not-zero_words c =
    let a = c.args in
    let s = a.s.now in
    let n = 8 * ((length s - a.at) / 8) in
    sym (zero_rest a.at n s ∙ ap (λ (t : Bool). t && all_zero (drop (a.at + n) s))
    (sym c.zero_words.ensures ∙ c.if-not-zero_words.true))

pub loop-i-init : goal.loop-i-init
loop-i-init c =
    let a = c.args in
    let s = a.s.now in
    let n = 8 * ((length s - a.at) / 8) in
    zero_rest a.at n s ∙ ap (λ (t : Bool). t && all_zero (drop (a.at + n) s))
    (sym c.zero_words.ensures ∙ c.if-not-zero_words.false)

pub returns-then-s-i-ne0 : goal.returns-then-s-i-ne0
returns-then-s-i-ne0 c =
    let l = c in
    let s = l.args.s.now in
    let i = l.loop-i.i in
    sym (l.loop-i.invariant ∙ zero_from i s (omega arith) ∙ ap (λ (t : Bool). t && all_zero (drop (i + 1) s)) (ne_eqb (get_or s i 0) 0 c.if-s-i-ne0.true))

pub loop-i-preserved : goal.loop-i-preserved
loop-i-preserved c =
    let l = c in
    let s = l.args.s.now in
    let i = l.loop-i.i in
    l.loop-i.invariant ∙ zero_from i s (omega arith)
    ∙ ap (λ (t : Bool). t && all_zero (drop (i + 1) s)) (eq-eqb (get_or s i 0) 0 c.if-s-i-ne0.false)

pub returns : goal.returns
unfolding all_zero
returns c =
    let l = c in
    let s = l.args.s.now in
    sym (l.loop-i.invariant ∙ ap all_zero (drop_of_length-le s {i = l.loop-i.i} (omega arith)))
