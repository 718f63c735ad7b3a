-- `ring::how_far` meets its contract: the steps up where they are less than half the ring, else what they leave of the round. Assumes nothing.
use mathlib.Core.Path.{◌≡◌, sym, ap₂, ◌∙◌}
use Prim.Native.Nat.{◌≤◌, ◌<◌}
use native.Mathlib.Omega.{arith}
use Rattle.key.specs.Number.{number}
use Rattle.key.specs.Around.{ring, half, up}
use Rattle.key.proofs.KeyLaws.{number_zero, number-ring}
use Rattle.key.proofs.RingLaws.{half-some, up_rest}
use Rattle.ring.proofs.HalfLaws.{word_low, word_high}
use Rattle.key.proofs.AroundLaws.{apart-up, apart_down}
use Rattle.ring.proofs.how_far.Goals.{Start}
use Rattle.ring.proofs.how_far.Goals as goal

small : (s : Start) → (number s.args.x < ring) × (number s.args.y < ring)
small s = (number-ring s.args.x (omega arith), number-ring s.args.y (omega arith))

pub returns-then-up-lt9223372036854775808 : goal.returns-then-up-lt9223372036854775808
returns-then-up-lt9223372036854775808 c =
    let m = c in
    let a = m.args in
    let n : number m.minus-up.result ≡ up (number a.x) (number a.y) = m.minus-up.ensures in
    let h : number m.minus-up.result < half = word_low m.minus-up.result (omega (arith, m.minus-up.type_inv)) c.if-up-lt9223372036854775808.true in
    n ∙ sym (apart-up (number a.x) (number a.y) (small (goal.at.returns-then-up-lt9223372036854775808 c).Start).0 (small (goal.at.returns-then-up-lt9223372036854775808 c).Start).1 (omega (arith, n, h)))

pub returns : goal.returns
returns c =
    let m = c in
    let a = m.args in
    let o = small (goal.at.returns c).Start in
    let n : number m.minus-up.result ≡ up (number a.x) (number a.y) = m.minus-up.ensures in
    let h : half ≤ number m.minus-up.result = word_high m.minus-up.result (omega (arith, c.if-up-lt9223372036854775808.false)) in
    c.minus.ensures ∙ ap₂ up n number_zero
    ∙ up_rest (number a.x) (number a.y) o.0 o.1 (omega (arith, n, h, half-some))
    ∙ sym (apart_down (number a.x) (number a.y) o.0 o.1 (omega (arith, n, h)))
