-- `ring::is_up` meets its contract: not more than half, and then more than none. Assumes nothing.
use mathlib.Core.Path.{◌≡◌, sym, ap, ◌∙◌}
use mathlib.Core.Bool.{true, false}
use Prim.Native.Nat.{ℕ}
use lib.Dec.{ltb}
use borrow.Author.Tests.{ltb-true, ltb-false}
use Rattle.key.specs.Number.{number}
use Rattle.key.specs.Around.{half}
use Rattle.key.proofs.KeyLaws.{number_zero}
use Rattle.ring.proofs.HalfLaws.{number_half}
use Rattle.key.proofs.AroundLaws.{steps_many, steps_few}
use Rattle.ring.proofs.is_up.Goals as goal

pub returns-then-is_less : goal.returns-then-is_less
returns-then-is_less c =
    let h = c in
    let u : ℕ = number h.args.up in
    let e : ltb half u ≡ true = ap (λ (n : ℕ). ltb n u) (sym number_half) ∙ sym c.is_less.ensures ∙ c.if-is_less.true in
    sym (steps_many u (ltb-true half u e))

pub returns : goal.returns
returns c =
    let h = c in
    let u : ℕ = number h.args.up in
    let e : ltb half u ≡ false = ap (λ (n : ℕ). ltb n u) (sym number_half) ∙ sym c.is_less.ensures
    ∙ c.if-is_less.false in
    c.is_less-2.ensures ∙ ap (λ (n : ℕ). ltb n u) number_zero ∙ sym (steps_few u (ltb-false half u e))
