-- `gauge_plan::memory::hands_fit` meets its contract: the tests are the definition's. Assumes nothing.
use mathlib.Core.Path.{ap, ◌∙◌}
use mathlib.Core.Bool.{Bool, ◌&&◌}
use Prim.Native.Nat.{ℕ}
use lib.Dec.{eqb}
use lib.ListN.{length}
use Rattle.cpas.specs.Cpas.{cpas_form}
use Rattle.gauge_plan.specs.Memory.{comes_fit}
use Rattle.gauge_plan.proofs.memory.hands_fit.Goals as goal

pub returns : goal.returns
unfolding comes_fit
returns c l =
    let a = c.args in
    ap (λ (b : Bool). b && eqb (length a.nonce.now) 16 && eqb (length a.key.now) 32)
    (c.cpas_form-certified.ensures ∙ ap (λ (n : ℕ). cpas_form n a.cpas.now) c.count.ensures)
