-- `night::step` meets its contract. Assumes nothing.
use lib.ListN.{length-replicate}
use Prim.Native.Nat.{ℕ}
use Rattle.night.proofs.ToldLaws.{step_is}
use borrow.Author.Rules.{rules}
use Rattle.night.proofs.step.Goals as goal

pub returns : goal.returns
returns c = step_is _ _ _ _ _ _ (length-replicate {A = ℕ} 2464 0) c.step_told-answer.ensures
