-- `listed::one_more` meets its contract. Assumes nothing.
use native.Mathlib.Omega.{arith}
use Rattle.listed.proofs.one_more.Goals as goal

pub returns-then-more : goal.returns-then-more
returns-then-more c = rw c.if-more.true (omega arith)
