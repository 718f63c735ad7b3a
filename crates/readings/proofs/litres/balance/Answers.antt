-- `readings::litres::balance` meets its contract: each count is below 2 ^ 63, so the difference fits. Assumes nothing.
use mir.Syntax.{w64}
use Rattle.readings.proofs.SignedLaws.{difference-fits, difference-is}
use native.Mathlib.Omega.{arith}
use borrow.Author.Rules.{rules}
use Rattle.readings.proofs.litres.balance.Goals as goal

pub overflow_cast-result : goal.overflow_cast-result
overflow_cast-result c = record { sfits = omega arith }

pub overflow_cast-result-2 : goal.overflow_cast-result-2
overflow_cast-result-2 c = record { sfits = omega arith }

pub overflow_sub-result : goal.overflow_sub-result
overflow_sub-result c = difference-fits w64 c.args.inflow c.args.outflow (search rules) (search rules)

pub returns : goal.returns
returns c = difference-is w64 c.args.inflow c.args.outflow (search rules) (search rules)
