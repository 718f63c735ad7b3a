-- `plan_flood::not_ours` meets its contract: two keys compared. Assumes nothing.
use mathlib.Core.Path.{ap}
use mathlib.Core.Bool.{not}
use native.Mathlib.Omega.{arith}
use Rattle.plan_flood.proofs.not_ours.Goals as goal

pub returns : goal.returns
returns c = ap not c.is_own.ensures
