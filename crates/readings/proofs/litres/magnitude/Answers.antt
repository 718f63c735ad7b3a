-- `readings::litres::magnitude` meets its contract: below 0 by way of -(balance + 1), which always fits. Assumes nothing.
use mathlib.Core.Path.{◌≡◌, sym, ap, ◌∙◌}
use native.Mathlib.Omega.{arith}
use native.Mathlib.Numerals.{add-one}
use lib.IntN.{pos, negsuc, nat_abs}
use lib.Signed.{mag}
use mir.Syntax.{w64}
use mir.Val.{to_z, of_z}
use mir.Facts.{to_z-of_z}
use Rattle.readings.proofs.SignedLaws.{negative, not_negative, up_fits, down_fits, size_is}
use Rattle.readings.proofs.litres.magnitude.Goals.{Else-balance-lt0, Then-balance-lt0}
use Rattle.readings.proofs.litres.magnitude.Goals as goal

-- the argument, where it is negative and where not
below : (c : Then-balance-lt0) → c.args.balance ≡ negsuc (mag c.args.balance)
below c = negative _ (rw (to_z-of_z c.ranges.balance) at c.if-balance-lt0.true)

from_zero : (c : Else-balance-lt0) → to_z w64 (of_z w64 c.args.balance) ≡ pos (mag c.args.balance)
from_zero c = to_z-of_z c.ranges.balance ∙ not_negative _ (rw (to_z-of_z c.ranges.balance) at c.if-balance-lt0.false)

pub overflow_add-result : goal.overflow_add-result
overflow_add-result c = up_fits w64 _ _ c.ranges.balance (below (goal.at.overflow_add-result c).Then-balance-lt0)

pub overflow_sub-result : goal.overflow_sub-result
overflow_sub-result c = down_fits w64 _ _ c.ranges.balance (below (goal.at.overflow_sub-result c).Then-balance-lt0)

pub overflow_cast-result : goal.overflow_cast-result
overflow_cast-result c = rw (size_is w64 _ _ c.ranges.balance (below (goal.at.overflow_cast-result c).Then-balance-lt0)) (tt, record { fits = omega (arith, c.ranges.balance.sfits) })

pub overflow_add-result-then-balance-lt0 : goal.overflow_add-result-then-balance-lt0
overflow_add-result-then-balance-lt0 c = rw (size_is w64 _ _ c.ranges.balance (below (goal.at.overflow_add-result-then-balance-lt0 c).Then-balance-lt0)) (record { fits = omega (arith, c.ranges.balance.sfits) })

pub overflow_cast-result-else-balance-lt0 : goal.overflow_cast-result-else-balance-lt0
overflow_cast-result-else-balance-lt0 c = rw (from_zero (goal.at.overflow_cast-result-else-balance-lt0 c).Else-balance-lt0) (tt, record { fits = omega (arith, c.ranges.balance.sfits) })

pub returns-then-balance-lt0 : goal.returns-then-balance-lt0
returns-then-balance-lt0 c = rw (size_is w64 _ _ c.ranges.balance (below (goal.at.returns-then-balance-lt0 c).Then-balance-lt0)) (add-one _ ∙ sym (ap nat_abs (below (goal.at.returns-then-balance-lt0 c).Then-balance-lt0)))

pub returns-else-balance-lt0 : goal.returns-else-balance-lt0
returns-else-balance-lt0 c = ap nat_abs (to_z-of_z c.ranges.balance)
