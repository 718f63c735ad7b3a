-- `wire_copy::busy_and_none` meets its contract: two bits with their weights. Assumes nothing.
use native.Mathlib.Omega.{arith}
use Rattle.wire_copy.proofs.busy_and_none.Goals as goal

pub returns : goal.returns
returns c = omega (arith, c.bit_of-busy.ensures.value, c.bit_of-none.ensures.value)
