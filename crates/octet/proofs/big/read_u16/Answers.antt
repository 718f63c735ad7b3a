-- `octet::read_u16` meets its contract: two bytes fit, and the part at the place is those two. Assumes nothing.
use Prim.Native.Nat.{◌+◌}
use native.Mathlib.Omega.{arith}
use Rattle.octet.specs.Number.{value_be}
use Rattle.octet.proofs.PartLaws.{part_two}
use Rattle.octet.proofs.big.read_u16.Goals as goal

pub overflow_cast-high : goal.overflow_cast-high
overflow_cast-high c = omega (arith, c.type_inv.s c.args.at)

pub overflow_cast-low : goal.overflow_cast-low
overflow_cast-low c = omega (arith, c.type_inv.s (c.args.at + 1))

pub overflow_mul-result : goal.overflow_mul-result
overflow_mul-result c = omega (arith, c.type_inv.s c.args.at)

pub overflow_add-result : goal.overflow_add-result
overflow_add-result c =
    omega (arith, c.type_inv.s c.args.at, c.type_inv.s (c.args.at + 1))

pub returns : goal.returns
unfolding value_be
returns c = rw (part_two c.args.at c.args.s.now c.requires) (omega arith)
