-- `table::replace_row` meets its contract: bytes copied to a row's place replace the row (`replace-laid`). Assumes nothing.
use mathlib.Core.Path.{◌∙◌}
use Prim.Native.Nat.{◌+◌, ◌*◌, ◌≤◌}
use native.Mathlib.Nat.{mul-le-mul_left, mul-suc}
use native.Mathlib.Omega.{arith}
use Rattle.table.proofs.EditLaws.{replace-laid}
use Rattle.table.proofs.replace_row.Goals.{Start}
use Rattle.table.proofs.replace_row.Goals as goal

-- the row at the place lies before the end of the used ones
within : (c : Start) → c.args.width * c.args.at + c.args.width ≤ c.args.width * c.args.used
within c = omega (arith, mul-suc c.args.width c.args.at, mul-le-mul_left c.args.width c.requires.0)

pub overflow_mul-from : goal.overflow_mul-from
overflow_mul-from c = omega (arith, within (goal.at.overflow_mul-from c).Start, c.requires.2.room)

pub copy_to-requires : goal.copy_to-requires
copy_to-requires c = omega (arith, within (goal.at.copy_to-requires c).Start, c.requires.2.room, c.requires.1)

pub returns : goal.returns
returns c =
    let start = c in
    c.copy_to.ensures
    ∙ replace-laid start.args.width start.args.used start.args.at start.args.s.now start.requires.2 start.requires.0
    start.args.row.now start.requires.1
