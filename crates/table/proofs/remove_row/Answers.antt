-- `table::remove_row` meets its contract: bytes removed at a row's place are a row removed (`remove-laid`). Assumes nothing.
use mathlib.Core.Path.{◌∙◌}
use Prim.Native.Nat.{◌+◌, ◌*◌, ◌≤◌}
use native.Mathlib.Nat.{mul-le-mul_left, mul-suc}
use native.Mathlib.Omega.{arith}
use Rattle.table.proofs.EditLaws.{remove-laid}
use Rattle.table.proofs.remove_row.Goals.{Start}
use Rattle.table.proofs.remove_row.Goals as goal

-- the row at the place lies before the end of the used ones
within : (c : Start) → c.args.width * c.args.at + c.args.width ≤ c.args.width * c.args.used
within c = omega (arith, mul-suc c.args.width c.args.at, mul-le-mul_left c.args.width c.requires.0)

pub overflow_mul-from : goal.overflow_mul-from
overflow_mul-from c = omega (arith, within (goal.at.overflow_mul-from c).Start, c.requires.1.room)

pub overflow_mul-end : goal.overflow_mul-end
overflow_mul-end c = omega (arith, c.requires.1.room)

pub remove-requires : goal.remove-requires
remove-requires c = record { n_bound = within (goal.at.remove-requires c).Start; end_in_bounds = c.requires.1.room }

pub returns : goal.returns
returns c =
    let start = c in
    c.remove.ensures
    ∙ remove-laid start.args.width start.args.used start.args.at start.args.s.now start.requires.1 start.requires.0
