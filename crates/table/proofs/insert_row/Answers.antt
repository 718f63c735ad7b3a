-- `table::insert_row` meets its contract: bytes inserted at a row's place are a row inserted (`insert-laid`). Assumes nothing.
use mathlib.Core.Path.{◌∙◌}
use native.Mathlib.Nat.{mul-le-mul_left}
use native.Mathlib.Omega.{arith}
use Rattle.table.proofs.EditLaws.{insert-laid}
use Rattle.table.proofs.insert_row.Goals as goal

pub overflow_mul-from : goal.overflow_mul-from
overflow_mul-from c = omega (arith, mul-le-mul_left c.args.width c.requires.0)

pub insert-requires : goal.insert-requires
insert-requires c =
    let below = mul-le-mul_left c.args.width c.requires.0 in
    record { at_le_end = omega arith; src_in_bounds = omega arith }

pub returns : goal.returns
returns c =
    let start = c in
    c.insert.ensures
    ∙ insert-laid start.args.width start.args.used start.args.at start.args.s.now start.requires.3 start.requires.0
    start.args.row.now start.requires.1 start.requires.2
