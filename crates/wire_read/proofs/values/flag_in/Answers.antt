-- `wire_read::values::flag_in` meets its contract, by the two cases of the place. Assumes nothing.
use Rattle.wire_read.specs.Answers.{part_flag}
use Rattle.wire_read.proofs.values.flag_in.Goals as goal

pub returns-in_default : goal.returns-in_default
unfolding part_flag
returns-in_default c = rw c.in_default.is

pub returns : goal.returns
unfolding part_flag
returns c = rw c.in-Some.is c.flag.ensures
