-- `wire_read::values::head` meets its contract: a byte and a number at their places. Assumes nothing.
use Rattle.wire_read.specs.Answers.{head_of}
use Rattle.wire_read.proofs.values.head.Goals as goal

pub returns : goal.returns
unfolding head_of
returns c = rw c.read_u32.ensures
