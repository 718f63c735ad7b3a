-- `wire_read::flood::silent` meets its contract: the bit of weight 1. Assumes nothing.
use Rattle.wire_read.proofs.flood.silent.Goals as goal

pub returns : goal.returns
returns c = c.flag.ensures
