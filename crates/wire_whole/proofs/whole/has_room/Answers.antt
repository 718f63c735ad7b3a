-- `wire_whole::whole::has_room` meets its contract: two tests. Assumes nothing.
use borrow.Author.Tests.{le-leb, lt-leb}
use Rattle.wire_whole.proofs.whole.has_room.Goals as goal

pub returns-then-out-size : goal.returns-then-out-size
returns-then-out-size c = rw (lt-leb _ _ c.if-out-size.true)

pub returns : goal.returns
returns c = rw (le-leb _ _ c.if-out-size.false)
