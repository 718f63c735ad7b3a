-- `wire_whole::whole::written` meets its contract. Assumes nothing.

use Rattle.wire_whole.proofs.whole.written.Goals as goal

pub returns-then-room : goal.returns-then-room
returns-then-room c = rw c.if-room.true

pub returns : goal.returns
returns c = rw c.if-room.false
