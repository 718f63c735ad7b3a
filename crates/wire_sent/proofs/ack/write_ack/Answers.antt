-- `wire_sent::ack::write_ack` meets its contract: with N, and without. Assumes nothing.
use Rattle.wire_sent.proofs.ack.write_ack.Goals as goal

pub returns-then-n : goal.returns-then-n
returns-then-n c =
    rw c.if-n.true c.write_noted.ensures

pub returns : goal.returns
returns c =
    rw c.if-n.false c.write_plain.ensures
