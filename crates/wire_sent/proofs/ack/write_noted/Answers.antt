-- `wire_sent::ack::write_noted` meets its contract: its three runs are the ACK with N. Assumes nothing.
use native.Mathlib.Omega.{arith}
use Rattle.wire_sent.proofs.FrontLaws.{ack-noted, noted-put, wrote-short, wrote_right}
use Rattle.wire_sent.proofs.ack.write_noted.Goals as goal

pub returns-then-out-lt26 : goal.returns-then-out-lt26
returns-then-out-lt26 c =
    let a = c.args in
    wrote-short (ack-noted a.head.major a.head.minor a.head.id a.acked) a.out.now (omega (arith, c.if-out-lt26.true))

pub returns : goal.returns
returns c =
    let a = c.args in
    wrote_right (ack-noted a.head.major a.head.minor a.head.id a.acked) a.out.now (omega (arith, c.if-out-lt26.false)) (omega arith)
    (noted-put a.head.major a.head.minor a.head.id a.acked a.out.now (omega (arith, c.if-out-lt26.false)) c.put_acked.ensures
    c.put_head.ensures c.write_u16.ensures)
