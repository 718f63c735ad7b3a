-- `wire_sent::ack::write_plain` meets its contract: header and acked ID are the ACK. Assumes nothing.
use native.Mathlib.Omega.{arith}
use Rattle.wire_sent.proofs.FrontLaws.{ack-plain, wrote-short, wrote_right}
use Rattle.wire_sent.proofs.ack.write_plain.Goals as goal

pub returns-then-out-lt20 : goal.returns-then-out-lt20
returns-then-out-lt20 c =
    let a = c.args in
    wrote-short (ack-plain a.head.major a.head.minor a.head.id a.acked) a.out.now (omega (arith, c.if-out-lt20.true))

pub returns : goal.returns
returns c =
    let a = c.args in
    wrote_right (ack-plain a.head.major a.head.minor a.head.id a.acked) a.out.now (omega (arith, c.if-out-lt20.false)) (omega arith)
    c.put_acked.ensures
