-- `wire_sent::authority::write_cpa` meets its contract: its three runs are the message. Assumes nothing.
use native.Mathlib.Omega.{arith}
use Rattle.wire_sent.proofs.FrontLaws.{cpa-known, cpa-put, wrote-long, wrote-short, wrote_right}
use Rattle.wire_sent.proofs.authority.write_cpa.Goals as goal

pub returns-then-cpa-gt1192 : goal.returns-then-cpa-gt1192
returns-then-cpa-gt1192 c =
    let a = c.args in
    wrote-long (cpa-known a.head.major a.head.minor a.head.id a.acked a.cpa.now) a.out.now (omega (arith, c.if-cpa-gt1192.true))

pub returns-then-out-size : goal.returns-then-out-size
returns-then-out-size c =
    let a = c.args in
    wrote-short (cpa-known a.head.major a.head.minor a.head.id a.acked a.cpa.now) a.out.now (omega (arith, c.if-out-size.true))

pub returns : goal.returns
returns c =
    let a = c.args in
    wrote_right (cpa-known a.head.major a.head.minor a.head.id a.acked a.cpa.now) a.out.now (omega (arith, c.if-out-size.false))
    (omega (arith, c.if-cpa-gt1192.false))
    (cpa-put a.head.major a.head.minor a.head.id a.acked a.cpa.now a.out.now (omega (arith, c.if-out-size.false)) c.put_answer.ensures
    c.put_head.ensures c.copy_to.ensures)
