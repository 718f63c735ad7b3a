-- `wire_payload::payload::write_payload` meets its contract: the size in the split controls is all that differs, and is written last.
-- Assumes nothing.
use native.Mathlib.Omega.{arith}
use Rattle.wire_payload.proofs.PayloadLaws.{payload-refused, payload-long, payload_written}
use Rattle.wire_payload.proofs.payload.write_payload.Goals as goal

pub returns-then-done-ne0 : goal.returns-then-done-ne0
returns-then-done-ne0 c = payload-refused _ _ _ _ _ _ _ c.put_carrying-done.ensures c.if-done-ne0.true

pub overflow_sub-size : goal.overflow_sub-size
overflow_sub-size c = (payload-long _ _ _ _ _ _ _ c.put_carrying-done.ensures c.if-done-ne0.false).0

pub overflow_cast-size : goal.overflow_cast-size
overflow_cast-size c =
    omega (arith, (payload-long _ _ _ _ _ _ _ c.put_carrying-done.ensures c.if-done-ne0.false).1)

pub write_u16-requires : goal.write_u16-requires
write_u16-requires c =
    let long = payload-long _ _ _ _ _ _ _ c.put_carrying-done.ensures c.if-done-ne0.false in
    omega (arith, long.0, long.2)

pub returns : goal.returns
returns c =
    payload_written _ _ _ _ _ _ _ c.put_carrying-done.ensures c.if-done-ne0.false c.write_u16.ensures
