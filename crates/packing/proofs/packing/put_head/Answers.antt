-- `packing::packing::put_head` meets its contract: two numbers, one after the other. Assumes nothing.
use native.Mathlib.Omega.{arith}
use Rattle.readings.proofs.PackLaws.{put_two}
use Rattle.packing.proofs.packing.put_head.Goals as goal

pub returns : goal.returns
returns c =
    let a = c.args in
    put_two 2 0 a.size a.kind a.out.now _ _ (omega (arith, c.requires)) c.write_u16_le.ensures c.write_u16_le-2.ensures
