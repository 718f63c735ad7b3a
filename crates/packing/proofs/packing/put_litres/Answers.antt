-- `packing::packing::put_litres` meets its contract: two numbers, one after the other. Assumes nothing.
use native.Mathlib.Omega.{arith}
use Rattle.readings.proofs.PackLaws.{put_two}
use Rattle.packing.proofs.packing.put_litres.Goals as goal

pub returns : goal.returns
returns c =
    let a = c.args in
    put_two 4 a.at a.inflow a.outflow a.out.now _ _ (omega (arith, c.requires)) c.write_u32_le.ensures
    c.write_u32_le-2.ensures
