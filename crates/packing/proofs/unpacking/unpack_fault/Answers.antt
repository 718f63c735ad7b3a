-- `packing::unpacking::unpack_fault` meets its contract: the numbers at their places. Assumes nothing.
use Rattle.readings.proofs.UnpackLaws.{fault-length, fault-whole}
use Rattle.packing.proofs.unpacking.unpack_fault.Goals as goal

pub returns-then-s-ne14 : goal.returns-then-s-ne14
returns-then-s-ne14 c = fault-length _ c.if-s-ne14.true

pub returns : goal.returns
returns c =
    rw (c.read_u16_le-fault.ensures, c.read_u32_le-inflow.ensures, c.read_u32_le-outflow.ensures)
    (fault-whole _ c.if-s-ne14.false)
