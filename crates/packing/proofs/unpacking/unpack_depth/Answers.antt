-- `packing::unpacking::unpack_depth` meets its contract: the numbers at their places. Assumes nothing.
use mathlib.Core.Path.{◌∙◌}
use Rattle.readings.proofs.UnpackLaws.{depth-length, depth-whole}
use Rattle.packing.proofs.unpacking.unpack_depth.Goals as goal

pub returns-then-s-ne16 : goal.returns-then-s-ne16
returns-then-s-ne16 c = depth-length _ c.if-s-ne16.true

pub returns : goal.returns
returns c =
    c.depth_reading.ensures
    ∙ rw (c.read_u32_le-bits.ensures, c.read_u32_le-inflow.ensures, c.read_u32_le-outflow.ensures)
    (depth-whole _ c.if-s-ne16.false)
