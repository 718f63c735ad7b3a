-- `packing::packing::pack_depth` meets its contract: the refusals in their order, then what is allowed is put down. Assumes nothing.
use mathlib.Core.Path.{sym, ◌∙◌}
use native.Mathlib.Omega.{arith}
use Rattle.readings.specs.Reading.{depth_of}
use Rattle.readings.proofs.PackLaws.{pack-no-room, pack-outside, length_depth}
use Rattle.packing.proofs.packing.pack_depth.Goals as goal

pub returns-then-out-lt16-clause-out_after : goal.returns-then-out-lt16-clause-out_after
returns-then-out-lt16-clause-out_after c =
    let a = c.args in
    pack-no-room (depth_of a.depth a.inflow a.outflow) a.out.now
    (omega (arith, c.if-out-lt16.true, length_depth a.depth a.inflow a.outflow))

pub returns-then-not-is_allowed-clause-out_after : goal.returns-then-not-is_allowed-clause-out_after
returns-then-not-is_allowed-clause-out_after c =
    let a = c.args in
    pack-outside (depth_of a.depth a.inflow a.outflow) a.out.now
    (omega (arith, c.if-out-lt16.false, length_depth a.depth a.inflow a.outflow))
    (sym c.is_allowed.ensures ∙ c.if-not-is_allowed.true)

pub put_depth-requires : goal.put_depth-requires
put_depth-requires c = sym c.is_allowed.ensures ∙ c.if-not-is_allowed.false
