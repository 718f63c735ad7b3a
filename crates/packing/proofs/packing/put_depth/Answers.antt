-- `packing::packing::put_depth` meets its contract: three parts, put down one after the other, are the bytes of the reading. Assumes nothing.
use mathlib.Core.Path.{sym, ap, ap₂, ◌∙◌}
use mathlib.Core.List.{List}
use Prim.Native.Nat.{ℕ, ◌≤◌}
use native.Mathlib.Omega.{arith}
use lib.ListN.{length}
use lib.Ieee.{binary32, to_bits}
use Rattle.std.specs.Prelude.{Ok}
use Rattle.octet.specs.Part.{splice}
use Rattle.readings.specs.Reading.{depth_of, image}
use Rattle.readings.specs.Pack.{pack_handed}
use Rattle.readings.proofs.DepthLaws.{allowed_no_nan}
use Rattle.readings.proofs.PackLaws.{pack-no-room, pack-written, image_depth, length_depth, put_three}
use Rattle.packing.proofs.packing.put_depth.Goals as goal

pub returns-then-out-lt16 : goal.returns-then-out-lt16
returns-then-out-lt16 c =
    let a = c.args in
    pack-no-room (depth_of a.depth a.inflow a.outflow) a.out.now
    (omega (arith, c.if-out-lt16.true, length_depth a.depth a.inflow a.outflow))

pub float_to_bits-depth : goal.float_to_bits-depth
float_to_bits-depth c = allowed_no_nan _ c.requires

pub returns : goal.returns
returns c =
    let a = c.args in
    let r = depth_of a.depth a.inflow a.outflow in
    let out = a.out.now in
    let size = length_depth a.depth a.inflow a.outflow in
    let room : length (image r) ≤ length out = omega (arith, size, c.if-out-lt16.false) in
    let put =
    put_three 14 1 4 (to_bits binary32 a.depth) a.inflow a.outflow out (omega (arith, size, room)) _ _ _
    c.put_head.ensures c.write_u32_le.ensures c.put_litres.ensures
    ∙ ap (λ (l : List ℕ). splice 0 l out) (image_depth a.depth a.inflow a.outflow) in
    ap₂ (λ (n : ℕ) (l : List ℕ). pack_handed (Ok n) l) (sym size) put ∙ pack-written r out room c.requires
