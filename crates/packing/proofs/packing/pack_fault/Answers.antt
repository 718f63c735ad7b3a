-- `packing::packing::pack_fault` meets its contract: three parts, put down one after the other, are the bytes of the reading. Assumes nothing.
use mathlib.Core.Path.{refl, sym, ap, ap₂, ◌∙◌}
use mathlib.Core.List.{List}
use Prim.Native.Nat.{ℕ, ◌≤◌}
use native.Mathlib.Omega.{arith}
use lib.ListN.{length}
use Rattle.std.specs.Prelude.{Ok}
use Rattle.octet.specs.Part.{splice}
use Rattle.readings.specs.Reading.{fault_of, image}
use Rattle.readings.specs.Pack.{pack_handed}
use Rattle.readings.proofs.PackLaws.{pack-no-room, pack-written, image_fault, length_fault, put_three}
use Rattle.packing.proofs.packing.pack_fault.Goals as goal

pub returns-then-out-lt14-clause-out_after : goal.returns-then-out-lt14-clause-out_after
returns-then-out-lt14-clause-out_after c =
    let a = c.args in
    pack-no-room (fault_of a.fault a.inflow a.outflow) a.out.now
    (omega (arith, c.if-out-lt14.true, length_fault a.fault a.inflow a.outflow))

pub returns-clause-out_after : goal.returns-clause-out_after
returns-clause-out_after c =
    let a = c.args in
    let r = fault_of a.fault a.inflow a.outflow in
    let out = a.out.now in
    let size = length_fault a.fault a.inflow a.outflow in
    let room : length (image r) ≤ length out = omega (arith, size, c.if-out-lt14.false) in
    let put =
    put_three 12 2 2 a.fault a.inflow a.outflow out (omega (arith, size, room)) _ _ _
    c.put_head.ensures c.write_u16_le.ensures c.put_litres.ensures
    ∙ ap (λ (l : List ℕ). splice 0 l out) (image_fault a.fault a.inflow a.outflow) in
    ap₂ (λ (n : ℕ) (l : List ℕ). pack_handed (Ok n) l) (sym size) put ∙ pack-written r out room refl
