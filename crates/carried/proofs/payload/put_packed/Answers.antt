-- `carried::payload::put_packed` meets its contract. Assumes nothing.
use mathlib.Core.Path.{refl, ap, sym, ◌∙◌}
use Prim.Native.Nat.{◌≤◌}
use native.Mathlib.Omega.{arith}
use lib.ListN.{length}
use lib.Seq.{length-take-le}
use Rattle.carried.specs.Carry.{carry_handed}
use Rattle.carried.specs.declared.Carry.{Carry}
use Rattle.carried.proofs.CarryLaws.{not-refused, packed-fits, packed-left, packed-bytes, written_short, carried-as}
use Rattle.carried.proofs.payload.put_packed.Goals as goal

pub pack_allowed-packed-requires : goal.pack_allowed-packed-requires
pack_allowed-packed-requires c = c.requires.measured_value

pub slice_bounds-image-end : goal.slice_bounds-image-end
slice_bounds-image-end c =
    let q = c.in-Ok.is in
    let e = c.pack_allowed-packed.ensures in
    let g = c.requires.measured_value in
    let left = c.pack_allowed-packed.new.out in
    let short : c.in-Ok.n ≤ length left =
    omega (arith, packed-fits _ _ _ _ g refl e _ q, packed-left _ _ _ _ g refl e) in
    short

pub slice_bounds-write_payload-end : goal.slice_bounds-write_payload-end
slice_bounds-write_payload-end c =
    let q = c.in-Ok.is in
    let e = c.pack_allowed-packed.ensures in
    let g = c.requires.measured_value in
    sym (length-take-le _ _ (omega (arith, packed-fits _ _ _ _ g refl e _ q, packed-left _ _ _ _ g refl e)))

pub told-requires : goal.told-requires
told-requires c = written_short _ _ _ c.write_payload-done.ensures.answer

pub returns-in-Err : goal.returns-in-Err
returns-in-Err c =
    not-refused _ _ _ _ c.requires.measured_value refl c.pack_allowed-packed.ensures _ c.in-Err.is

pub returns-in-Ok : goal.returns-in-Ok
returns-in-Ok c =
    let q = c.in-Ok.is in
    let e = c.pack_allowed-packed.ensures in
    let g = c.requires.measured_value in
    let out = c.write_payload-done.new.out in
    ap (λ (x : Carry). carry_handed x out) c.told.ensures
    ∙ carried-as _ _ (λ i. omega (arith, c.type_inv.d i)) _ c.requires.major_value _ _ _ _ _ (packed-bytes _ _ _ _ g refl e _ q)
    c.write_payload-done.ensures
