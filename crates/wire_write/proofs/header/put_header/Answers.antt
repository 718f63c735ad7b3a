-- `wire_write::header::put_header` meets its contract: three runs, one after the other. Assumes nothing.
use Prim.Native.Nat.{ℕ}
use native.Mathlib.Omega.{arith}
use mathlib.Core.List.{List, [], ◌∷◌, ◌++◌}
use mathlib.Core.Path.{refl}
use Rattle.octet.specs.Number.{digits_be}
use Rattle.octet.proofs.BigLaws.{length-digits_be}
use Rattle.wire_fields.specs.Message.{opening}
use Rattle.wire_write.proofs.PutLaws.{put-put}
use Rattle.wire_write.proofs.header.put_header.Goals as goal

pub returns : goal.returns
returns c =
    let o = c.args.out.now in
    let t : List ℕ = c.args.major ∷ c.args.minor ∷ c.args.kind ∷ [] in
    let h = c.requires in
    let l = length-digits_be 256 4 c.args.id in
    rw (
      c.write_u32.ensures,
      c.copy_to.ensures,
      c.put_opening.ensures,
      put-put o 0 opening (omega arith) 5 t refl (omega arith),
      put-put o 0 (opening ++ t) (omega arith) 8 (digits_be 256 4 c.args.id) refl (omega arith),
    )
