-- `wire_write::field::put_head` meets its contract: two numbers, one after the other. Assumes nothing.
use Prim.Native.Nat.{◌+◌}
use native.Mathlib.Omega.{arith}
use Rattle.octet.specs.Number.{digits_be}
use Rattle.octet.proofs.PartLaws.{splice_next}
use Rattle.octet.proofs.BigLaws.{length-digits_be}
use Rattle.wire_write.proofs.field.put_head.Goals as goal

pub returns : goal.returns
returns c =
    let a = c.args in
    let h = c.requires.0 in
    rw (c.write_u16-2.ensures, c.write_u16.ensures)
    (splice_next a.at 2 (digits_be 256 2 a.number) (digits_be 256 2 (a.len + 4)) a.out.now (length-digits_be 256 2 a.number)
    (omega (arith, length-digits_be 256 2 (a.len + 4))))
