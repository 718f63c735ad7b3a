-- `wire_write::field::put_bytes` meets its contract: head, contents and padding are the field (put-field). Assumes nothing.
use Prim.Native.Nat.{◌≤◌}
use mathlib.Core.Path.{◌≡◌, sym}
use lib.ListN.{length}
use Rattle.octet.specs.Part.{part}
use Rattle.octet.proofs.PartLaws.{length_part}
use Rattle.wire_write.specs.Pieces.{end_of}
use Rattle.wire_write.proofs.PutLaws.{put-field}
use Rattle.wire_write.proofs.field.put_bytes.Goals as goal

pub returns : goal.returns
returns c =
    let a = c.args in
    let v = part a.start a.len a.s.now in
    let l : a.len ≡ length v = sym (length_part a.start a.len a.s.now c.requires.len_in_bounds) in
    let h : end_of a.at a.padded (length v) ≤ length a.out.now = rw l at c.requires.len_in_bounds_2 in record {
      value = c.put_gap.ensures.value;
      out_after = rw (c.put_gap.ensures.out_after, c.copy_piece.ensures, c.put_head.ensures)
          (put-field a.out.now a.at a.number a.padded v h a.len l);
    }
