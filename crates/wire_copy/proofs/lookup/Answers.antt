-- `wire_copy::lookup` meets its contract: its rows and pieces are the definition's. Assumes nothing.
use Rattle.octet.specs.Number.{digits_be}
use mathlib.Core.Path.{refl}
use Rattle.wire_copy.specs.Resent.{resent}
use Rattle.wire_copy.proofs.lookup.Goals as goal

pub slice_bounds-write_rows-end : goal.slice_bounds-write_rows-end
unfolding digits_be
slice_bounds-write_rows-end c = rw c.lookup_bytes-spelled.ensures

pub write_rows-requires : goal.write_rows-requires
write_rows-requires c =
    (rw c.lookup_rows-rows.ensures, refl)

pub returns : goal.returns
unfolding resent
returns c =
    rw (
      c.no_piece-none.ensures,
      c.piece_of-key.ensures,
      c.piece_of-signature.ensures,
      c.piece_of-credential.ensures,
      c.piece_of-path.ensures,
      c.piece_of-entry.ensures,
      c.first_piece-validate.ensures,
      c.first_piece-target.ensures,
      c.spelled_piece-controls.ensures,
      c.lookup_bytes-spelled.ensures,
      c.kept_precision-kept.ensures,
      c.bit_of-first.ensures.value,
      c.lookup_rows-rows.ensures,
    ) at c.write_rows.ensures
