-- `wire_copy::ack` meets its contract: its rows and pieces are the definition's. Assumes nothing.
use Rattle.octet.specs.Number.{digits_be}
use mathlib.Core.Path.{refl}
use Rattle.wire_copy.specs.Resent.{resent}
use Rattle.wire_copy.proofs.ack.Goals as goal

pub slice_bounds-write_rows-end : goal.slice_bounds-write_rows-end
unfolding digits_be
slice_bounds-write_rows-end c = rw c.spelled_bytes-spelled.ensures

pub write_rows-requires : goal.write_rows-requires
write_rows-requires c =
    (rw c.ack_rows-rows.ensures, refl)

pub returns : goal.returns
unfolding resent
returns c =
    rw (
      c.no_piece-none.ensures,
      c.spelled_if-flags.ensures,
      c.spelled_piece-id_piece.ensures,
      c.spelled_bytes-spelled.ensures,
      c.bit_of-low.ensures.value,
      c.ack_rows-rows.ensures,
    ) at c.write_rows.ensures
