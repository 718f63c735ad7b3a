-- `wire_payload::payload::put_carrying` meets its contract. Assumes nothing.
use Rattle.wire_payload.specs.Payload.{carrying}
use Rattle.octet.specs.Number.{digits_be}
use mathlib.Core.Path.{refl}
use Rattle.wire_payload.proofs.payload.put_carrying.Goals as goal

pub slice_bounds-write_rows-end : goal.slice_bounds-write_rows-end
unfolding digits_be
slice_bounds-write_rows-end c = rw c.spelled_bytes-spelled.ensures

pub write_rows-requires : goal.write_rows-requires
write_rows-requires c =
    (rw c.authority_rows-rows.ensures, refl)

pub returns : goal.returns
unfolding carrying
returns c =
    rw (
      c.piece_of-cpa.ensures,
      c.piece_of-entry.ensures,
      c.second_piece-carried.ensures,
      c.piece_of-classifier.ensures,
      c.piece_of-token.ensures,
      c.piece_of-chain.ensures,
      c.spelled_piece-flags.ensures,
      c.spelled_piece-split.ensures,
      c.spelled_piece-id_piece.ensures,
      c.spelled_bytes-spelled.ensures,
      c.busy_and_none-low.ensures,
      c.bit_of-l.ensures.value,
      c.authority_rows-rows.ensures,
    ) at c.write_rows.ensures
