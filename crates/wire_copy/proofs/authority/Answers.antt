-- `wire_copy::authority` meets its contract: its rows and pieces are the definition's. Assumes nothing.
use Rattle.octet.specs.Number.{digits_be}
use mathlib.Core.Path.{refl}
use Rattle.wire_copy.specs.Resent.{resent}
use Rattle.wire_copy.proofs.authority.Goals as goal

pub slice_bounds-write_rows-end : goal.slice_bounds-write_rows-end
unfolding digits_be
slice_bounds-write_rows-end c = rw c.spelled_bytes-spelled.ensures

pub write_rows-requires : goal.write_rows-requires
write_rows-requires c =
    (rw c.authority_rows-rows.ensures, refl)

pub returns : goal.returns
unfolding resent
returns c =
    rw (
      c.piece_of-cpa.ensures,
      c.piece_of-entry.ensures,
      c.piece_of-payload.ensures,
      c.piece_of-classifier.ensures,
      c.piece_of-token.ensures,
      c.piece_of-chain.ensures,
      c.spelled_piece-flags.ensures,
      c.spelled_piece-split.ensures,
      c.spelled_piece-id_piece.ensures,
      c.spelled_bytes-spelled.ensures,
      c.busy_and_none-low.ensures,
      c.bit_of-l.ensures.value,
      c.behind-size.ensures,
      c.authority_rows-rows.ensures,
    ) at c.write_rows.ensures
