-- `wire_copy::request` meets its contract: its rows and pieces are the definition's. Assumes nothing.
use Rattle.octet.specs.Number.{digits_be}
use mathlib.Core.Path.{refl}
use Rattle.wire_copy.specs.Resent.{resent}
use Rattle.wire_copy.proofs.request.Goals as goal

pub slice_bounds-write_rows-end : goal.slice_bounds-write_rows-end
unfolding digits_be
slice_bounds-write_rows-end c = rw c.spelled_bytes-spelled.ensures

pub write_rows-requires : goal.write_rows-requires
write_rows-requires c =
    (rw c.request_rows-rows.ensures, refl)

pub returns : goal.returns
unfolding resent
returns c =
    rw (
      c.no_piece-none.ensures,
      c.piece_of-key.ensures,
      c.piece_of-signature.ensures,
      c.piece_of-credential.ensures,
      c.piece_of-keys.ensures,
      c.first_piece-nonce.ensures,
      c.spelled_if-split.ensures,
      c.spelled_if-flags.ensures,
      c.spelled_bytes-spelled.ensures,
      c.behind-size.ensures,
      c.split_end-place.ensures,
      c.request_rows-rows.ensures,
    ) at c.write_rows.ensures
