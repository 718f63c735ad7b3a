-- `wire_copy::solicit` meets its contract: its rows and pieces are the definition's. Assumes nothing.
use mathlib.Core.Path.{refl}
use Rattle.wire_copy.specs.Resent.{resent}
use Rattle.wire_copy.proofs.solicit.Goals as goal

pub write_rows-requires : goal.write_rows-requires
write_rows-requires c =
    (rw c.solicit_rows-rows.ensures, refl)

pub returns : goal.returns
unfolding resent
returns c =
    rw (
      c.no_piece-none.ensures,
      c.first_piece-nonce.ensures,
      c.piece_of-entry.ensures,
      c.solicit_rows-rows.ensures,
    ) at c.write_rows.ensures
