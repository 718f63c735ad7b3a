-- Helps the code. What writing an AUTHORITY again with another payload makes, as rows and pieces: shown in `wire` to be the bytes of the message with that field
-- changed. Assumes nothing.
use Rattle.std.specs.Prelude.{ℕ, ◌-◌, List, [], ◌∷◌, length}
use Rattle.wire_read.specs.declared.messages.Authority.{Authority}
use Rattle.wire_buffer.specs.declared.Inside.{Inside}
use Rattle.wire_write.specs.Writing.{Made}
use Rattle.wire_write.specs.Pieces.{lent_of, made_by}
use Rattle.wire_write.specs.Rows.{authority_rows, spelled_piece, second_piece}
use Rattle.wire_write.specs.declared.Piece.{Piece}
use Rattle.wire_copy.specs.Resent.{piece_of, authority_bytes}

abbrev pub carrying_pieces : Inside → List ℕ → List Piece
carrying_pieces f v =
    spelled_piece 0 4 ∷ spelled_piece 4 4 ∷ spelled_piece 8 2 ∷ piece_of f.chain ∷ piece_of f.token ∷ piece_of f.classifier ∷ second_piece 0 (length v)
    ∷ piece_of f.entry ∷ piece_of f.cpa ∷ []

-- split controls that say so many bytes
unfoldable pub carrying : ℕ → List ℕ → Authority → List ℕ → ℕ → Made
carrying major d m v size =
    made_by major m.head.minor 8 m.head.id (lent_of (authority_bytes m.acked size m.fields) d v) authority_rows
    (carrying_pieces m.fields v)

-- split controls that say as many as follow: behind the header, the acked ID and themselves
unfoldable pub with_payload : ℕ → List ℕ → Authority → List ℕ → Made
with_payload major d m v = carrying major d m v (length (carrying major d m v 0).bytes - 28)
