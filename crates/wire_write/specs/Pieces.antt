-- Helps the code. A message as rows of its table and pieces of lent slices, in which the one writer has it: shown to be the bytes of the message that they make
-- (Message) by the laws of this crate. Row, Piece and Source are the code's. Assumes nothing.
use Rattle.std.specs.Prelude.{ℕ, ◌+◌, ◌≤◌, List, [], ◌∷◌, ◌++◌, Bool, true, cond, ◌&&◌, ◌≡◌, leb, length, replicate}
use Rattle.octet.specs.Number.{digits_be}
use Rattle.octet.specs.Part.{part}
use Rattle.wire_shapes.specs.Field.{gap}
use Rattle.wire_shapes.specs.Shapes.{Kind, has_shape}
use Rattle.wire_fields.specs.Message.{Contents, Message, message_bytes, layout_of}
use Rattle.wire_read.specs.Meaning.{held}
use Rattle.wire_write.specs.Writing.{Made}
use Rattle.wire_write.specs.declared.Row.{Row}
use Rattle.wire_write.specs.declared.Piece.{Piece}
use Rattle.wire_write.specs.declared.Source.{Source}
use Rattle.wire_write.specs.declared.Source.TheVariants.{Spelled, First, Second}

-- the bytes of a field that starts at place i, and where it ends
unfoldable pub field_bytes : ℕ → ℕ → Bool → List ℕ → List ℕ
field_bytes i number padded v =
    digits_be 256 2 number ++ digits_be 256 2 (length v + 4) ++ v ++ replicate (gap padded (i + (length v + 4))) 0

abbrev pub end_of : ℕ → Bool → ℕ → ℕ
end_of i padded len = i + (len + 4) + gap padded (i + (len + 4))

-- the same of a field that may be absent
unfoldable pub part_bytes : ℕ → Bool → ℕ → Bool → List ℕ → List ℕ
part_bytes i there number padded v = cond there (field_bytes i number padded v) []

unfoldable pub past_of : ℕ → Bool → Bool → ℕ → ℕ
past_of i there padded len = cond there (end_of i padded len) i

-- a field handed in: whether it is there, and its contents
pub record Given : Type 0 where
  pub there : Bool
  pub bytes : List ℕ

abbrev pub contents_of : List Given → List Contents
contents_of [] = []
contents_of (g ∷ gs) = held g.there g.bytes ∷ contents_of gs

-- a message of fields handed in
abbrev pub message_pieces : ℕ → ℕ → ℕ → ℕ → List Given → Message
message_pieces major minor type id gs =
    record { major = major; minor = minor; type = type; id = id; fields = contents_of gs }

-- what pieces are taken from: the bytes that the writer spells out and two lent slices
pub record Lent : Type 0 where
  pub spelled : List ℕ
  pub first : List ℕ
  pub second : List ℕ

abbrev pub lent_of : List ℕ → List ℕ → List ℕ → Lent
lent_of spelled first second = record { spelled = spelled; first = first; second = second }

abbrev pub source_of : Lent → Source → List ℕ
source_of l Spelled = l.spelled
source_of l First = l.first
source_of l Second = l.second

-- the contents of a piece; and whether they are right for a row: they stand within their slice and have the shape
abbrev pub piece_bytes : Lent → Piece → List ℕ
piece_bytes l p = part p.start p.len (source_of l p.source)

abbrev pub ok_from : List ℕ → Row → Piece → Bool
ok_from s r p = leb (p.start + p.len) (length s) && has_shape r.shape (part p.start p.len s)

abbrev pub piece_ok : Lent → Row → Piece → Bool
piece_ok l r p = cond p.there (ok_from (source_of l p.source) r p) r.optional

abbrev pub rows_ok : Lent → List Row → List Piece → Bool
rows_ok l [] ps = true
rows_ok l (r ∷ rs) [] = true
rows_ok l (r ∷ rs) (p ∷ ps) = piece_ok l r p && rows_ok l rs ps

abbrev pub givens_of : Lent → List Piece → List Given
givens_of l [] = []
givens_of l (p ∷ ps) = record { there = p.there; bytes = piece_bytes l p } ∷ givens_of l ps

-- a piece that is there stands within its source
abbrev pub PieceIn : Lent → Piece → Type 0
PieceIn l p = p.there ≡ true → p.start + p.len ≤ length (source_of l p.source)

abbrev pub AllIn : Lent → List Piece → Type 0
AllIn l [] = Unit {0}
AllIn l (p ∷ ps) = PieceIn l p × AllIn l ps

-- the kind that a row says; writing asks nothing of the ignored bits
abbrev pub kind_of_row : Row → Kind
kind_of_row r = record { number = r.number; optional = r.optional; padded = r.padded; shape = r.shape; kept = λ v. v }

abbrev pub kinds_of_rows : List Row → List Kind
kinds_of_rows [] = []
kinds_of_rows (r ∷ rs) = kind_of_row r ∷ kinds_of_rows rs

-- where the fields end, by the lengths that the pieces say
abbrev pub end_rows : ℕ → List Row → List Piece → ℕ
end_rows i [] ps = i
end_rows i (r ∷ rs) [] = i
end_rows i (r ∷ rs) (p ∷ ps) = end_rows (past_of i p.there r.padded p.len) rs ps

-- what is written of a message of a type: 6, or its bytes
unfoldable pub made_by : ℕ → ℕ → ℕ → ℕ → Lent → List Row → List Piece → Made
made_by major minor type id l rows ps =
    record {
      ok = rows_ok l rows ps;
      bytes = message_bytes (layout_of (kinds_of_rows rows) (message_pieces major minor type id (givens_of l ps)));
    }
