-- Helps the code. The rows of the messages' tables, made from the tables themselves (Kinds), and the pieces of their fields, as the code
-- hands them to the one writer. Assumes nothing.
use Rattle.std.specs.Prelude.{ℕ, zero, suc, List, [], ◌∷◌, ◌++◌, Bool, true, false}
use Rattle.octet.specs.Number.{digits_be}
use Rattle.wire_shapes.specs.Shapes.{Kind}
use Rattle.wire_fields.specs.Kinds.{solicit_kinds, advertise_kinds, request_kinds, flood_kinds, inquire_kinds, authority_kinds, ack_kinds, lookup_kinds}
use Rattle.wire_shapes.specs.declared.Shape.{Shape}
use Rattle.wire_shapes.specs.declared.Shape.TheVariants.{Sized, Any, Entry, Array, Lookup, Split}
use Rattle.wire_write.specs.declared.Row.{Row}
use Rattle.wire_write.specs.declared.Piece.{Piece}
use Rattle.wire_write.specs.declared.Source.TheVariants.{Spelled, First, Second}

-- a row by its values, and none
abbrev pub need_row : ℕ → Bool → Shape → Row
need_row n padded shape = record { number = n; optional = false; padded = padded; shape = shape }

abbrev pub may_row : ℕ → Bool → Shape → Row
may_row n padded shape = record { number = n; optional = true; padded = padded; shape = shape }

abbrev pub no_row : Row
no_row = may_row 0 false Any

-- what writing asks of contents is the shape of their kind; but split controls follow from the rest of a message, so that nothing is asked of
-- them but their four bytes
abbrev pub asked : Shape → Shape
asked (Sized n) = Sized n
asked Any = Any
asked Entry = Entry
asked Lookup = Lookup
asked Split = Sized 4
asked (Array element size least most) = Array element size least most

abbrev pub row_of : Kind → Row
row_of k = record { number = k.number; optional = k.optional; padded = k.padded; shape = asked k.shape }

-- so many rows: those of the kinds, and none behind them
abbrev pub rows_of : ℕ → List Kind → List Row
rows_of zero ks = []
rows_of (suc n) [] = no_row ∷ rows_of n []
rows_of (suc n) (k ∷ ks) = row_of k ∷ rows_of n ks

abbrev pub solicit_rows : List Row
solicit_rows = rows_of 9 solicit_kinds

abbrev pub advertise_rows : List Row
advertise_rows = rows_of 9 advertise_kinds

abbrev pub request_rows : List Row
request_rows = rows_of 9 request_kinds

abbrev pub flood_rows : List Row
flood_rows = rows_of 9 flood_kinds

abbrev pub inquire_rows : List Row
inquire_rows = rows_of 9 inquire_kinds

abbrev pub authority_rows : List Row
authority_rows = rows_of 9 authority_kinds

abbrev pub ack_rows : List Row
ack_rows = rows_of 9 ack_kinds

abbrev pub lookup_rows : List Row
lookup_rows = rows_of 9 lookup_kinds

-- a piece of each slice, and none
abbrev pub spelled_piece : ℕ → ℕ → Piece
spelled_piece start len = record { there = true; source = Spelled; start = start; len = len }

abbrev pub first_piece : ℕ → ℕ → Piece
first_piece start len = record { there = true; source = First; start = start; len = len }

abbrev pub second_piece : ℕ → ℕ → Piece
second_piece start len = record { there = true; source = Second; start = start; len = len }

abbrev pub no_piece : Piece
no_piece = record { there = false; source = Spelled; start = 0; len = 0 }

-- the bytes that the writer spells out: acked ID at 0, split controls at 4, flags at 8 with a byte after them
abbrev pub spelled_bytes : ℕ → ℕ → ℕ → ℕ → List ℕ
spelled_bytes acked size high low = digits_be 256 4 acked ++ digits_be 256 2 size ++ (0 ∷ 0 ∷ high ∷ low ∷ 0 ∷ [])

-- LOOKUP's controls
abbrev pub lookup_bytes : ℕ → ℕ → ℕ → ℕ → List ℕ
lookup_bytes low precision criteria reason = 0 ∷ low ∷ (digits_be 256 2 precision ++ (criteria ∷ reason ∷ 0 ∷ 0 ∷ []))

-- ACK, its flags there or not
abbrev pub ack_pieces : Bool → List Piece
ack_pieces n =
    spelled_piece 0 4 ∷ record { there = n; source = Spelled; start = 8; len = 2 }
    ∷ no_piece ∷ no_piece ∷ no_piece ∷ no_piece ∷ no_piece ∷ no_piece ∷ no_piece ∷ []
