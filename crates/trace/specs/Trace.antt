-- To believe. A recorded night as bytes: "A trace is records: length (2 bytes, counting what follows), kind (2 bytes), body; lengths, kinds and IDs
-- little-endian". Assumes nothing.
use Rattle.std.specs.Prelude.{ℕ, zero, suc, ◌+◌, Bool, true, cond, ◌&&◌, List, [], ◌∷◌, ◌++◌, eqb, leb, ltb, length, take, drop}
use Rattle.octet.specs.Number.{value_le, digits_le}
use Rattle.octet.specs.Part.{part}
use Rattle.table.specs.Rows.{joined}

-- ---- a record's bytes, the two of its length included

abbrev pub length_of : List ℕ → ℕ
length_of r = value_le 256 (part 0 2 r)

abbrev pub kind_of : List ℕ → ℕ
kind_of r = value_le 256 (part 2 2 r)

abbrev pub body_of : List ℕ → List ℕ
body_of r = drop 4 r

-- "Kind 1: message ID 4, verdict 1, key 32, nonce 16, datagram. Kind 2: message ID 4, neighbour key 32, record key 32. Kind 3: a tick, no body ..
-- kind 4, body 102 bytes"
abbrev pub is_kind : ℕ → Bool
is_kind kind = ltb 0 kind && ltb kind 5

-- has a body of the kind this many bytes? Of an unknown kind any number will do
unfoldable pub body_fits : ℕ → ℕ → Bool
body_fits kind n =
    cond (eqb kind 1) (leb 53 n) (cond (eqb kind 2) (eqb n 68) (cond (eqb kind 3) (eqb n 0) (cond (eqb kind 4) (eqb n 102) true)))

-- ---- a trace's records

-- each has as many bytes as its length says; the last has fewer where the trace ends first. The first number is one that the records do not use up
unfoldable pub cut_into : ℕ → List ℕ → List (List ℕ)
cut_into zero bytes = []
cut_into (suc n) [] = []
cut_into (suc n) (b ∷ bs) = take (2 + length_of (b ∷ bs)) (b ∷ bs) ∷ cut_into n (drop (2 + length_of (b ∷ bs)) (b ∷ bs))

abbrev pub records_of : List ℕ → List (List ℕ)
records_of bytes = cut_into (length bytes) bytes

-- ---- a trace written

pub record Piece : Type 0 where
  pub kind : ℕ
  pub body : List ℕ

unfoldable pub written : Piece → List ℕ
written p = digits_le 256 2 (2 + length p.body) ++ digits_le 256 2 p.kind ++ p.body

unfoldable pub all_written : List Piece → List (List ℕ)
all_written [] = []
all_written (p ∷ ps) = written p ∷ all_written ps

abbrev pub trace_of : List Piece → List ℕ
trace_of ps = joined (all_written ps)

-- a record read: its kind and its body
abbrev pub piece_of : List ℕ → Piece
piece_of r = record { kind = kind_of r; body = body_of r }
