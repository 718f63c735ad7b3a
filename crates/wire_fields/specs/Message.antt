-- To believe. A message, its layout, its bytes, and what it is for a datagram to read as one (document 01 "Datagram layout"). A message is the numbers
-- of its header and, for each field of its type, the contents or none: presence is part of the message, even where all bits are zero. Assumes nothing.
use Rattle.std.specs.Prelude.{ℕ, ◌+◌, ◌^◌, ◌<◌, ◌≤◌, List, [], ◌∷◌, ◌++◌, true, ◌≡◌, length, take, drop, replicate, get_or, None}
use Rattle.std.proofs.Math.Option.{Option, some, none}
use Rattle.octet.specs.Number.{Bytes, digits_be}
use Rattle.wire_shapes.specs.Field.{gap}
use Rattle.wire_shapes.specs.Shapes.{Kind, has_shape}
use Rattle.wire_fields.specs.Kinds.{kinds_of, joined_fields, sized}
use Rattle.wire_fields.specs.Places.{Part, here}

-- the contents of a field, or none where it is absent
abbrev pub Contents : Type 0
Contents = Option (List ℕ)

-- a part of a datagram: its bytes, the ignored bits zero, and what is left of any such bytes when the ignored bits are cleared
pub record Segment : Type 0 where
  pub bytes : List ℕ
  pub kept : List ℕ → List ℕ

-- no bit is ignored; every bit is ignored
abbrev pub exact : List ℕ → Segment
exact b = record { bytes = b; kept = λ x. x }

abbrev pub blank : ℕ → Segment
blank n = record { bytes = replicate n 0; kept = λ x. replicate (length x) 0 }

-- where a field that starts at place i ends, its padding with it
abbrev pub ends : ℕ → Kind → Contents → ℕ
ends i k none = i
ends i k (some v) = i + (length v + 4) + gap k.padded (i + (length v + 4))

-- number (2), length (2, counting these four), contents, padding; the rest of the layout after it
abbrev pub field_layout : ℕ → Kind → Contents → List Segment → List Segment
field_layout i k none rest = rest
field_layout i k (some v) rest =
    exact (digits_be 256 2 k.number ++ digits_be 256 2 (length v + 4)) ∷ record { bytes = v; kept = k.kept }
    ∷ blank (gap k.padded (i + (length v + 4))) ∷ rest

-- the layout of the fields from place i on
abbrev pub layout_from : ℕ → List Kind → List Contents → List Segment
layout_from i [] fs = []
layout_from i (k ∷ ks) [] = []
layout_from i (k ∷ ks) (f ∷ fs) = field_layout i k f (layout_from (ends i k f) ks fs)

-- the places of the fields from place i on
abbrev pub parts_of : ℕ → List Kind → List Contents → List Part
parts_of i [] fs = []
parts_of i (k ∷ ks) [] = []
parts_of i (k ∷ ks) (none ∷ fs) = None ∷ parts_of i ks fs
parts_of i (k ∷ ks) (some v ∷ fs) = here (i + 4) (length v) ∷ parts_of (ends i k (some v)) ks fs

-- the bytes of a layout, and a datagram with the bits cleared that the layout ignores
abbrev pub message_bytes : List Segment → List ℕ
message_bytes [] = []
message_bytes (s ∷ ss) = s.bytes ++ message_bytes ss

abbrev pub cleared : List Segment → List ℕ → List ℕ
cleared [] d = d
cleared (s ∷ ss) d = s.kept (take (length s.bytes) d) ++ cleared ss (drop (length s.bytes) d)

-- contents of a kind: the shape is right, the ignored bits are zero, they are bytes, and the length fits its two bytes
pub record Held (k : Kind) (v : List ℕ) : Type 0 where
  pub shaped : has_shape k.shape v ≡ true
  pub clear : k.kept v ≡ v
  pub whole : Bytes v
  pub short : length v + 4 < 65536

-- one entry for each kind; only an optional field is absent
abbrev pub Formed : List Kind → List Contents → Type 0
Formed [] [] = Unit {0}
Formed [] (f ∷ fs) = ⊥
Formed (k ∷ ks) [] = ⊥
Formed (k ∷ ks) (none ∷ fs) = (k.optional ≡ true) × Formed ks fs
Formed (k ∷ ks) (some v ∷ fs) = Held k v × Formed ks fs

-- a message: the numbers of its header, and its fields in the order of its kinds
pub record Message : Type 0 where
  pub major : ℕ
  pub minor : ℕ
  pub type : ℕ
  pub id : ℕ
  pub fields : List Contents

-- "A message begins with 12 bytes: 00 10 00 0C, identifier 51 (hex), major version, minor version, type, four bytes of message ID"
abbrev pub opening : List ℕ
opening = 0x00 ∷ 0x10 ∷ 0x00 ∷ 0x0C ∷ 0x51 ∷ []

abbrev pub header_of : Message → List ℕ
header_of m = opening ++ (m.major ∷ m.minor ∷ m.type ∷ digits_be 256 4 m.id)

-- the layout of a message whose type has the kinds ks
abbrev pub layout_of : List Kind → Message → List Segment
layout_of ks m = exact (header_of m) ∷ layout_from 12 ks m.fields

pub record WellFormed (ks : List Kind) (m : Message) : Type 0 where
  pub known : kinds_of m.type ≡ some ks
  pub major-byte : m.major < 256
  pub minor-byte : m.minor < 256
  pub type-byte : m.type < 256
  pub id-small : m.id < 2 ^ 32
  pub formed : Formed ks m.fields
  pub joins : joined_fields m.type m.fields ≡ true
  pub sizes : sized m.type (length (message_bytes (layout_of ks m))) (parts_of 12 ks m.fields) m.fields ≡ true
  pub fits : length (message_bytes (layout_of ks m)) ≤ 1232

-- a datagram reads as a message: with the ignored bits zero it is the message's bytes
pub record Reads (ks : List Kind) (d : List ℕ) (m : Message) : Type 0 where
  pub well : WellFormed ks m
  pub same : cleared (layout_of ks m) d ≡ message_bytes (layout_of ks m)

abbrev pub type_of : List ℕ → ℕ
type_of d = get_or d 7 0
