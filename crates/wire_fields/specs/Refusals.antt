-- Helps the code. What reading a datagram gives, by document 01's table "What comes back": 2 to 7 in their order, or the type of the message and the places of
-- its fields. 6 and 7 go by places (Reading); that a message is found exactly where the datagram reads as one are the laws found-reads and reads-found.
-- Assumes nothing.
use Rattle.std.specs.Prelude.{ℕ, List, [], ◌∷◌, Bool, false, not, ◌&&◌, length, get_or, leb, eqb, Some, None}
use Rattle.std.proofs.Math.Option.{Option, some, none}
use Rattle.octet.specs.Part.{part, same}
use Rattle.refusal.specs.Table.{Refusal, when, or_refuse}
use Rattle.wire_shapes.specs.Shapes.{Kind}
use Rattle.wire_fields.specs.Kinds.{kinds_of, present}
use Rattle.wire_fields.specs.Message.{opening, type_of}
use Rattle.wire_fields.specs.Places.{Part, Need}
use Rattle.wire_fields.specs.Reading.{need_at, fields_as, whole_in}
use Rattle.wire_shapes.specs.declared.Shape.TheVariants.{Sized, Split}

-- what a datagram holds: the number of a refusal, or the type of a message and the places of its fields
pub data Found : Type 0 where
  refused : ℕ → Found
  found : ℕ → List Part → Found

-- a type's fields by themselves: 6 where they are not all right
abbrev pub found_of : ℕ → Option (List Part) → Found
found_of t none = refused 6
found_of t (some ps) = found t ps

abbrev pub spans_of : Option (List Part) → List Part
spans_of none = []
spans_of (some ps) = ps

-- the places of all fields of the datagram's type, where each is right
abbrev pub fields_by : ℕ → List ℕ → Option (List Kind) → Option (List Part)
fields_by t d none = none
fields_by t d (some ks) = fields_as t ks d

abbrev pub fields_in : List ℕ → Option (List Part)
fields_in d = fields_by (type_of d) d (kinds_of (type_of d))

-- an AUTHORITY in part: acked ID and split controls, the fields before the buffer's bytes, are right, and the buffer is not whole
abbrev pub part_by_split : List ℕ → Need → Bool
part_by_split d (Some (p, n)) = not (whole_in d (Some p))
part_by_split d None = false

abbrev pub part_by_acked : List ℕ → Need → Bool
part_by_acked d (Some (p, n)) = part_by_split d (need_at d n.at 0x98 false Split)
part_by_acked d None = false

unfoldable pub in_part : ℕ → List ℕ → Bool
in_part t d = eqb t 8 && part_by_acked d (need_at d 12 0x18 false (Sized 4))

-- the table, in its order
abbrev pub refusals : List ℕ → ℕ → List Refusal
refusals d major =
    when 2 (not (leb 12 (length d) && leb (length d) 1232))
    ∷ when 3 (not (same (part 0 5 d) opening))
    ∷ when 4 (not (eqb (get_or d 5 0) major))
    ∷ when 5 (not (present (kinds_of (type_of d))))
    ∷ when 6 (not (in_part (type_of d) d) && not (present (fields_in d)))
    ∷ when 7 (in_part (type_of d) d)
    ∷ []

unfoldable pub found_in : List ℕ → ℕ → Found
found_in d major = or_refuse refused (refusals d major) (found (type_of d) (spans_of (fields_in d)))
