-- Helps the code. What reading at a place finds, as places in the datagram: shown equal to "the datagram reads as a message" (Message) by the laws
-- found-reads and reads-found. The types Span and Place are the code's. Assumes nothing.
use Rattle.std.specs.Prelude.{ℕ, ◌+◌, ◌-◌, ◌≤◌, ◌≡◌, List, [], ◌∷◌, Bool, cond, ◌&&◌, length, get_or, leb, eqb, Some, None}
use Rattle.std.proofs.Math.Option.{Option, some, none}
use Rattle.octet.specs.Part.{part}
use Rattle.wire_shapes.specs.Field.{number_at, gap}
use Rattle.wire_shapes.specs.Shapes.{Kind, has_shape}
use Rattle.wire_fields.specs.Kinds.{joined_fields, sized, derived}
use Rattle.wire_fields.specs.Message.{Message}
use Rattle.wire_shapes.specs.declared.Shape.{Shape}
use Rattle.wire_fields.specs.declared.Span.{Span}
use Rattle.wire_fields.specs.declared.Span.TheVariants.{Whole, Other, Cut}
use Rattle.wire_fields.specs.Places.{Part, Need, Maybe}

-- where a field ends, its padding with it
abbrev pub next_at : List ℕ → ℕ → Bool → ℕ
next_at d i padded = i + number_at (i + 2) 2 d + gap padded (i + number_at (i + 2) 2 d)

-- a field at place i: Other where its number is not there, Cut where its length is short of its own four bytes or it runs past the end
unfoldable pub span_at : List ℕ → ℕ → ℕ → Bool → Span
span_at d i number padded =
    cond (leb (i + 4) (length d) && eqb (number_at i 2 d) number)
    (cond (leb 4 (number_at (i + 2) 2 d) && leb (next_at d i padded) (length d))
    (Whole (record { start = i + 4; len = number_at (i + 2) 2 d - 4 }) (record { at = next_at d i padded }))
    Cut)
    Other

-- a field that must be there
abbrev pub need_of : List ℕ → Shape → Span → Need
need_of d shape (Whole p n) = cond (has_shape shape (part p.start p.len d)) (Some (p, n)) None
need_of d shape Other = None
need_of d shape Cut = None

unfoldable pub need_at : List ℕ → ℕ → ℕ → Bool → Shape → Need
need_at d i number padded shape = need_of d shape (span_at d i number padded)

-- a field that may be absent: by the number at its place
abbrev pub maybe_of : List ℕ → Shape → ℕ → Span → Maybe
maybe_of d shape i (Whole p n) = cond (has_shape shape (part p.start p.len d)) (Some (Some p, n)) None
maybe_of d shape i Other = Some (None, record { at = i })
maybe_of d shape i Cut = None

unfoldable pub maybe_at : List ℕ → ℕ → ℕ → Bool → Shape → Maybe
maybe_at d i number padded shape = maybe_of d shape i (span_at d i number padded)

-- the places of the fields of a list of kinds, from place i to the very end; none where they are not all there, or bytes are left over
abbrev pub before : Part → Option (List Part) → Option (List Part)
before p none = none
before p (some ps) = some (p ∷ ps)

abbrev pub after_need : (ℕ → Option (List Part)) → Need → Option (List Part)
after_need rest (Some (p, n)) = before (Some p) (rest n.at)
after_need rest None = none

abbrev pub after_maybe : (ℕ → Option (List Part)) → Maybe → Option (List Part)
after_maybe rest (Some (p, n)) = before p (rest n.at)
after_maybe rest None = none

abbrev pub field_at : Kind → List ℕ → (ℕ → Option (List Part)) → ℕ → Option (List Part)
field_at k d rest i =
    cond k.optional
    (after_maybe rest (maybe_at d i k.number k.padded k.shape))
    (after_need rest (need_at d i k.number k.padded k.shape))

unfoldable pub places_at : List Kind → List ℕ → ℕ → Option (List Part)
places_at [] d i = cond (eqb i (length d)) (some []) none
places_at (k ∷ ks) d i = field_at k d (places_at ks d) i

-- the contents at the places found, the ignored bits cleared
abbrev pub value_of : Kind → List ℕ → Part → Option (List ℕ)
value_of k d None = none
value_of k d (Some p) = some (k.kept (part p.start p.len d))

abbrev pub values_of : List Kind → List ℕ → List Part → List (Option (List ℕ))
values_of [] d ps = []
values_of (k ∷ ks) d [] = []
values_of (k ∷ ks) d (p ∷ ps) = value_of k d p ∷ values_of ks d ps

-- the places of a message's fields, where what holds between them holds
abbrev pub checked : ℕ → List Kind → List ℕ → Option (List Part) → Option (List Part)
checked t ks d none = none
checked t ks d (some ps) = cond (joined_fields t (values_of ks d ps) && sized t (length d) ps (values_of ks d ps)) (some ps) none

unfoldable pub fields_as : ℕ → List Kind → List ℕ → Option (List Part)
fields_as t ks d = checked t ks d (places_at ks d 12)

-- split controls at a place follow from the rest
abbrev pub contents_in : List ℕ → Part → Option (List ℕ)
contents_in d None = none
contents_in d (Some p) = some (part p.start p.len d)

unfoldable pub whole_in : List ℕ → Part → Bool
whole_in d p = derived (length d) p (contents_in d p)

-- four bytes stand at a place
abbrev pub FourAt : List ℕ → Part → Type 0
FourAt d None = Unit {0}
FourAt d (Some p) = (p.len ≡ 4) × (p.start + p.len ≤ length d)

-- the message in a datagram of which the places of the fields are known
abbrev pub message_at : List Kind → List ℕ → ℕ → List Part → Message
message_at ks d t ps = record { major = get_or d 5 0; minor = get_or d 6 0; type = t; id = number_at 8 4 d; fields = values_of ks d ps }
