-- To believe. The fields of each message in their order, as document 000 lists them (section 2.2.2).
-- "An optional field is present or absent by the number found at its place"; "flag bits that it doesn't name are reserved". Assumes nothing.
use Rattle.std.specs.Prelude.{ℕ, ◌+◌, ◌-◌, List, [], ◌∷◌, ◌++◌, Bool, true, false, not, cond, ◌&&◌, ◌||◌, length, get_or, eqb, Some, None}
use Rattle.std.proofs.Math.Option.{Option, some, none}
use Rattle.wire_shapes.specs.Field.{number_at, bits, keep}
use Rattle.wire_shapes.specs.Shapes.{Kind}
use Rattle.wire_shapes.specs.declared.Shape.{Shape}
use Rattle.wire_shapes.specs.declared.Shape.TheVariants.{Sized, Any, Entry, Array, Lookup, Split}
use Rattle.wire_fields.specs.Places.{Part}
use Rattle.octet.specs.Number.{digits_be}

-- a field that must be there, and one that may be absent; the bits kept of each byte stand in a table, none where all are
abbrev pub must : ℕ → Bool → Shape → List (List ℕ) → Kind
must n padded shape table = record { number = n; optional = false; padded = padded; shape = shape; kept = keep table }

abbrev pub may : ℕ → Bool → Shape → List (List ℕ) → Kind
may n padded shape table = record { number = n; optional = true; padded = padded; shape = shape; kept = keep table }

-- flags of two bytes: none counts; the last bit; A, X and C; L, B and N. The last bit of two with a reserved byte after them
abbrev pub none_of_two : List (List ℕ)
none_of_two = [] ∷ [] ∷ []

abbrev pub last_of_two : List (List ℕ)
last_of_two = [] ∷ (1 ∷ []) ∷ []

abbrev pub flags_axc : List (List ℕ)
flags_axc = [] ∷ (16 ∷ 8 ∷ 4 ∷ []) ∷ []

abbrev pub flags_lbn : List (List ℕ)
flags_lbn = (2 ∷ []) ∷ (8 ∷ 1 ∷ []) ∷ []

abbrev pub last_of_two_and_one : List (List ℕ)
last_of_two_and_one = [] ∷ (1 ∷ []) ∷ [] ∷ []

-- 1 to 22 endpoints of 18 bytes; keys of 32 bytes and codes of 2, up to 32,767
abbrev pub endpoints : Shape
endpoints = Array 0x9D 18 1 22

abbrev pub key_list : Shape
key_list = Array 0x30 32 0 0x7FFF

abbrev pub codes : Shape
codes = Array 0x84 2 0 0x7FFF

-- the ID of the message answered; the split controls of an AUTHORITY
abbrev pub acked_kind : Kind
acked_kind = must 0x18 false (Sized 4) []

abbrev pub split_kind : Kind
split_kind = must 0x98 false Split []

-- credential, signature, key identifier
abbrev pub credentials : List Kind
credentials = may 0x80 false Any [] ∷ may 0xA5 false Any [] ∷ may 0xA6 false Any [] ∷ []

-- SOLICIT: route entry; hashed nonce
abbrev pub solicit_kinds : List Kind
solicit_kinds = may 0x9A true Entry [] ∷ must 0x92 false (Sized 20) [] ∷ []

-- ADVERTISE: acked ID; keys; hashed nonce
abbrev pub advertise_kinds : List Kind
advertise_kinds = acked_kind ∷ must 0x60 false key_list [] ∷ must 0x92 false (Sized 20) [] ∷ []

-- REQUEST: flags; split controls; nonce; keys; credential, signature, key identifier
abbrev pub request_kinds : List Kind
request_kinds =
    may 0x40 true (Sized 2) none_of_two ∷ may 0x98 false (Sized 4) [] ∷ must 0x93 false (Sized 16) [] ∷ must 0x60 false key_list [] ∷ credentials

-- FLOOD: controls (15 bits, D, one byte); validate key; key token; CPA revoked; route entry; endpoints reached
abbrev pub flood_kinds : List Kind
flood_kinds =
    must 0x43 true (Sized 3) last_of_two_and_one ∷ must 0x39 false (Sized 32) [] ∷ may 0x9F true Any []
    ∷ may 0x9C true Any [] ∷ may 0x9A true Entry [] ∷ may 0x9E false endpoints [] ∷ []

-- INQUIRE: flags; validate key; nonce; credential, signature, key identifier
abbrev pub inquire_kinds : List Kind
inquire_kinds = must 0x40 true (Sized 2) flags_axc ∷ must 0x39 false (Sized 32) [] ∷ may 0x93 false (Sized 16) [] ∷ credentials

-- an AUTHORITY's buffer: flags; certificate chain; key token; classifier; payload; route entry; CPA
abbrev pub buffer_kinds : List Kind
buffer_kinds =
    must 0x40 true (Sized 2) flags_lbn ∷ may 0x80 true Any [] ∷ may 0x9F true Any [] ∷ may 0x85 true codes []
    ∷ may 0x5A true Any [] ∷ may 0x9A true Entry [] ∷ may 0x9B false Any [] ∷ []

-- AUTHORITY: acked ID; split controls; the buffer's fields
abbrev pub authority_kinds : List Kind
authority_kinds = acked_kind ∷ split_kind ∷ buffer_kinds

-- ACK: acked ID; flags, of which N is the last bit
abbrev pub ack_kinds : List Kind
ack_kinds = acked_kind ∷ may 0x40 false (Sized 2) last_of_two ∷ []

-- LOOKUP's controls with the ignored bits zero: A has weight 2; the precision counts only where the criteria are 8
abbrev pub keep_lookup : List ℕ → List ℕ
keep_lookup v =
    cond (eqb (length v) 8)
    (0 ∷ bits (2 ∷ []) (get_or v 1 0) ∷ cond (eqb (get_or v 4 0) 8) (get_or v 2 0) 0 ∷ cond (eqb (get_or v 4 0) 8) (get_or v 3 0) 0
    ∷ get_or v 4 0 ∷ get_or v 5 0 ∷ 0 ∷ 0 ∷ [])
    v

-- LOOKUP: controls; target key; validate key; route entry; path; credential, signature, key identifier
abbrev pub lookup_kinds : List Kind
lookup_kinds =
    record { number = 0x45; optional = false; padded = false; shape = Lookup; kept = keep_lookup }
    ∷ must 0x38 false (Sized 32) [] ∷ must 0x39 false (Sized 32) [] ∷ may 0x9A true Entry [] ∷ must 0x9E false endpoints [] ∷ credentials

-- the fields of a type of message
unfoldable pub kinds_of : ℕ → Option (List Kind)
kinds_of t = cond (eqb t 1) (some solicit_kinds) (cond (eqb t 2) (some advertise_kinds) (cond (eqb t 3) (some request_kinds)
    (cond (eqb t 4) (some flood_kinds) (cond (eqb t 7) (some inquire_kinds) (cond (eqb t 8) (some authority_kinds)
    (cond (eqb t 9) (some ack_kinds) (cond (eqb t 11) (some lookup_kinds) none)))))))

abbrev pub present : {A : Type 0} → Option A → Bool
present none = false
present (some v) = true

-- just one of the two
abbrev pub one_of : Bool → Bool → Bool
one_of a b = cond a (not b) b

-- what holds between fields: "FLOOD carries either a route entry or a revoke CPA, never both and never neither"
unfoldable pub joined_fields : ℕ → List (Option (List ℕ)) → Bool
joined_fields t fs = cond (eqb t 4) (one_of (present (get_or fs 3 none)) (present (get_or fs 4 none))) true

-- split controls that follow from the rest: the size is the number of bytes after them, of total in all, and the offset is 0
abbrev pub derived : ℕ → Part → Option (List ℕ) → Bool
derived total (Some p) (some v) = eqb (number_at 0 2 v) (total - (p.start + p.len)) && eqb (number_at 2 2 v) 0
derived total (Some p) none = true
derived total None f = true

-- what the places and the length say of the fields: REQUEST's and AUTHORITY's split controls follow from the rest
unfoldable pub sized : ℕ → ℕ → List Part → List (Option (List ℕ)) → Bool
sized t total ps fs = cond (eqb t 3 || eqb t 8) (derived total (get_or ps 1 None) (get_or fs 1 none)) true

-- split controls of a whole message: so many bytes follow, offset 0
abbrev pub split_bytes : ℕ → List ℕ
split_bytes size = digits_be 256 2 size ++ (0 ∷ 0 ∷ [])
