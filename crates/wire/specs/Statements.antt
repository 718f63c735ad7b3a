-- To believe. What holds of reading and writing, for every datagram and for every message of the eight types: 1 to 7.
-- A theorem of each name stands in proofs/Theorems. Assumes nothing.
use Rattle.std.specs.Prelude.{ℕ, zero, suc, ◌≤◌, List, [], ◌∷◌, true, cond, ◌||◌, ◌≡◌, eqb, length}
use Rattle.std.proofs.Math.Option.{some, none}
use Rattle.octet.specs.Number.{Bytes}
use Rattle.wire_shapes.specs.Shapes.{Kind}
use Rattle.wire_fields.specs.Kinds.{joined_fields, authority_kinds, split_bytes}
use Rattle.wire_fields.specs.Message.{Contents, Message, Held, WellFormed, Reads, ends, layout_from, layout_of, message_bytes, cleared}

-- 1. At most one message is read from a datagram.
abbrev pub AtMostOne : Type 0
AtMostOne = (ks js : List Kind) (d : List ℕ) (m n : Message) → Reads ks d m → Reads js d n → m ≡ n

-- 3. The bytes of a well-formed message of any type read back as it, and `read` gives it.
abbrev pub WrittenReads : Type 0
WrittenReads = (ks : List Kind) (m : Message) → WellFormed ks m → Reads ks (message_bytes (layout_of ks m)) m

-- 4. What was read, written again, is the datagram with its ignored bits zero.
abbrev pub ReadWritten : Type 0
ReadWritten = (ks : List Kind) (d : List ℕ) (m : Message) → Reads ks d m → message_bytes (layout_of ks m) ≡ cleared (layout_of ks m) d

-- 6. A message with the field of an index changed: put in, left out, or with other contents of its kind. Split controls, where they are, follow from the
-- rest.
abbrev pub Allowed : Kind → Contents → Type 0
Allowed k none = k.optional ≡ true
Allowed k (some v) = Held k v

abbrev pub AllowedAt : List Kind → ℕ → Contents → Type 0
AllowedAt [] n c = ⊥
AllowedAt (k ∷ ks) zero c = Allowed k c
AllowedAt (k ∷ ks) (suc n) c = AllowedAt ks n c

abbrev pub changed_at : ℕ → Contents → List Contents → List Contents
changed_at n c [] = []
changed_at zero c (f ∷ fs) = c ∷ fs
changed_at (suc n) c (f ∷ fs) = f ∷ changed_at n c fs

-- split controls, the second field: so many bytes follow
abbrev pub follow : ℕ → Contents → Contents
follow size none = none
follow size (some v) = some (split_bytes size)

abbrev pub split_again : List Kind → List Contents → List Contents
split_again (k ∷ j ∷ ks) (f ∷ s ∷ fs) = f ∷ follow (length (message_bytes (layout_from (ends (ends 12 k f) j s) ks fs))) s ∷ fs
split_again (k ∷ j ∷ ks) (f ∷ []) = f ∷ []
split_again (k ∷ j ∷ ks) [] = []
split_again (k ∷ []) fs = fs
split_again [] fs = fs

abbrev pub changed : List Kind → Message → ℕ → Contents → Message
changed ks m n c =
    record {
      major = m.major;
      minor = m.minor;
      type = m.type;
      id = m.id;
      fields = cond (eqb m.type 3 || eqb m.type 8) (split_again ks (changed_at n c m.fields)) (changed_at n c m.fields);
    }

-- if what holds between a FLOOD's fields holds and it fits a datagram, it is well formed, and its bytes read back as it
abbrev pub ChangedReads : Type 0
ChangedReads =
    (ks : List Kind) (m : Message) (n : ℕ) (c : Contents) → WellFormed ks m → AllowedAt ks n c → joined_fields m.type (changed_at n c m.fields) ≡ true
    → length (message_bytes (layout_of ks (changed ks m n c))) ≤ 1232 → Reads ks (message_bytes (layout_of ks (changed ks m n c))) (changed ks m n c)

-- an AUTHORITY's payload, for one: any bytes that fit
abbrev pub PayloadReads : Type 0
PayloadReads =
    (m : Message) (v : List ℕ) → WellFormed authority_kinds m → Bytes v → length v ≤ 1232
    → length (message_bytes (layout_of authority_kinds (changed authority_kinds m 6 (some v)))) ≤ 1232
    → Reads authority_kinds (message_bytes (layout_of authority_kinds (changed authority_kinds m 6 (some v)))) (changed authority_kinds m 6 (some v))
