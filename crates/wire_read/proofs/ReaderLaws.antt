-- Laws that the readers cite: presence of a field's contents; an AUTHORITY by the places before its buffer and the buffer's; a LOOKUP by its first
-- three fields and those behind them; what is found where a header is right, and where it is not. Assumes nothing.
use Prim.Native.Nat.{ℕ, ◌≤◌}
use native.Mathlib.Omega.{arith}
use mathlib.Core.List.{List, [], ◌∷◌}
use mathlib.Core.Bool.{Bool, false, true, cond, ◌&&◌}
use lib.ListN.{length, get_or, drop}
use lib.Dec.{leb, eqb}
use borrow.Author.Tests.{leb-true}
use Rattle.octet.specs.Part.{part, same}
use mathlib.Core.Option.{Option, some, none}
use mathlib.Core.Path.{◌≡◌, refl, sym, ap, ◌∙◌}
use Rattle.wire_shapes.specs.Field.{number_at}
use Rattle.wire_shapes.specs.Shapes.{Kind}
use Rattle.wire_fields.specs.Kinds.{kinds_of, must, present, joined_fields, sized, keep_lookup, acked_kind, split_kind, buffer_kinds, authority_kinds, lookup_kinds}
use Rattle.wire_fields.specs.Message.{opening}
use Rattle.wire_fields.specs.Reading.{need_at, before as ahead, places_at, value_of, checked, whole_in, fields_as}
use Rattle.wire_fields.specs.Refusals.{Found, refused, found, found_of, found_in, in_part}
use Rattle.wire_fields.specs.declared.Cursor.{Cursor}
use Rattle.std.specs.Prelude.{Option as Option₁, Some, None, Result, Ok, Err, MatchOption, MatchResult}
use Rattle.wire_fields.specs.declared.Place.{Place}
use Rattle.wire_fields.specs.Places.{Part}
use Rattle.wire_shapes.specs.declared.Shape.TheVariants.{Sized, Lookup, Split}
use Rattle.wire_fields.proofs.RefusalLaws.{gated, by_type, in_steps, found_steps}
use Rattle.wire_buffer.specs.Buffer.{buffer_shown, inside_shown, buffer_at}
use Rattle.wire_read.specs.Readers.{or_six, or_number}
use Rattle.wire_read.specs.declared.Incoming.{Incoming}
use Rattle.wire_read.specs.Answers.{is_here, incoming_of, head_of, head_number, lookup_behind}
use Rattle.wire_buffer.specs.declared.Inside.{Inside}
use Rattle.wire_read.specs.declared.Incoming.TheVariants.{Refused, Authority}

-- a field's contents are there where its place is
pub present_value : (k : Kind) (d : List ℕ) (p : Part) → present (value_of k d p) ≡ is_here p
present_value k d (Some p) = refl
present_value k d None = refl

buffer_none : (d : List ℕ) (o : Option (List Part)) → buffer_shown d o ≡ None → o ≡ none
buffer_none d none e = refl
buffer_none d (some qs) e = absurd (let z : ◌≡◌ {A = ℕ} 0 1 = cc in omega arith)

buffer_some : (d : List ℕ) (o : Option (List Part)) (f : Inside) → buffer_shown d o ≡ Some f
    → (qs : List Part) × (o ≡ some qs) × (inside_shown d qs ≡ f)
buffer_some d none f e = absurd (let z : ◌≡◌ {A = ℕ} 0 1 = cc in omega arith)
buffer_some d (some qs) f e = (qs, refl, cc)

module _ (ks : List Kind) (d : List ℕ) (o o₂ : Place) (c c₂ : Cursor) (q : need_at d 12 0x18 false (Sized 4) ≡ Some (o, c))
    (q₂ : need_at d c.at 0x98 false Split ≡ Some (o₂, c₂)) (w : whole_in d (Some o₂) ≡ true) where
  authority-not : places_at ks d c₂.at ≡ none → gated 8 d (found_of 8 (fields_as 8 (acked_kind ∷ split_kind ∷ ks) d)) ≡ refused 6
  unfolding in_part fields_as places_at joined_fields sized whole_in
  authority-not e = rw (q, q₂, w, e)

  authority-in : (qs : List Part) → places_at ks d c₂.at ≡ some qs
      → gated 8 d (found_of 8 (fields_as 8 (acked_kind ∷ split_kind ∷ ks) d)) ≡ found 8 (Some o ∷ Some o₂ ∷ qs)
  unfolding in_part fields_as places_at joined_fields sized whole_in
  authority-in qs e = rw (q, q₂, w, e, w)

module _ (d : List ℕ) (o o₂ : Place) (c c₂ : Cursor) (q : need_at d 12 0x18 false (Sized 4) ≡ Some (o, c))
    (q₂ : need_at d c.at 0x98 false Split ≡ Some (o₂, c₂)) (w : whole_in d (Some o₂) ≡ true) where
  pub authority-bad : buffer_at d c₂.at ≡ None → incoming_of d (gated 8 d (found_of 8 (fields_as 8 authority_kinds d))) ≡ Refused 6
  unfolding buffer_at incoming_of
  authority-bad e = ap (incoming_of d) (authority-not buffer_kinds d o o₂ c c₂ q q₂ w (buffer_none d (places_at buffer_kinds d c₂.at) e))

  pub authority-good : (f : Inside) → buffer_at d c₂.at ≡ Some f
      → incoming_of d (gated 8 d (found_of 8 (fields_as 8 authority_kinds d)))
      ≡ Authority (record { head = head_of d; acked = number_at o.start 4 d; fields = f })
  unfolding buffer_at incoming_of
  authority-good f e =
      let (qs, r, i) = buffer_some d (places_at buffer_kinds d c₂.at) f e in
      ap (incoming_of d) (authority-in buffer_kinds d o o₂ c c₂ q q₂ w qs r)
      ∙ ap (λ (x : Inside). Authority (record { head = head_of d; acked = number_at o.start 4 d; fields = x })) i

-- ---- a LOOKUP by its first three fields

abbrev controls_kind : Kind
controls_kind = record { number = 0x45; optional = false; padded = false; shape = Lookup; kept = keep_lookup }

module _ (d : List ℕ) (o₁ o₂ o₃ : Place) (c₁ c₂ c₃ : Cursor) where
  behind : (o : Option (List Part))
      → incoming_of d (found_of 11 (checked 11 lookup_kinds d (ahead (Some o₁) (ahead (Some o₂) (ahead (Some o₃) o)))))
      ≡ lookup_behind d o₁.start o₂.start o₃.start o
  unfolding incoming_of joined_fields sized
  behind none = refl
  behind (some ps) = refl

  module _ (q₁ : need_at d 12 0x45 false Lookup ≡ Some (o₁, c₁)) (q₂ : need_at d c₁.at 0x38 false (Sized 32) ≡ Some (o₂, c₂))
      (q₃ : need_at d c₂.at 0x39 false (Sized 32) ≡ Some (o₃, c₃)) where
    three : (ks : List Kind) → places_at (controls_kind ∷ must 0x38 false (Sized 32) [] ∷ must 0x39 false (Sized 32) [] ∷ ks) d 12
        ≡ ahead (Some o₁) (ahead (Some o₂) (ahead (Some o₃) (places_at ks d c₃.at)))
    unfolding places_at
    three ks = rw (q₁, q₂, q₃)

    pub lookup-front : lookup_behind d o₁.start o₂.start o₃.start (places_at (drop 3 lookup_kinds) d c₃.at) ≡ incoming_of d (found_of 11 (fields_as 11 lookup_kinds d))
    unfolding fields_as
    lookup-front =
        sym (ap (λ (o : Option (List Part)). incoming_of d (found_of 11 (checked 11 lookup_kinds d o))) (three (drop 3 lookup_kinds))
        ∙ behind (places_at (drop 3 lookup_kinds) d c₃.at))

-- ---- a message that was read, or its refusal

module _ {M : Type 0} (make : M → Incoming) (r : Incoming) where
  pub read-or_six : (o : Option₁ M) → MatchOption o (r ≡ Refused 6) (λ (m : M). r ≡ make m) → r ≡ or_six make o
  read-or_six (Some m) e = e
  read-or_six None e = e

  pub read-or_number : (o : Result M ℕ) → MatchResult o (λ (m : M). r ≡ make m) (λ (n : ℕ). r ≡ Refused n) → r ≡ or_number make o
  read-or_number (Ok m) e = e
  read-or_number (Err n) e = e

-- ---- length and header

abbrev numbered : Bool → Bool → Bool → ℕ
numbered a b c = cond a (cond b (cond c 0 4) 3) 2

not_right : (a b c : Bool) (x : Found) → (numbered a b c ≡ 0 → ⊥)
    → cond a (cond b (cond c x (refused 4)) (refused 3)) (refused 2) ≡ refused (numbered a b c)
not_right true true true x e = absurd (e refl)
not_right true true false x e = refl
not_right true false c x e = refl
not_right false b c x e = refl

right : (a b c : Bool) (x : Found) → numbered a b c ≡ 0
    → (a ≡ true) × (cond a (cond b (cond c x (refused 4)) (refused 3)) (refused 2) ≡ x)
right true true true x e = (refl, refl)
right true true false x e = absurd (omega arith)
right true false c x e = absurd (omega arith)
right false b c x e = absurd (omega arith)

first_true : (a b : Bool) → a && b ≡ true → a ≡ true
first_true true b e = refl
first_true false b e = e

module _ (d : List ℕ) (major : ℕ) where
  pub header-refuses : (head_number d major ≡ 0 → ⊥) → found_in d major ≡ refused (head_number d major)
  unfolding head_number in_steps
  header-refuses e =
      found_steps d major
      ∙ not_right (leb 12 (length d) && leb (length d) 1232) (same (part 0 5 d) opening) (eqb (get_or d 5 0) major) _ e

  -- a right header is long enough, and what is found is by the type
  pub header-right : head_number d major ≡ 0 → (12 ≤ length d) × (found_in d major ≡ by_type (get_or d 7 0) d (kinds_of (get_or d 7 0)))
  unfolding head_number in_steps
  header-right e =
      let (a, f) = right (leb 12 (length d) && leb (length d) 1232) (same (part 0 5 d) opening) (eqb (get_or d 5 0) major) _ e in
      (leb-true 12 (length d) (first_true _ _ a), found_steps d major ∙ f)
