-- Laws of what an answer says: for each of the eight types, the message of the answer is the message at the places found. Assumes nothing.
use Prim.Native.Nat.{ℕ, ◌+◌, ◌-◌, ◌≤◌}
use native.Mathlib.Omega.{arith}
use mathlib.Core.List.{List, [], ◌∷◌}
use mathlib.Core.Bool.{true, false, cond}
use mathlib.Core.Option.{some}
use mathlib.Core.Path.{◌≡◌, refl, sym, ap, subst, ◌∙◌}
use lib.Dec.{eqb}
use lib.ListN.{length, get_or, drop}
use borrow.Author.Tests.{eqb-true}
use Rattle.octet.specs.Number.{Bytes}
use Rattle.octet.specs.Part.{part}
use Rattle.octet.proofs.PartLaws.{length_part}
use Rattle.octet.proofs.TestLaws.{both_true}
use Rattle.wire_shapes.specs.Field.{number_at}
use Rattle.wire_shapes.specs.Shapes.{Kind, has_shape, lookup_form}
use Rattle.wire_fields.specs.Kinds.{must, may, acked_kind, split_kind, endpoints, key_list, codes, none_of_two, last_of_two, last_of_two_and_one, flags_axc, flags_lbn, keep_lookup, sized, derived, solicit_kinds, advertise_kinds, request_kinds, flood_kinds, inquire_kinds, authority_kinds, ack_kinds, lookup_kinds, split_bytes}
use Rattle.wire_fields.specs.Reading.{value_of, values_of, message_at}
use Rattle.std.specs.Prelude.{Some, None}
use Rattle.wire_fields.specs.Places.{Part, here}
use Rattle.wire_shapes.specs.declared.Shape.TheVariants.{Sized, Any, Entry, Lookup, Split}
use Rattle.wire_fields.proofs.HeadLaws.{digits_at}
use Rattle.wire_shapes.proofs.ShapeLaws.{number-first, number_in}
use Rattle.wire_fields.proofs.RefusalLaws.{split_four}
use Rattle.wire_read.specs.Answers.{is_here, part_flag, head_of, solicit_shown, advertise_shown, request_shown, flood_shown, inquire_shown, authority_shown, ack_shown, lookup_shown}
use Rattle.wire_read.specs.Meaning.{message_of, held, bit}
use Rattle.wire.proofs.StandLaws.{Fact, after, Stand, needed, maybed, last_needed, last_maybed, plain-may, sized-length}
use Rattle.wire.proofs.ValueLaws.{none_kept, last-kept, controls-kept, axc-kept, lbn-kept, split-bytes, lookup-kept}

-- LOOKUP's controls
abbrev pub lookup_kind : Kind
lookup_kind = record { number = 0x45; optional = false; padded = false; shape = Lookup; kept = keep_lookup }

pub lookup_length : (d : List ℕ) (s l : ℕ) → has_shape Lookup (part s l d) ≡ true → s + l ≤ length d → l ≡ 8
unfolding has_shape lookup_form
lookup_length d s l e h = sym (length_part s l d h) ∙ eqb-true (length (part s l d)) 8 (both_true _ _ (both_true _ _ e).0).0

split_length : (d : List ℕ) (s l : ℕ) → has_shape Split (part s l d) ≡ true → s + l ≤ length d → l ≡ 4
split_length d s l e h = sym (length_part s l d h) ∙ split_four (part s l d) e

-- ACK's flags, and REQUEST's, which may be absent
ack_flags : (d : List ℕ) (i : ℕ) (p : Part) → Fact (may 0x40 false (Sized 2) last_of_two) d i p
    → held (is_here p) (0 ∷ bit (part_flag d p 1 1) ∷ []) ≡ value_of (may 0x40 false (Sized 2) last_of_two) d p
unfolding part_flag
ack_flags d i None f = refl
ack_flags d i (Some p) f =
    let e = sized-length 2 d p.start p.len f.0 f.1 in
    let h = f.1 in
    rw (e, last-kept d p.start (omega arith))

request_flags : (d : List ℕ) (i : ℕ) (p : Part) → Fact (may 0x40 true (Sized 2) none_of_two) d i p
    → held (is_here p) (0 ∷ 0 ∷ []) ≡ value_of (may 0x40 true (Sized 2) none_of_two) d p
request_flags d i None f = refl
request_flags d i (Some p) f =
    let e = sized-length 2 d p.start p.len f.0 f.1 in
    let h = f.1 in
    rw (e, none_kept d p.start (omega arith))

-- split controls that follow from the rest: their two numbers
split_numbers : (d : List ℕ) (s l n : ℕ) → s + l ≤ length d → l ≡ 4 → s + l ≡ n → derived (length d) (here s l) (some (part s l d)) ≡ true
    → Bytes d → part s 4 d ≡ split_bytes (length d - n)
split_numbers d s l n h e m f b =
    let w = both_true (eqb (number_at 0 2 (part s l d)) (length d - (s + l))) (eqb (number_at 2 2 (part s l d)) 0) f in
    let p : number_at s 2 d ≡ length d - n =
    sym (number-first d s l h 2 (omega arith)) ∙ eqb-true _ _ w.0 ∙ ap (λ (k : ℕ). length d - k) m in
    let q : number_at (s + 2) 2 d ≡ 0 = sym (number_in d s l h 2 2 (omega arith)) ∙ eqb-true _ _ w.1 in
    split-bytes d s (length d - n) b (omega arith) p q

request_split : (d : List ℕ) → Bytes d → (p q : Part) → Fact (may 0x40 true (Sized 2) none_of_two) d 12 p
    → Fact (may 0x98 false (Sized 4) []) d (after (may 0x40 true (Sized 2) none_of_two) 12 p) q
    → derived (length d) q (value_of (may 0x98 false (Sized 4) []) d q) ≡ true
    → held (is_here q) (split_bytes (length d - cond (is_here p) 28 20)) ≡ value_of (may 0x98 false (Sized 4) []) d q
request_split d b p None f g e = refl
request_split d b None (Some p) f g e =
    let n = sized-length 4 d p.start p.len g.0 g.1 in
    let o = g.2 in
    rw (sym (split_numbers d p.start p.len 20 g.1 n (omega arith) e b), n)
request_split d b (Some p) (Some place) f g e =
    let n₀ = sized-length 2 d p.start p.len f.0 f.1 in
    let n = sized-length 4 d place.start place.len g.0 g.1 in
    let o : place.start ≡ 24 = g.2 ∙ rw n₀ in
    rw (sym (split_numbers d place.start place.len 28 g.1 n (omega arith) e b), n)

-- SOLICIT
solicit_at : (major : ℕ) (d : List ℕ) → Bytes d → major ≡ get_or d 5 0 → (p₀ : Part) → (s₁ l₁ : ℕ)
    → has_shape (must 0x92 false (Sized 20) []).shape (part s₁ l₁ d) ≡ true → s₁ + l₁ ≤ length d
    → message_of major d (solicit_shown d (p₀ ∷ here s₁ l₁ ∷ [])) ≡ some (message_at solicit_kinds d 1 (p₀ ∷ here s₁ l₁ ∷ []))
unfolding message_of head_of
solicit_at major d b m p₀ s₁ l₁ g₁ h₁ =
    let e₁ = sized-length 20 d s₁ l₁ g₁ h₁ in
    rw (m, plain-may 0x9A true Entry d p₀, e₁)

pub solicit_means : (major : ℕ) (d : List ℕ) → Bytes d → major ≡ get_or d 5 0 → (ps : List Part) → Stand solicit_kinds d 12 ps
    → message_of major d (solicit_shown d ps) ≡ some (message_at solicit_kinds d 1 ps)
solicit_means major d b m ps w =
    let n₀ = maybed (may 0x9A true Entry []) (drop 1 solicit_kinds) d 12 ps w in
    let n₁ = needed (must 0x92 false (Sized 20) []) (drop 2 solicit_kinds) d _ n₀.rest refl n₀.more in
    let last = last_needed n₁ in
    let all = n₀.is ∙ ap (λ (r : List Part). n₀.p ∷ r) (n₁.is ∙ ap (λ (r : List Part). here n₁.s n₁.l ∷ r) (last)) in
    subst (λ (q : List Part). message_of major d (solicit_shown d q) ≡ some (message_at solicit_kinds d 1 q)) (sym (all))
    (solicit_at major d b m n₀.p n₁.s n₁.l n₁.shaped n₁.within)

-- ADVERTISE
advertise_at : (major : ℕ) (d : List ℕ) → Bytes d → major ≡ get_or d 5 0 → (s₀ l₀ : ℕ) → has_shape (acked_kind).shape (part s₀ l₀ d) ≡ true
    → s₀ + l₀ ≤ length d → (s₁ l₁ : ℕ) → has_shape (must 0x60 false key_list []).shape (part s₁ l₁ d) ≡ true → s₁ + l₁ ≤ length d → (s₂ l₂ : ℕ)
    → has_shape (must 0x92 false (Sized 20) []).shape (part s₂ l₂ d) ≡ true → s₂ + l₂ ≤ length d
    → message_of major d (advertise_shown d (here s₀ l₀ ∷ here s₁ l₁ ∷ here s₂ l₂ ∷ []))
    ≡ some (message_at advertise_kinds d 2 (here s₀ l₀ ∷ here s₁ l₁ ∷ here s₂ l₂ ∷ []))
unfolding message_of head_of
advertise_at major d b m s₀ l₀ g₀ h₀ s₁ l₁ g₁ h₁ s₂ l₂ g₂ h₂ =
    let e₀ = sized-length 4 d s₀ l₀ g₀ h₀ in
    let a₀ = digits_at s₀ 4 d b (omega arith) in
    let e₂ = sized-length 20 d s₂ l₂ g₂ h₂ in
    rw (m, a₀, e₀, e₂)

pub advertise_means : (major : ℕ) (d : List ℕ) → Bytes d → major ≡ get_or d 5 0 → (ps : List Part) → Stand advertise_kinds d 12 ps
    → message_of major d (advertise_shown d ps) ≡ some (message_at advertise_kinds d 2 ps)
advertise_means major d b m ps w =
    let n₀ = needed (acked_kind) (drop 1 advertise_kinds) d 12 ps refl w in
    let n₁ = needed (must 0x60 false key_list []) (drop 2 advertise_kinds) d _ n₀.rest refl n₀.more in
    let n₂ = needed (must 0x92 false (Sized 20) []) (drop 3 advertise_kinds) d _ n₁.rest refl n₁.more in
    let last = last_needed n₂ in
    let all = n₀.is ∙ ap (λ (r : List Part). here n₀.s n₀.l ∷ r) (n₁.is ∙ ap (λ (r : List Part). here n₁.s n₁.l ∷ r)
    (n₂.is ∙ ap (λ (r : List Part). here n₂.s n₂.l ∷ r) (last))) in
    subst (λ (q : List Part). message_of major d (advertise_shown d q) ≡ some (message_at advertise_kinds d 2 q)) (sym (all))
    (advertise_at major d b m n₀.s n₀.l n₀.shaped n₀.within n₁.s n₁.l n₁.shaped n₁.within n₂.s n₂.l n₂.shaped
    n₂.within)

-- REQUEST
request_at : (major : ℕ) (d : List ℕ) → Bytes d → major ≡ get_or d 5 0 → (p₀ : Part) → Fact (may 0x40 true (Sized 2) none_of_two) d 12 p₀ → (p₁ : Part)
    → Fact (may 0x98 false (Sized 4) []) d (after (may 0x40 true (Sized 2) none_of_two) 12 p₀) p₁
    → derived (length d) p₁ (value_of (may 0x98 false (Sized 4) []) d p₁) ≡ true → (s₂ l₂ : ℕ)
    → has_shape (must 0x93 false (Sized 16) []).shape (part s₂ l₂ d) ≡ true → s₂ + l₂ ≤ length d → (s₃ l₃ : ℕ)
    → has_shape (must 0x60 false key_list []).shape (part s₃ l₃ d) ≡ true → s₃ + l₃ ≤ length d → (p₄ : Part) → (p₅ : Part) → (p₆ : Part)
    → message_of major d (request_shown d (p₀ ∷ p₁ ∷ here s₂ l₂ ∷ here s₃ l₃ ∷ p₄ ∷ p₅ ∷ p₆ ∷ []))
    ≡ some (message_at request_kinds d 3 (p₀ ∷ p₁ ∷ here s₂ l₂ ∷ here s₃ l₃ ∷ p₄ ∷ p₅ ∷ p₆ ∷ []))
unfolding message_of head_of
request_at major d b m p₀ f₀ p₁ f₁ z s₂ l₂ g₂ h₂ s₃ l₃ g₃ h₃ p₄ p₅ p₆ =
    let e₂ = sized-length 16 d s₂ l₂ g₂ h₂ in
    rw (
      m,
      request_split d b p₀ p₁ f₀ f₁ z,
      request_flags d 12 p₀ f₀,
      e₂,
      plain-may 0x80 false Any d p₄,
      plain-may 0xA5 false Any d p₅,
      plain-may 0xA6 false Any d p₆,
    )

pub request_means : (major : ℕ) (d : List ℕ) → Bytes d → major ≡ get_or d 5 0 → (ps : List Part) → Stand request_kinds d 12 ps
    → sized 3 (length d) ps (values_of request_kinds d ps) ≡ true
    → message_of major d (request_shown d ps) ≡ some (message_at request_kinds d 3 ps)
unfolding sized
request_means major d b m ps w z =
    let n₀ = maybed (may 0x40 true (Sized 2) none_of_two) (drop 1 request_kinds) d 12 ps w in
    let n₁ = maybed (may 0x98 false (Sized 4) []) (drop 2 request_kinds) d _ n₀.rest n₀.more in
    let n₂ = needed (must 0x93 false (Sized 16) []) (drop 3 request_kinds) d _ n₁.rest refl n₁.more in
    let n₃ = needed (must 0x60 false key_list []) (drop 4 request_kinds) d _ n₂.rest refl n₂.more in
    let n₄ = maybed (may 0x80 false Any []) (drop 5 request_kinds) d _ n₃.rest n₃.more in
    let n₅ = maybed (may 0xA5 false Any []) (drop 6 request_kinds) d _ n₄.rest n₄.more in
    let n₆ = maybed (may 0xA6 false Any []) (drop 7 request_kinds) d _ n₅.rest n₅.more in
    let last = last_maybed n₆ in
    let y : derived (length d) n₁.p (value_of (may 0x98 false (Sized 4) []) d n₁.p) ≡ true = rw (n₀.is, n₁.is) at z in
    let all = n₀.is ∙ ap (λ (r : List Part). n₀.p ∷ r) (n₁.is ∙ ap (λ (r : List Part). n₁.p ∷ r)
    (n₂.is ∙ ap (λ (r : List Part). here n₂.s n₂.l ∷ r) (n₃.is ∙ ap (λ (r : List Part). here n₃.s n₃.l ∷ r)
    (n₄.is ∙ ap (λ (r : List Part). n₄.p ∷ r)
    (n₅.is ∙ ap (λ (r : List Part). n₅.p ∷ r) (n₆.is ∙ ap (λ (r : List Part). n₆.p ∷ r) (last))))))) in
    subst (λ (q : List Part). message_of major d (request_shown d q) ≡ some (message_at request_kinds d 3 q)) (sym (all))
    (request_at major d b m n₀.p n₀.fact n₁.p n₁.fact y n₂.s n₂.l n₂.shaped n₂.within n₃.s n₃.l n₃.shaped
    n₃.within n₄.p n₅.p n₆.p)

-- FLOOD
flood_at : (major : ℕ) (d : List ℕ) → Bytes d → major ≡ get_or d 5 0 → (s₀ l₀ : ℕ) → has_shape (must 0x43 true (Sized 3) last_of_two_and_one).shape
    (part s₀ l₀ d) ≡ true → s₀ + l₀ ≤ length d → (s₁ l₁ : ℕ) → has_shape (must 0x39 false (Sized 32) []).shape (part s₁ l₁ d) ≡ true
    → s₁ + l₁ ≤ length d → (p₂ : Part) → (p₃ : Part) → (p₄ : Part) → (p₅ : Part)
    → message_of major d (flood_shown d (here s₀ l₀ ∷ here s₁ l₁ ∷ p₂ ∷ p₃ ∷ p₄ ∷ p₅ ∷ []))
    ≡ some (message_at flood_kinds d 4 (here s₀ l₀ ∷ here s₁ l₁ ∷ p₂ ∷ p₃ ∷ p₄ ∷ p₅ ∷ []))
unfolding message_of head_of
flood_at major d b m s₀ l₀ g₀ h₀ s₁ l₁ g₁ h₁ p₂ p₃ p₄ p₅ =
    let e₀ = sized-length 3 d s₀ l₀ g₀ h₀ in
    let e₁ = sized-length 32 d s₁ l₁ g₁ h₁ in
    rw (
      m,
      e₀,
      controls-kept d s₀ (omega arith),
      e₁,
      plain-may 0x9F true Any d p₂,
      plain-may 0x9C true Any d p₃,
      plain-may 0x9A true Entry d p₄,
      plain-may 0x9E false endpoints d p₅,
    )

pub flood_means : (major : ℕ) (d : List ℕ) → Bytes d → major ≡ get_or d 5 0 → (ps : List Part) → Stand flood_kinds d 12 ps
    → message_of major d (flood_shown d ps) ≡ some (message_at flood_kinds d 4 ps)
flood_means major d b m ps w =
    let n₀ = needed (must 0x43 true (Sized 3) last_of_two_and_one) (drop 1 flood_kinds) d 12 ps refl w in
    let n₁ = needed (must 0x39 false (Sized 32) []) (drop 2 flood_kinds) d _ n₀.rest refl n₀.more in
    let n₂ = maybed (may 0x9F true Any []) (drop 3 flood_kinds) d _ n₁.rest n₁.more in
    let n₃ = maybed (may 0x9C true Any []) (drop 4 flood_kinds) d _ n₂.rest n₂.more in
    let n₄ = maybed (may 0x9A true Entry []) (drop 5 flood_kinds) d _ n₃.rest n₃.more in
    let n₅ = maybed (may 0x9E false endpoints []) (drop 6 flood_kinds) d _ n₄.rest n₄.more in
    let last = last_maybed n₅ in
    let all = n₀.is ∙ ap (λ (r : List Part). here n₀.s n₀.l ∷ r) (n₁.is ∙ ap (λ (r : List Part). here n₁.s n₁.l ∷ r)
    (n₂.is ∙ ap (λ (r : List Part). n₂.p ∷ r) (n₃.is ∙ ap (λ (r : List Part). n₃.p ∷ r)
    (n₄.is ∙ ap (λ (r : List Part). n₄.p ∷ r) (n₅.is ∙ ap (λ (r : List Part). n₅.p ∷ r) (last)))))) in
    subst (λ (q : List Part). message_of major d (flood_shown d q) ≡ some (message_at flood_kinds d 4 q)) (sym (all))
    (flood_at major d b m n₀.s n₀.l n₀.shaped n₀.within n₁.s n₁.l n₁.shaped n₁.within n₂.p n₃.p n₄.p n₅.p)

-- INQUIRE
inquire_at : (major : ℕ) (d : List ℕ) → Bytes d → major ≡ get_or d 5 0 → (s₀ l₀ : ℕ)
    → has_shape (must 0x40 true (Sized 2) flags_axc).shape (part s₀ l₀ d) ≡ true → s₀ + l₀ ≤ length d → (s₁ l₁ : ℕ)
    → has_shape (must 0x39 false (Sized 32) []).shape (part s₁ l₁ d) ≡ true → s₁ + l₁ ≤ length d
    → (p₂ : Part) → (p₃ : Part) → (p₄ : Part) → (p₅ : Part) → message_of major d (inquire_shown d (here s₀ l₀ ∷ here s₁ l₁ ∷ p₂ ∷ p₃ ∷ p₄ ∷ p₅ ∷ []))
    ≡ some (message_at inquire_kinds d 7 (here s₀ l₀ ∷ here s₁ l₁ ∷ p₂ ∷ p₃ ∷ p₄ ∷ p₅ ∷ []))
unfolding message_of head_of
inquire_at major d b m s₀ l₀ g₀ h₀ s₁ l₁ g₁ h₁ p₂ p₃ p₄ p₅ =
    let e₀ = sized-length 2 d s₀ l₀ g₀ h₀ in
    let e₁ = sized-length 32 d s₁ l₁ g₁ h₁ in
    rw (
      m,
      e₀,
      axc-kept d s₀ (omega arith),
      e₁,
      plain-may 0x93 false (Sized 16) d p₂,
      plain-may 0x80 false Any d p₃,
      plain-may 0xA5 false Any d p₄,
      plain-may 0xA6 false Any d p₅,
    )

pub inquire_means : (major : ℕ) (d : List ℕ) → Bytes d → major ≡ get_or d 5 0 → (ps : List Part) → Stand inquire_kinds d 12 ps
    → message_of major d (inquire_shown d ps) ≡ some (message_at inquire_kinds d 7 ps)
inquire_means major d b m ps w =
    let n₀ = needed (must 0x40 true (Sized 2) flags_axc) (drop 1 inquire_kinds) d 12 ps refl w in
    let n₁ = needed (must 0x39 false (Sized 32) []) (drop 2 inquire_kinds) d _ n₀.rest refl n₀.more in
    let n₂ = maybed (may 0x93 false (Sized 16) []) (drop 3 inquire_kinds) d _ n₁.rest n₁.more in
    let n₃ = maybed (may 0x80 false Any []) (drop 4 inquire_kinds) d _ n₂.rest n₂.more in
    let n₄ = maybed (may 0xA5 false Any []) (drop 5 inquire_kinds) d _ n₃.rest n₃.more in
    let n₅ = maybed (may 0xA6 false Any []) (drop 6 inquire_kinds) d _ n₄.rest n₄.more in
    let last = last_maybed n₅ in
    let all = n₀.is ∙ ap (λ (r : List Part). here n₀.s n₀.l ∷ r) (n₁.is ∙ ap (λ (r : List Part). here n₁.s n₁.l ∷ r)
    (n₂.is ∙ ap (λ (r : List Part). n₂.p ∷ r) (n₃.is ∙ ap (λ (r : List Part). n₃.p ∷ r)
    (n₄.is ∙ ap (λ (r : List Part). n₄.p ∷ r) (n₅.is ∙ ap (λ (r : List Part). n₅.p ∷ r) (last)))))) in
    subst (λ (q : List Part). message_of major d (inquire_shown d q) ≡ some (message_at inquire_kinds d 7 q)) (sym (all))
    (inquire_at major d b m n₀.s n₀.l n₀.shaped n₀.within n₁.s n₁.l n₁.shaped n₁.within n₂.p n₃.p n₄.p n₅.p)

-- AUTHORITY
authority_at : (major : ℕ) (d : List ℕ) → Bytes d → major ≡ get_or d 5 0 → (s₀ l₀ : ℕ) → has_shape (acked_kind).shape (part s₀ l₀ d) ≡ true
    → s₀ + l₀ ≤ length d → (s₁ l₁ : ℕ) → has_shape (split_kind).shape (part s₁ l₁ d) ≡ true → s₁ + l₁ ≤ length d → s₁ ≡ 24
    → derived (length d) (here s₁ l₁) (some (part s₁ l₁ d)) ≡ true → (s₂ l₂ : ℕ)
    → has_shape (must 0x40 true (Sized 2) flags_lbn).shape (part s₂ l₂ d) ≡ true
    → s₂ + l₂ ≤ length d → (p₃ : Part) → (p₄ : Part) → (p₅ : Part) → (p₆ : Part) → (p₇ : Part) → (p₈ : Part)
    → message_of major d (authority_shown d (here s₀ l₀ ∷ here s₁ l₁ ∷ here s₂ l₂ ∷ p₃ ∷ p₄ ∷ p₅ ∷ p₆ ∷ p₇ ∷ p₈ ∷ []))
    ≡ some (message_at authority_kinds d 8 (here s₀ l₀ ∷ here s₁ l₁ ∷ here s₂ l₂ ∷ p₃ ∷ p₄ ∷ p₅ ∷ p₆ ∷ p₇ ∷ p₈ ∷ []))
unfolding message_of head_of
authority_at major d b m s₀ l₀ g₀ h₀ s₁ l₁ g₁ h₁ o z s₂ l₂ g₂ h₂ p₃ p₄ p₅ p₆ p₇ p₈ =
    let e₀ = sized-length 4 d s₀ l₀ g₀ h₀ in
    let a₀ = digits_at s₀ 4 d b (omega arith) in
    let e₁ = split_length d s₁ l₁ g₁ h₁ in
    let e₂ = sized-length 2 d s₂ l₂ g₂ h₂ in
    rw (
      m,
      a₀,
      e₀,
      sym (split_numbers d s₁ l₁ 28 h₁ e₁ (omega arith) z b),
      e₁,
      e₂,
      lbn-kept d s₂ (omega arith),
      plain-may 0x80 true Any d p₃,
      plain-may 0x9F true Any d p₄,
      plain-may 0x85 true codes d p₅,
      plain-may 0x5A true Any d p₆,
      plain-may 0x9A true Entry d p₇,
      plain-may 0x9B false Any d p₈,
    )

pub authority_means : (major : ℕ) (d : List ℕ) → Bytes d → major ≡ get_or d 5 0 → (ps : List Part) → Stand authority_kinds d 12 ps
    → sized 8 (length d) ps (values_of authority_kinds d ps) ≡ true
    → message_of major d (authority_shown d ps) ≡ some (message_at authority_kinds d 8 ps)
unfolding sized
authority_means major d b m ps w z =
    let n₀ = needed (acked_kind) (drop 1 authority_kinds) d 12 ps refl w in
    let n₁ = needed (split_kind) (drop 2 authority_kinds) d _ n₀.rest refl n₀.more in
    let n₂ = needed (must 0x40 true (Sized 2) flags_lbn) (drop 3 authority_kinds) d _ n₁.rest refl n₁.more in
    let n₃ = maybed (may 0x80 true Any []) (drop 4 authority_kinds) d _ n₂.rest n₂.more in
    let n₄ = maybed (may 0x9F true Any []) (drop 5 authority_kinds) d _ n₃.rest n₃.more in
    let n₅ = maybed (may 0x85 true codes []) (drop 6 authority_kinds) d _ n₄.rest n₄.more in
    let n₆ = maybed (may 0x5A true Any []) (drop 7 authority_kinds) d _ n₅.rest n₅.more in
    let n₇ = maybed (may 0x9A true Entry []) (drop 8 authority_kinds) d _ n₆.rest n₆.more in
    let n₈ = maybed (may 0x9B false Any []) (drop 9 authority_kinds) d _ n₇.rest n₇.more in
    let last = last_maybed n₈ in
    let e₀ = sized-length 4 d n₀.s n₀.l n₀.shaped n₀.within in
    let o : n₁.s ≡ 24 = n₁.starts ∙ rw e₀ in
    let y : derived (length d) (here n₁.s n₁.l) (some (part n₁.s n₁.l d)) ≡ true = rw (n₀.is, n₁.is) at z in
    let all = n₀.is ∙ ap (λ (r : List Part). here n₀.s n₀.l ∷ r) (n₁.is ∙ ap (λ (r : List Part). here n₁.s n₁.l ∷ r)
    (n₂.is ∙ ap (λ (r : List Part). here n₂.s n₂.l ∷ r) (n₃.is ∙ ap (λ (r : List Part). n₃.p ∷ r)
    (n₄.is ∙ ap (λ (r : List Part). n₄.p ∷ r) (n₅.is ∙ ap (λ (r : List Part). n₅.p ∷ r)
    (n₆.is ∙ ap (λ (r : List Part). n₆.p ∷ r)
    (n₇.is ∙ ap (λ (r : List Part). n₇.p ∷ r) (n₈.is ∙ ap (λ (r : List Part). n₈.p ∷ r) (last))))))))) in
    subst (λ (q : List Part). message_of major d (authority_shown d q) ≡ some (message_at authority_kinds d 8 q)) (sym (all))
    (authority_at major d b m n₀.s n₀.l n₀.shaped n₀.within n₁.s n₁.l n₁.shaped n₁.within o y n₂.s n₂.l n₂.shaped
    n₂.within n₃.p n₄.p n₅.p n₆.p n₇.p n₈.p)

-- ACK
ack_at : (major : ℕ) (d : List ℕ) → Bytes d → major ≡ get_or d 5 0 → (s₀ l₀ : ℕ) → has_shape (acked_kind).shape (part s₀ l₀ d) ≡ true
    → s₀ + l₀ ≤ length d → (p₁ : Part) → Fact (may 0x40 false (Sized 2) last_of_two) d 20 p₁ → message_of major d (ack_shown d (here s₀ l₀ ∷ p₁ ∷ []))
    ≡ some (message_at ack_kinds d 9 (here s₀ l₀ ∷ p₁ ∷ []))
unfolding message_of head_of
ack_at major d b m s₀ l₀ g₀ h₀ p₁ f₁ =
    let e₀ = sized-length 4 d s₀ l₀ g₀ h₀ in
    let a₀ = digits_at s₀ 4 d b (omega arith) in
    rw (m, a₀, e₀, ack_flags d 20 p₁ f₁)

pub ack_means : (major : ℕ) (d : List ℕ) → Bytes d → major ≡ get_or d 5 0 → (ps : List Part) → Stand ack_kinds d 12 ps
    → message_of major d (ack_shown d ps) ≡ some (message_at ack_kinds d 9 ps)
ack_means major d b m ps w =
    let n₀ = needed (acked_kind) (drop 1 ack_kinds) d 12 ps refl w in
    let n₁ = maybed (may 0x40 false (Sized 2) last_of_two) (drop 2 ack_kinds) d _ n₀.rest n₀.more in
    let last = last_maybed n₁ in
    let at₁ : after acked_kind 12 (here n₀.s n₀.l) ≡ 20 = (let e = sized-length 4 d n₀.s n₀.l n₀.shaped n₀.within in rw e) in
    let all = n₀.is ∙ ap (λ (r : List Part). here n₀.s n₀.l ∷ r) (n₁.is ∙ ap (λ (r : List Part). n₁.p ∷ r) (last)) in
    subst (λ (q : List Part). message_of major d (ack_shown d q) ≡ some (message_at ack_kinds d 9 q)) (sym (all))
    (ack_at major d b m n₀.s n₀.l n₀.shaped n₀.within n₁.p
    (subst (λ (i : ℕ). Fact (may 0x40 false (Sized 2) last_of_two) d i n₁.p) at₁ n₁.fact))

-- LOOKUP
lookup_at : (major : ℕ) (d : List ℕ) → Bytes d → major ≡ get_or d 5 0 → (s₀ l₀ : ℕ) → has_shape (lookup_kind).shape (part s₀ l₀ d) ≡ true
    → s₀ + l₀ ≤ length d → (s₁ l₁ : ℕ) → has_shape (must 0x38 false (Sized 32) []).shape (part s₁ l₁ d) ≡ true → s₁ + l₁ ≤ length d → (s₂ l₂ : ℕ)
    → has_shape (must 0x39 false (Sized 32) []).shape (part s₂ l₂ d) ≡ true → s₂ + l₂ ≤ length d → (p₃ : Part) → (s₄ l₄ : ℕ)
    → has_shape (must 0x9E false endpoints []).shape (part s₄ l₄ d) ≡ true → s₄ + l₄ ≤ length d → (p₅ : Part) → (p₆ : Part) → (p₇ : Part)
    → message_of major d (lookup_shown d (here s₀ l₀ ∷ here s₁ l₁ ∷ here s₂ l₂ ∷ p₃ ∷ here s₄ l₄ ∷ p₅ ∷ p₆ ∷ p₇ ∷ []))
    ≡ some (message_at lookup_kinds d 11 (here s₀ l₀ ∷ here s₁ l₁ ∷ here s₂ l₂ ∷ p₃ ∷ here s₄ l₄ ∷ p₅ ∷ p₆ ∷ p₇ ∷ []))
unfolding message_of head_of
lookup_at major d b m s₀ l₀ g₀ h₀ s₁ l₁ g₁ h₁ s₂ l₂ g₂ h₂ p₃ s₄ l₄ g₄ h₄ p₅ p₆ p₇ =
    let e₀ = lookup_length d s₀ l₀ g₀ h₀ in
    let e₁ = sized-length 32 d s₁ l₁ g₁ h₁ in
    let e₂ = sized-length 32 d s₂ l₂ g₂ h₂ in
    rw (
      m,
      e₀,
      lookup-kept d s₀ b (omega arith),
      e₁,
      e₂,
      plain-may 0x9A true Entry d p₃,
      plain-may 0x80 false Any d p₅,
      plain-may 0xA5 false Any d p₆,
      plain-may 0xA6 false Any d p₇,
    )

pub lookup_means : (major : ℕ) (d : List ℕ) → Bytes d → major ≡ get_or d 5 0 → (ps : List Part) → Stand lookup_kinds d 12 ps
    → message_of major d (lookup_shown d ps) ≡ some (message_at lookup_kinds d 11 ps)
lookup_means major d b m ps w =
    let n₀ = needed (lookup_kind) (drop 1 lookup_kinds) d 12 ps refl w in
    let n₁ = needed (must 0x38 false (Sized 32) []) (drop 2 lookup_kinds) d _ n₀.rest refl n₀.more in
    let n₂ = needed (must 0x39 false (Sized 32) []) (drop 3 lookup_kinds) d _ n₁.rest refl n₁.more in
    let n₃ = maybed (may 0x9A true Entry []) (drop 4 lookup_kinds) d _ n₂.rest n₂.more in
    let n₄ = needed (must 0x9E false endpoints []) (drop 5 lookup_kinds) d _ n₃.rest refl n₃.more in
    let n₅ = maybed (may 0x80 false Any []) (drop 6 lookup_kinds) d _ n₄.rest n₄.more in
    let n₆ = maybed (may 0xA5 false Any []) (drop 7 lookup_kinds) d _ n₅.rest n₅.more in
    let n₇ = maybed (may 0xA6 false Any []) (drop 8 lookup_kinds) d _ n₆.rest n₆.more in
    let last = last_maybed n₇ in
    let all = n₀.is ∙ ap (λ (r : List Part). here n₀.s n₀.l ∷ r) (n₁.is ∙ ap (λ (r : List Part). here n₁.s n₁.l ∷ r)
    (n₂.is ∙ ap (λ (r : List Part). here n₂.s n₂.l ∷ r) (n₃.is ∙ ap (λ (r : List Part). n₃.p ∷ r)
    (n₄.is ∙ ap (λ (r : List Part). here n₄.s n₄.l ∷ r) (n₅.is ∙ ap (λ (r : List Part). n₅.p ∷ r)
    (n₆.is ∙ ap (λ (r : List Part). n₆.p ∷ r) (n₇.is ∙ ap (λ (r : List Part). n₇.p ∷ r) (last)))))))) in
    subst (λ (q : List Part). message_of major d (lookup_shown d q) ≡ some (message_at lookup_kinds d 11 q)) (sym (all))
    (lookup_at major d b m n₀.s n₀.l n₀.shaped n₀.within n₁.s n₁.l n₁.shaped n₁.within n₂.s n₂.l n₂.shaped
    n₂.within n₃.p n₄.s n₄.l n₄.shaped n₄.within n₅.p n₆.p n₇.p)
