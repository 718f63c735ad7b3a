-- Laws of a message with one field changed: the fields stay formed, and split controls made anew say how many bytes follow. Assumes nothing.
use Prim.Native.Nat.{ℕ, zero, suc, ◌+◌, ◌≤◌}
use native.Mathlib.Omega.{arith}
use mathlib.Core.List.{List, [], ◌∷◌, ◌++◌}
use mathlib.Core.Bool.{Bool, true, false, cond, ◌||◌}
use mathlib.Core.Option.{some, none}
use mathlib.Core.Path.{◌≡◌, refl, sym, ap, subst, ◌∙◌}
use lib.Dec.{eqb}
use lib.ListN.{length, get_or, drop, length-append, replicate, length-replicate}
use borrow.Author.Tests.{eqb-true, eq-eqb}
use Rattle.octet.specs.Number.{digits_be}
use Rattle.octet.proofs.BigLaws.{length-digits_be}
use Rattle.wire_shapes.specs.Field.{gap}
use Rattle.wire_shapes.specs.Shapes.{Kind, has_shape}
use Rattle.wire_fields.specs.Kinds.{may, none_of_two, acked_kind, split_kind, kinds_of, request_kinds, buffer_kinds, authority_kinds, joined_fields, sized, derived, split_bytes}
use Rattle.wire_fields.specs.Message.{Contents, Message, Held, Formed, WellFormed, ends, layout_from, layout_of, message_bytes, header_of, parts_of}
use Rattle.std.specs.Prelude.{None}
use Rattle.wire_fields.specs.Places.{here}
use Rattle.wire_shapes.specs.declared.Shape.TheVariants.{Sized}
use Rattle.wire_fields.proofs.RefusalLaws.{split_four}
use Rattle.wire_fields.proofs.WholeLaws.{length_header}
use Rattle.wire_write.proofs.PutLaws.{head_length}
use Rattle.wire.specs.Statements.{AllowedAt, changed_at, split_again, changed}
use Rattle.wire.proofs.SendingLaws.{split_held, follows}

pub formed_at_lem : (ks : List Kind) (n : ℕ) (c : Contents) (fs : List Contents) → Formed ks fs → AllowedAt ks n c → Formed ks (changed_at n c fs)
formed_at_lem [] n c fs f a = absurd a
formed_at_lem (k ∷ ks) n c [] f a = absurd f
formed_at_lem (k ∷ ks) zero none (none ∷ fs) f a = (a, f.1)
formed_at_lem (k ∷ ks) zero none (some w ∷ fs) f a = (a, f.1)
formed_at_lem (k ∷ ks) zero (some v) (none ∷ fs) f a = (a, f.1)
formed_at_lem (k ∷ ks) zero (some v) (some w ∷ fs) f a = (a, f.1)
formed_at_lem (k ∷ ks) (suc n) c (none ∷ fs) f a = (f.0, formed_at_lem ks n c fs f.1 a)
formed_at_lem (k ∷ ks) (suc n) c (some w ∷ fs) f a = (f.0, formed_at_lem ks n c fs f.1 a)

-- the bytes of the fields from a place on end where the first field ends and the rest after it
pub ends_rest : (i : ℕ) (k : Kind) (f : Contents) (ks : List Kind) (fs : List Contents)
    → i + length (message_bytes (layout_from i (k ∷ ks) (f ∷ fs))) ≡ ends i k f + length (message_bytes (layout_from (ends i k f) ks fs))
ends_rest i k none ks fs = refl
ends_rest i k (some v) ks fs =
    let g = gap k.padded (i + (length v + 4)) in
    let rest = message_bytes (layout_from (ends i k (some v)) ks fs) in
    let e₁ = length-append (digits_be 256 2 k.number ++ digits_be 256 2 (length v + 4)) (v ++ (replicate g 0 ++ rest)) in
    let e₂ = head_length k.number (length v + 4) in
    let e₃ = length-append v (replicate g 0 ++ rest) in
    let e₄ = length-append (replicate g 0) rest in
    let e₅ = length-replicate {A = ℕ} g 0 in
    omega arith

second_place : (k j : Kind) (js : List Kind) (f : Contents) (v : List ℕ) (fs : List Contents)
    → get_or (parts_of 12 (k ∷ j ∷ js) (f ∷ some v ∷ fs)) 1 None ≡ here (ends 12 k f + 4) (length v)
second_place k j js none v fs = refl
second_place k j js (some w) v fs = refl

second_absent : (k j : Kind) (js : List Kind) (f : Contents) (fs : List Contents) → get_or (parts_of 12 (k ∷ j ∷ js) (f ∷ none ∷ fs)) 1 None ≡ None
second_absent k j js none fs = refl
second_absent k j js (some w) fs = refl

second_formed : (k j : Kind) (js : List Kind) (f g h : Contents) (fs : List Contents) → Formed (k ∷ j ∷ js) (f ∷ g ∷ fs)
    → (Formed (j ∷ js) (g ∷ fs) → Formed (j ∷ js) (h ∷ fs))
    → Formed (k ∷ j ∷ js) (f ∷ h ∷ fs)
second_formed k j js none g h fs w m = (w.0, m w.1)
second_formed k j js (some v) g h fs w m = (w.0, m w.1)

second_held : (k j : Kind) (js : List Kind) (f : Contents) (v : List ℕ) (fs : List Contents) → Formed (k ∷ j ∷ js) (f ∷ some v ∷ fs) → Held j v
second_held k j js none v fs w = w.1.0
second_held k j js (some x) v fs w = w.1.0

pub split_length : (size : ℕ) → length (split_bytes size) ≡ 4
split_length size = length-append (digits_be 256 2 size) (0 ∷ 0 ∷ []) ∙ omega (arith, length-digits_be 256 2 size)

-- split controls made anew
module _ (k j : Kind) (js : List Kind) (p : j.padded ≡ false) (held : (size : ℕ) → size ≤ 1232 → Held j (split_bytes size))
    (four : (v : List ℕ) → Held j v → length v ≡ 4) where
  abbrev Anew : List Contents → Type 0
  Anew gs =
      Formed (k ∷ j ∷ js) gs
      × (derived (12 + length (message_bytes (layout_from 12 (k ∷ j ∷ js) gs))) (get_or (parts_of 12 (k ∷ j ∷ js) gs) 1 None) (get_or gs 1 none) ≡ true)

  anew : (f : Contents) (v : List ℕ) (fs : List Contents) (size : ℕ) → size ≡ length (message_bytes (layout_from (ends (ends 12 k f) j (some v)) js fs))
      → Formed (k ∷ j ∷ js) (f ∷ some v ∷ fs) → 12 + length (message_bytes (layout_from 12 (k ∷ j ∷ js) (f ∷ some (split_bytes size) ∷ fs))) ≤ 1232
      → Anew (f ∷ some (split_bytes size) ∷ fs)
  anew f v fs size z w h =
      let i = ends 12 k f in
      let x = split_bytes size in
      let lx = split_length size in
      let lv = four v (second_held k j js f v fs w) in
      let e₁ = ends_rest 12 k f (j ∷ js) (some x ∷ fs) in
      let e₂ = ends_rest i j (some x) js fs in
      let g : gap j.padded (i + (length x + 4)) ≡ 0 = rw p in
      let o : ends i j (some x) ≡ ends i j (some v) = rw (lx, lv) in
      let y : length (message_bytes (layout_from (ends i j (some x)) js fs)) ≡ size = ap (λ (u : ℕ). length (message_bytes (layout_from u js fs))) o ∙ sym z in
      let n : size ≤ 1232 = omega arith in (
        second_formed k j js f (some v) (some x) fs w (λ q. (held size n, q.1)),
        rw (second_place k j js f x fs)
            (follows (12 + length (message_bytes (layout_from 12 (k ∷ j ∷ js) (f ∷ some x ∷ fs)))) (i + 4) (length x) size n (omega arith)),
      )

  pub all-anew : (fs : List Contents) → Formed (k ∷ j ∷ js) fs
      → 12 + length (message_bytes (layout_from 12 (k ∷ j ∷ js) (split_again (k ∷ j ∷ js) fs))) ≤ 1232
      → Anew (split_again (k ∷ j ∷ js) fs)
  all-anew [] w h = absurd w
  all-anew (none ∷ []) w h = absurd w.1
  all-anew (some v ∷ []) w h = absurd w.1
  all-anew (f ∷ none ∷ fs) w h = (w, rw (second_absent k j js f fs))
  all-anew (f ∷ some v ∷ fs) w h = anew f v fs _ refl w h

-- ---- the fields of any type

request_held : (size : ℕ) → size ≤ 1232 → Held (may 0x98 false (Sized 4) []) (split_bytes size)
unfolding has_shape
request_held size h =
    let a = split_held size h in
    record { shaped = eq-eqb (length (split_bytes size)) 4 (split_length size); clear = refl; whole = a.whole; short = a.short }

request_four : (v : List ℕ) → Held (may 0x98 false (Sized 4) []) v → length v ≡ 4
unfolding has_shape
request_four v h = eqb-true (length v) 4 h.shaped

abbrev again : ℕ → List Kind → List Contents → List Contents
again t ks fs = cond (eqb t 3 || eqb t 8) (split_again ks fs) fs

abbrev Whole : ℕ → List Kind → List Contents → Type 0
Whole t ks gs =
    Formed ks gs × (joined_fields t gs ≡ true) × (sized t (12 + length (message_bytes (layout_from 12 ks gs))) (parts_of 12 ks gs) gs ≡ true)

abbrev Wholly : List Contents → ℕ → List Kind → Type 0
Wholly fs t ks = Formed ks fs → 12 + length (message_bytes (layout_from 12 ks (again t ks fs))) ≤ 1232 → Whole t ks (again t ks fs)

request_whole : (fs : List Contents) → Wholly fs 3 request_kinds
unfolding joined_fields sized
request_whole fs f h = let a = all-anew (may 0x40 true (Sized 2) none_of_two) (may 0x98 false (Sized 4) [])
    (drop 2 request_kinds) refl request_held request_four fs f h in (a.0, refl, a.1)

authority_whole : (fs : List Contents) → Wholly fs 8 authority_kinds
unfolding joined_fields sized
authority_whole fs f h =
    let a = all-anew acked_kind split_kind buffer_kinds refl split_held (λ v q. split_four v q.shaped) fs f h in
    (a.0, refl, a.1)

whole : (fs : List Contents) (t : ℕ) (ks : List Kind) → kinds_of t ≡ some ks → joined_fields t fs ≡ true → Wholly fs t ks
unfolding sized kinds_of
whole fs t ks k y = by (eqb t 3) refl (eqb t 8) refl
  where
    by : (a : Bool) → eqb t 3 ≡ a → (b : Bool) → eqb t 8 ≡ b → Wholly fs t ks
    by true q b r =
        let n : t ≡ 3 = eqb-true t 3 q in
        let o : some request_kinds ≡ some ks = ap kinds_of (sym n) ∙ k in
        let j : request_kinds ≡ ks = cc in
        subst (Wholly fs t) j (subst (λ (u : ℕ). Wholly fs u request_kinds) (sym n) (request_whole fs))
    by false q true r =
        let n : t ≡ 8 = eqb-true t 8 r in
        let o : some authority_kinds ≡ some ks = ap kinds_of (sym n) ∙ k in
        let j : authority_kinds ≡ ks = cc in
        subst (Wholly fs t) j (subst (λ (u : ℕ). Wholly fs u authority_kinds) (sym n) (authority_whole fs))
    by false q false r = λ f h. rw (q, r) (f, y, refl)

pub changed_well : (ks : List Kind) (m : Message) (n : ℕ) (c : Contents) → WellFormed ks m → AllowedAt ks n c
    → joined_fields m.type (changed_at n c m.fields) ≡ true
    → length (message_bytes (layout_of ks (changed ks m n c))) ≤ 1232 → WellFormed ks (changed ks m n c)
changed_well ks m n c w a j h =
    let x = changed ks m n c in
    let l : length (message_bytes (layout_of ks x)) ≡ 12 + length (message_bytes (layout_from 12 ks x.fields)) =
    length-append (header_of x) (message_bytes (layout_from 12 ks x.fields)) ∙ omega (arith, length_header x) in
    let g = whole (changed_at n c m.fields) m.type ks w.known j (formed_at_lem ks n c m.fields w.formed a) (omega arith) in
    record {
      known = w.known;
      major-byte = w.major-byte;
      minor-byte = w.minor-byte;
      type-byte = w.type-byte;
      id-small = w.id-small;
      formed = g.0;
      joins = g.1;
      sizes = ap (λ (z : ℕ). sized m.type z (parts_of 12 ks x.fields) x.fields) l ∙ g.2;
      fits = h;
    }
