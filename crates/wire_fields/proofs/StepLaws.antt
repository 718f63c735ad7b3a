-- A field read: from what the span is and whether its contents are good, the answer. One rule for each answer, for every shape. Behind them a field of a fixed
-- size that must be there, whose number and length are compared as one number.
use Prim.Native.Nat.{ℕ, ◌+◌, ◌*◌, ◌-◌, ◌<◌, ◌≤◌}
use native.Mathlib.Omega.{arith}
use mathlib.Core.List.{List}
use mathlib.Core.Path.{◌≡◌, refl, sym, ap, ◌∙◌}
use mathlib.Core.Bool.{Bool, true, false, cond}
use lib.ListN.{length}
use borrow.Author.Tests.{eq-eqb, eqb-true}
use Rattle.octet.specs.Number.{Bytes}
use Rattle.octet.specs.Part.{part}
use Rattle.octet.proofs.BigLaws.{value_be-part}
use Rattle.wire_shapes.specs.Field.{number_at, gap}
use Rattle.wire_shapes.specs.Shapes.{has_shape}
use Rattle.wire_fields.specs.Reading.{span_at, need_of, need_at, maybe_of, maybe_at}
use Rattle.wire_shapes.specs.declared.Shape.{Shape}
use Rattle.wire_shapes.specs.declared.Shape.TheVariants.{Sized}
use Rattle.wire_fields.specs.declared.Cursor.{Cursor}
use Rattle.wire_fields.specs.declared.Span.{Span}
use Rattle.wire_fields.specs.declared.Span.TheVariants.{Whole, Other, Cut}
use Rattle.std.specs.Prelude.{Some, None}
use Rattle.wire_fields.specs.declared.Place.{Place}
use Rattle.wire_fields.specs.Places.{Need}
use Rattle.wire_fields.proofs.SpanLaws.{span-whole, span_fits, span-length}
use Rattle.wire_fields.proofs.HeadLaws.{number_small}

module _ (d : List ℕ) (i n : ℕ) (p : Bool) (h : Shape) (r : Span) (e : r ≡ span_at d i n p) where
  need-by : (x : Span) → r ≡ x → need_of d h x ≡ need_at d i n p h
  unfolding need_at
  need-by x q = ap (need_of d h) (sym q ∙ e)

  maybe-by : (x : Span) → r ≡ x → maybe_of d h i x ≡ maybe_at d i n p h
  unfolding maybe_at
  maybe-by x q = ap (maybe_of d h i) (sym q ∙ e)

  pub need-other : r ≡ Other → None ≡ need_at d i n p h
  need-other q = need-by Other q

  pub need-cut : r ≡ Cut → None ≡ need_at d i n p h
  need-cut q = need-by Cut q

  pub maybe-other : r ≡ Other → Some (None, record { at = i }) ≡ maybe_at d i n p h
  maybe-other q = maybe-by Other q

  pub maybe-cut : r ≡ Cut → None ≡ maybe_at d i n p h
  maybe-cut q = maybe-by Cut q

  module _ (o : Place) (c : Cursor) (q : r ≡ Whole o c) where
    pub need-good : has_shape h (part o.start o.len d) ≡ true → Some (o, c) ≡ need_at d i n p h
    need-good g = rw g at (need-by (Whole o c) q)

    pub need-bad : has_shape h (part o.start o.len d) ≡ false → None ≡ need_at d i n p h
    need-bad g = rw g at (need-by (Whole o c) q)

    pub maybe-good : has_shape h (part o.start o.len d) ≡ true → Some (Some o, c) ≡ maybe_at d i n p h
    maybe-good g = rw g at (maybe-by (Whole o c) q)

    pub maybe-bad : has_shape h (part o.start o.len d) ≡ false → None ≡ maybe_at d i n p h
    maybe-bad g = rw g at (maybe-by (Whole o c) q)

-- what is not found is missing
missing_by : (r : Need) → ((o : Place) (c : Cursor) → r ≡ Some (o, c) → ⊥) → None ≡ r
missing_by None never = refl
missing_by (Some (o, c)) never = absurd (never o c refl)

by_shape : (b : Bool) (o : Place) (c : Cursor) (o₂ : Place) (c₂ : Cursor) → cond {A = Need} b (Some (o, c)) None ≡ Some (o₂, c₂) → b ≡ true
by_shape true o c o₂ c₂ e = refl
by_shape false o c o₂ c₂ e = absurd (let z : ◌≡◌ {A = ℕ} 0 1 = cc in omega arith)

-- what is known of a field of a fixed size
pub record Sure (d : List ℕ) (i n : ℕ) (p : Bool) (len : ℕ) : Type 0 where
  pub room : i + 4 ≤ length d
  pub number : number_at i 2 d ≡ n
  pub long : number_at (i + 2) 2 d ≡ len + 4
  pub within : i + (len + 4) + gap p (i + (len + 4)) ≤ length d

module _ (d : List ℕ) (i n : ℕ) (p : Bool) (len : ℕ) where
  sure-by : (r : Span) → span_at d i n p ≡ r → (o : Place) (c : Cursor) → need_of d (Sized len) r ≡ Some (o, c) → Sure d i n p len
  unfolding has_shape
  sure-by (Whole o c) q o₂ c₂ e =
      let f = span_fits d i n p o c q in
      let k = eqb-true (length (part o.start o.len d)) len (by_shape _ o c o₂ c₂ e) in
      let m = span-length d i n p o c q in
      let w : number_at (i + 2) 2 d ≡ len + 4 = omega (arith, f.long, k, m) in
      record { room = f.room; number = f.number; long = w; within = rw w at f.within }
  sure-by Other q o₂ c₂ e = absurd (let z : ◌≡◌ {A = ℕ} 0 1 = cc in omega arith)
  sure-by Cut q o₂ c₂ e = absurd (let z : ◌≡◌ {A = ℕ} 0 1 = cc in omega arith)

  pub fixed-missing : (Sure d i n p len → ⊥) → None ≡ need_at d i n p (Sized len)
  unfolding need_at
  fixed-missing never = missing_by (need_at d i n p (Sized len)) (λ o c e. never (sure-by (span_at d i n p) refl o c e))

  -- w is the length and x the padding, as the code has them
  module _ (w x : ℕ) (ew : w ≡ len + 4) (ex : x ≡ gap p (i + w)) (bytes : Bytes d) (room : i + 4 ≤ length d) where
    pub fixed-past : length d < i + w + x → None ≡ need_at d i n p (Sized len)
    fixed-past m =
        let e : i + w + x ≡ i + (len + 4) + gap p (i + (len + 4)) = cc in
        fixed-missing (λ (s : Sure d i n p len). omega (arith, s.within, e, m))

    two-numbers : number_at i 4 d ≡ number_at i 2 d * 65536 + number_at (i + 2) 2 d
    two-numbers = omega (arith, value_be-part 256 i 2 2 d (omega arith))

    pub fixed-other : (number_at i 4 d ≡ n * 65536 + w → ⊥) → None ≡ need_at d i n p (Sized len)
    fixed-other never = fixed-missing (λ (s : Sure d i n p len). never (omega (arith, two-numbers, s.number, s.long, ew)))

    pub fixed-good : w < 65536 → i + w + x ≤ length d → number_at i 4 d ≡ n * 65536 + w
        → Some (record { start = i + 4; len = len }, record { at = i + w + x }) ≡ need_at d i n p (Sized len)
    unfolding has_shape
    fixed-good small within e =
        let low : number_at (i + 2) 2 d < 65536 = number_small (i + 2) 2 d bytes (omega arith) in
        let number : number_at i 2 d ≡ n = omega (arith, two-numbers, low, e) in
        let long : w ≡ number_at (i + 2) 2 d = omega (arith, two-numbers, low, e) in
        let len_is : w - 4 ≡ len = omega arith in
        let q : span_at d i n p ≡ Whole (record { start = i + 4; len = len }) (record { at = i + w + x }) =
        rw len_is at (span-whole d i n p w x long ex room number (omega arith) within) in
        need-good d i n p (Sized len) (span_at d i n p) refl (record { start = i + 4; len = len }) (record { at = i + w + x }) q
        (eq-eqb (length (part (i + 4) len d)) len (span-length d i n p (record { start = i + 4; len = len }) (record { at = i + w + x }) q))
