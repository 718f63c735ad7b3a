-- The cases of `span_at`, each from the facts that lead to it. The code's proof and the laws of reading cite these.
use Prim.Native.Nat.{ℕ, ◌+◌, ◌-◌, ◌<◌, ◌≤◌}
use mathlib.Core.List.{List}
use mathlib.Core.Path.{◌≡◌, refl, sym, ap}
use native.Mathlib.Omega.{arith}
use lib.Dec.{leb, eqb}
use mathlib.Core.Bool.{Bool, true, false}
use lib.ListN.{length, length-take, length-drop}
use borrow.Author.Tests.{le-leb, lt-leb, eq-eqb, ne_eqb, leb-true, eqb-true}
use Rattle.octet.specs.Part.{part}
use mathlib.Core.Bool.{◌&&◌}
use mathlib.Core.Bool.{cond}
use Rattle.wire_shapes.specs.Field.{number_at, gap}
use Rattle.wire_fields.specs.Reading.{span_at, next_at}
use Rattle.wire_fields.specs.declared.Cursor.{Cursor}
use Rattle.wire_fields.specs.declared.Place.{Place}
use Rattle.wire_fields.specs.declared.Span.TheVariants.{Whole, Other, Cut}

module _ (d : List ℕ) (i n : ℕ) (p : Bool) where
  pub span-short : length d < i + 4 → span_at d i n p ≡ Other
  unfolding span_at
  span-short h = simp (lt-leb (i + 4) (length d) h)

  pub span-other : i + 4 ≤ length d → (number_at i 2 d ≡ n → ⊥) → span_at d i n p ≡ Other
  unfolding span_at
  span-other h q = simp (le-leb (i + 4) (length d) h, ne_eqb (number_at i 2 d) n q)

  pub span-low : i + 4 ≤ length d → number_at i 2 d ≡ n → number_at (i + 2) 2 d < 4 → span_at d i n p ≡ Cut
  unfolding span_at
  span-low h q l = simp (le-leb (i + 4) (length d) h, eq-eqb (number_at i 2 d) n q, lt-leb 4 (number_at (i + 2) 2 d) l)

  -- w is the length read and x the padding, as the code has them
  module _ (w x : ℕ) (ew : w ≡ number_at (i + 2) 2 d) (ex : x ≡ gap p (i + w)) where
    next-is : i + w + x ≡ next_at d i p
    next-is = cc

    pub span-past : i + 4 ≤ length d → number_at i 2 d ≡ n → 4 ≤ w → length d < i + w + x → span_at d i n p ≡ Cut
    unfolding span_at
    span-past h q l m =
        let l2 : 4 ≤ number_at (i + 2) 2 d = rw ew at l in
        let m2 : length d < next_at d i p = rw next-is at m in
        simp (le-leb (i + 4) (length d) h, eq-eqb (number_at i 2 d) n q, le-leb 4 (number_at (i + 2) 2 d) l2, lt-leb (next_at d i p) (length d) m2)

    pub span-whole : i + 4 ≤ length d → number_at i 2 d ≡ n → 4 ≤ w → i + w + x ≤ length d
        → span_at d i n p ≡ Whole (record { start = i + 4; len = w - 4 }) (record { at = i + w + x })
    unfolding span_at
    span-whole h q l m =
        let l2 : 4 ≤ number_at (i + 2) 2 d = rw ew at l in
        let m2 : next_at d i p ≤ length d = rw next-is at m in
        simp (le-leb (i + 4) (length d) h, eq-eqb (number_at i 2 d) n q, le-leb 4 (number_at (i + 2) 2 d) l2, le-leb (next_at d i p) (length d) m2)
        (cc (sym ew, sym next-is))

-- what a whole span tells
pub record Fits (d : List ℕ) (i n : ℕ) (p : Bool) (o : Place) (c : Cursor) : Type 0 where
  pub room : i + 4 ≤ length d
  pub number : number_at i 2 d ≡ n
  pub least : 4 ≤ number_at (i + 2) 2 d
  pub within : next_at d i p ≤ length d
  pub starts : o.start ≡ i + 4
  pub long : o.len + 4 ≡ number_at (i + 2) 2 d
  pub goes : c.at ≡ next_at d i p

module _ (d : List ℕ) (i n : ℕ) (p : Bool) (o : Place) (c : Cursor) where
  go : (b₁ : Bool) → leb (i + 4) (length d) ≡ b₁ → (b₂ : Bool) → eqb (number_at i 2 d) n ≡ b₂
      → (b₃ : Bool) → leb 4 (number_at (i + 2) 2 d) ≡ b₃ → (b₄ : Bool) → leb (next_at d i p) (length d) ≡ b₄
      → cond (b₁ && b₂) (cond (b₃ && b₄) (Whole (record { start = i + 4; len = number_at (i + 2) 2 d - 4 }) (record { at = next_at d i p })) Cut) Other ≡ Whole o c
      → Fits d i n p o c
  go true q₁ true q₂ true q₃ true q₄ e =
      let h₃ : 4 ≤ number_at (i + 2) 2 d = leb-true _ _ q₃ in
      let eo : ◌≡◌ {A = Place} (record { start = i + 4; len = number_at (i + 2) 2 d - 4 }) o = cc in
      let el : number_at (i + 2) 2 d - 4 ≡ o.len = ap (λ (x : Place). x.len) eo in
      let ec : ◌≡◌ {A = Cursor} (record { at = next_at d i p }) c = cc in
      record {
        room = leb-true _ _ q₁;
        number = eqb-true _ _ q₂;
        least = h₃;
        within = leb-true _ _ q₄;
        starts = sym (ap (λ (x : Place). x.start) eo);
        long = omega arith;
        goes = sym (ap (λ (x : Cursor). x.at) ec);
      }
  go true q₁ true q₂ true q₃ false q₄ e = absurd (let z : ◌≡◌ {A = ℕ} 0 1 = cc in omega arith)
  go true q₁ true q₂ false q₃ b₄ q₄ e = absurd (let z : ◌≡◌ {A = ℕ} 0 1 = cc in omega arith)
  go true q₁ false q₂ b₃ q₃ b₄ q₄ e = absurd (let z : ◌≡◌ {A = ℕ} 0 1 = cc in omega arith)
  go false q₁ b₂ q₂ b₃ q₃ b₄ q₄ e = absurd (let z : ◌≡◌ {A = ℕ} 0 1 = cc in omega arith)

  pub span_fits : span_at d i n p ≡ Whole o c → Fits d i n p o c
  unfolding span_at
  span_fits e = go _ refl _ refl _ refl _ refl e

  -- its contents are whole
  pub span-length : span_at d i n p ≡ Whole o c → length (part o.start o.len d) ≡ o.len
  span-length e =
      let f = span_fits e in
      simp (length-take, length-drop) (omega arith)
