-- Which bits are those of an allowed depth: the numbers up to 0x41A00000, which is 20, and 0x80000000, which is -0. In this order: a finite value
-- as a fraction; the fields of a pattern, by its sign; a pattern. Assumes nothing.
use mathlib.Core.Path.{◌≡◌, refl, sym, ◌∙◌, subst}
use mathlib.Core.Bool.{Bool, true, false, cond, ◌&&◌, ◌||◌, or-false}
use Prim.Native.Nat.{ℕ, zero, suc, ◌+◌, ◌-◌, ◌*◌, ◌/◌, ◌%◌, ◌^◌, ◌≤◌, ◌<◌}
use native.Mathlib.Nat.{mul-le-mul, mul-one, zero-mul, mul-pos, le_trans, lt_of_lt_of_le}
use native.Mathlib.Omega.{arith}
use lib.Dec.{T, leb, eqb, ltb, lit<, lit≤, not_T}
use lib.Pow.{pow_mono, pow_pos}
use lib.IntN.{pos}
use lib.Ieee.{Float, nan, inf, fin, binary32, of_int, of_bits, of_fields, odd, le, lt, eq, up}
use lib.Ieee.Exact.{HasValue, odd_sign}
use lib.Ieee.Order.{le_of_values}
use lib.Ieee.Positive.{positive_of_value, values_of_le, first_pos}
use lib.Ieee.Fits.{down_pos}
use lib.Ieee.Bits.{is_false}
use borrow.Author.Tests.{ltb-true, ltb-false, leb-true, leb-false, eqb-true, eqb-false, le-leb, lt-leb, eq-eqb, ne_eqb}
use Rattle.readings.specs.Depth.{allowed}

both_hold : (a b : Bool) → T a → T b → (a && b) ≡ true
both_hold true true s t = refl
both_hold true false s t = absurd t
both_hold false b s t = absurd s

not_second : (a b : Bool) → b ≡ false → (a && b) ≡ false
not_second true b e = e
not_second false b e = refl

-- ---- a finite value, a / c

module _ (c : ℕ) (C : 0 < c) where
  good-value : (x : Float) (a : ℕ) → HasValue x false a c → a ≤ 20 * c → allowed x ≡ true
  unfolding allowed of_int
  good-value x a v h =
      both_hold (le (of_int binary32 (pos 0)) x) (le x (of_int binary32 (pos 20)))
      (le_of_values (of_int binary32 (pos 0)) x 0 1 a c (lit< tt) C (refl, refl) v (omega arith))
      (le_of_values x (of_int binary32 (pos 20)) a c 20 1 C (lit< tt) v (refl, refl) (omega arith))

  large-value : (x : Float) (a : ℕ) → HasValue x false a c → 20 * c < a → allowed x ≡ false
  unfolding allowed of_int
  large-value x a v h =
      not_second (le (of_int binary32 (pos 0)) x) (le x (of_int binary32 (pos 20)))
      (is_false (le x (of_int binary32 (pos 20)))
      (not_T (le x (of_int binary32 (pos 20)))
      (λ t.
      let cross = values_of_le x (of_int binary32 (pos 20)) a c 20 1 (positive_of_value x a c v (omega arith)) tt v (refl, refl) t in
      omega (arith, cross))))

  negative-value : (x : Float) (a : ℕ) → HasValue x true a c → 0 < a → allowed x ≡ false
  unfolding allowed le lt eq of_int
  negative-value nan a v h = absurd v
  negative-value (inf s) a v h = absurd v
  negative-value (fin false m e) a v h = absurd (subst T (sym v.0) tt)
  negative-value (fin true m e) a v h =
      let some : 0 < m * up e = first_pos (m * up e) c (subst (λ (n : ℕ). 0 < n) (sym v.1) (mul-pos h (down_pos e))) in
      let apart : eqb 0 (m * up e) ≡ false = ne_eqb 0 (m * up e) (λ z. omega arith) in
      simp (zero-mul, mul-one, apart)

-- ---- an exponent's field x and the digits t

special : (s b : Bool) → allowed (cond b (inf s) nan) ≡ false
unfolding allowed le lt eq of_int
special true true = refl
special true false = refl
special false true = refl
special false false = refl

low_exponent : (x t : ℕ) → t < 8388608 → x < 130 → (8388608 + t) * 2 ^ x ≤ 20 * 2 ^ 149
low_exponent x t H X =
    le_trans (mul-le-mul {n₁ = 8388608 + t} {n₂ = 16777216} (omega arith) (pow_mono {i = x} {j = 129} (omega arith))) (lit≤ tt)

high_exponent : (x t : ℕ) → 130 < x → 20 * 2 ^ 149 < (8388608 + t) * 2 ^ x
high_exponent x t X =
    lt_of_lt_of_le (lit< {m = 20 * 2 ^ 149} {n = 8388608 * 2 ^ 131} tt)
    (mul-le-mul {n₁ = 8388608} {n₂ = 8388608 + t} (omega arith) (pow_mono {i = 131} {j = x} (omega arith)))

-- 131 * 2 ^ 23 + 2 ^ 21 is 0x41a00000, and (2 ^ 23 + 2 ^ 21) * 2 ^ 130 is 20 * 2 ^ 149
at_twenty : (t : ℕ) → t ≤ 2097152 → (8388608 + t) * 2 ^ 130 ≤ 20 * 2 ^ 149
at_twenty t h = mul-le-mul {n₁ = 8388608 + t} {m₁ = 2 ^ 130} {n₂ = 10485760} {m₂ = 2 ^ 130} (omega arith) (lit≤ tt)

past_twenty : (t : ℕ) → 2097152 < t → 20 * 2 ^ 149 < (8388608 + t) * 2 ^ 130
past_twenty t h =
    lt_of_lt_of_le (lit< {m = 20 * 2 ^ 149} {n = 10485761 * 2 ^ 130} tt)
    (mul-le-mul {n₁ = 10485761} {m₁ = 2 ^ 130} {n₂ = 8388608 + t} {m₂ = 2 ^ 130} (omega arith) (lit≤ tt))

normal : (x t : ℕ) → t < 8388608 → (a b c : Bool) → ltb x 130 ≡ a → ltb 130 x ≡ b → leb t 2097152 ≡ c
    → allowed (odd 24 false (8388608 + t) x 149) ≡ leb (suc x * 8388608 + t) 1101004800
normal x t H true b c p q r =
    good-value (2 ^ 149) (pow_pos 149) _ _ (odd_sign 24 false (8388608 + t) x 149) (low_exponent x t H (ltb-true x 130 p))
    ∙ sym (le-leb (suc x * 8388608 + t) 1101004800 (omega (arith, ltb-true x 130 p)))
normal x t H false true c p q r =
    large-value (2 ^ 149) (pow_pos 149) _ _ (odd_sign 24 false (8388608 + t) x 149) (high_exponent x t (ltb-true 130 x q))
    ∙ sym (lt-leb (suc x * 8388608 + t) 1101004800 (omega (arith, ltb-true 130 x q)))
normal x t H false false true p q r =
    let at : x ≡ 130 = omega (arith, ltb-false x 130 p, ltb-false 130 x q) in
    let few = leb-true t 2097152 r in
    rw at
    (good-value (2 ^ 149) (pow_pos 149) _ _ (odd_sign 24 false (8388608 + t) 130 149) (at_twenty t few)
    ∙ sym (le-leb (131 * 8388608 + t) 1101004800 (omega arith)))
normal x t H false false false p q r =
    let at : x ≡ 130 = omega (arith, ltb-false x 130 p, ltb-false 130 x q) in
    let many = leb-false t 2097152 r in
    rw at
    (large-value (2 ^ 149) (pow_pos 149) _ _ (odd_sign 24 false (8388608 + t) 130 149) (past_twenty t many)
    ∙ sym (lt-leb (131 * 8388608 + t) 1101004800 (omega arith)))

positive_field : (x t : ℕ) → t < 8388608 → (z : Bool) → eqb (suc x) 255 ≡ z
    → allowed (cond z (cond (eqb t 0) (inf false) nan) (odd 24 false (8388608 + t) x 149)) ≡ leb (suc x * 8388608 + t) 1101004800
positive_field x t H true e = special false (eqb t 0) ∙ sym (lt-leb (suc x * 8388608 + t) 1101004800 (omega (arith, eqb-true (suc x) 255 e)))
positive_field x t H false e = normal x t H _ _ _ refl refl refl

positive : (x t : ℕ) → t < 8388608 → allowed (of_fields binary32 false x t) ≡ leb (x * 8388608 + t) 1101004800
unfolding of_fields
positive zero t H =
    let small : t * 1 ≤ 8388608 = omega arith in
    good-value (2 ^ 149) (pow_pos 149) _ _ (odd_sign 24 false t 0 149) (le_trans small (lit≤ tt))
    ∙ sym (le-leb (0 * 8388608 + t) 1101004800 (omega arith))
positive (suc x) t H = positive_field x t H (eqb (suc x) 255) refl

negative_field : (x t : ℕ) (z : Bool) → allowed (cond z (cond (eqb t 0) (inf true) nan) (odd 24 true (8388608 + t) x 149)) ≡ false
negative_field x t true = special true (eqb t 0)
negative_field x t false = negative-value (2 ^ 149) (pow_pos 149) _ _ (odd_sign 24 true (8388608 + t) x 149) (mul-pos (omega arith) (pow_pos x))

negative : (x t : ℕ) → allowed (of_fields binary32 true x t) ≡ eqb (x * 8388608 + t) 0
unfolding of_fields odd allowed le lt eq of_int
negative zero zero = refl
negative zero (suc t) =
    negative-value (2 ^ 149) (pow_pos 149) (odd 24 true (suc t) 0 149) (suc t * 2 ^ 0) (odd_sign 24 true (suc t) 0 149)
    (mul-pos {m = suc t} (omega arith) (pow_pos 0))
    ∙ sym (ne_eqb (0 * 8388608 + suc t) 0 (λ z. omega arith))
negative (suc x) t = negative_field x t (eqb (suc x) 255) ∙ sym (ne_eqb (suc x * 8388608 + t) 0 (λ z. omega arith))

-- ---- a pattern

by_sign : (b : ℕ) → b < 4294967296 → (s : Bool) → leb 2147483648 b ≡ s
    → allowed (of_fields binary32 s (b % 2147483648 / 8388608) (b % 8388608)) ≡ (leb b 1101004800 || eqb b 2147483648)
by_sign b h false e =
    let below = leb-false 2147483648 b e in
    let whole : b % 2147483648 / 8388608 * 8388608 + b % 8388608 ≡ b = omega arith in
    let other : eqb b 2147483648 ≡ false = ne_eqb b 2147483648 (λ z. omega arith) in
    positive (b % 2147483648 / 8388608) (b % 8388608) (omega arith) ∙ rw (whole, other) (sym (or-false (leb b 1101004800)))
by_sign b h true e =
    let above = leb-true 2147483648 b e in
    let whole : b % 2147483648 / 8388608 * 8388608 + b % 8388608 ≡ b - 2147483648 = omega arith in
    let other : leb b 1101004800 ≡ false = lt-leb b 1101004800 (omega arith) in
    negative (b % 2147483648 / 8388608) (b % 8388608) ∙ rw (whole, other) (same (eqb b 2147483648) refl)
  where
    same : (z : Bool) → eqb b 2147483648 ≡ z → eqb (b - 2147483648) 0 ≡ eqb b 2147483648
    same true z = eq-eqb (b - 2147483648) 0 (omega (arith, eqb-true b 2147483648 z)) ∙ sym z
    same false z = ne_eqb (b - 2147483648) 0 (λ n. eqb-false b 2147483648 z (omega (arith, leb-true 2147483648 b e))) ∙ sym z

-- the allowed patterns
pub patterns : (b : ℕ) → b < 4294967296 → allowed (of_bits binary32 b) ≡ (leb b 0x41A0_0000 || eqb b 0x8000_0000)
unfolding of_bits
patterns b h = by_sign b h (leb 2147483648 b) refl

-- as the code asks: negative zero first, then all others by their size
pub bits-zero : (b : ℕ) → b ≡ 0x8000_0000 → true ≡ allowed (of_bits binary32 b)
bits-zero b e = sym (patterns b (omega arith) ∙ rw (eq-eqb b 0x8000_0000 e) (either (leb b 0x41A0_0000)))
  where
    either : (a : Bool) → (a || true) ≡ true
    either true = refl
    either false = refl

pub bits-sized : (b : ℕ) → b < 4294967296 → (b ≡ 0x8000_0000 → ⊥) → leb b 0x41A0_0000 ≡ allowed (of_bits binary32 b)
bits-sized b h n = sym (patterns b h ∙ rw (ne_eqb b 0x8000_0000 n) (or-false (leb b 0x41A0_0000)))
