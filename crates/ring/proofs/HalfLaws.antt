-- Which half of the ring a key is in: its first digit says it, the first word of a key in hand or the first byte of one in a slice. With that digit changed by
-- half its range the key is the one opposite. Assumes nothing.
use mathlib.Core.Path.{◌≡◌, refl, sym, ap, ap₂, ◌∙◌}
use mathlib.Core.Bool.{cond}
use mathlib.Core.List.{List, [], ◌∷◌, ◌++◌}
use Prim.Native.Nat.{ℕ, suc, ◌+◌, ◌-◌, ◌*◌, ◌^◌, ◌≤◌, ◌<◌}
use native.Mathlib.Nat.{mul-le-mul, le_refl}
use native.Mathlib.Omega.{arith}
use lib.Arith.{digits_lt}
use lib.Dec.{ltb}
use lib.ListN.{length, drop, get_or, set}
use lib.Seq.{take_at}
use borrow.Author.Tests.{lt-ltb, le-ltb}
use Rattle.octet.specs.Number.{Digits, value_be}
use Rattle.octet.specs.Part.{part, splice}
use Rattle.octet.proofs.BigLaws.{value_be-lt}
use Rattle.octet.proofs.PartLaws.{part_add, part_one, part-digits, length_part, splice_cons}
use Rattle.key.specs.declared.Key.{Key}
use Rattle.key.specs.Number.{key_at, number}
use Rattle.key.specs.Around.{half}
use Rattle.key.specs.Across.{across}
use Rattle.key.proofs.KeyLaws.{Fit, fit-digits}
use Rattle.key.proofs.OrderLaws.{Stand, stand}
use Rattle.key.proofs.OrderLaws.Stand.{below, equal, above}

-- ---- at any base and any width

first_low : (b h x : ℕ) (xs : List ℕ) → Digits b xs → x < h → value_be b (x ∷ xs) < h * b ^ length xs
unfolding value_be
first_low b h x xs d l = digits_lt l (value_be-lt b xs d)

first_high : (b h x : ℕ) (xs : List ℕ) → h ≤ x → h * b ^ length xs ≤ value_be b (x ∷ xs)
unfolding value_be
first_high b h x xs l =
    let m : h * b ^ length xs ≤ x * b ^ length xs = mul-le-mul {n₁ = h} {m₁ = b ^ length xs} {n₂ = x} {m₂ = b ^ length xs} l (le_refl (b ^ length xs)) in
    omega arith

first_more : (b h x y : ℕ) (xs : List ℕ) → y ≡ x + h → value_be b (y ∷ xs) ≡ value_be b (x ∷ xs) + h * b ^ length xs
unfolding value_be
first_more b h x y xs e = omega (arith, ap (λ (t : ℕ). t * b ^ length xs) e)

-- ---- a key in hand, by its first word

pub number_half : number (record { a = 2 ^ 63; b = 0; c = 0; d = 0 }) ≡ half
unfolding number value_be half
number_half = refl

pub word_low : (k : Key) → Fit k → k.a < 2 ^ 63 → number k < half
unfolding number half
word_low k f h = first_low (2 ^ 64) (2 ^ 63) k.a (k.b ∷ k.c ∷ k.d ∷ []) (λ i. fit-digits f (suc i)) h

pub word_high : (k : Key) → 2 ^ 63 ≤ k.a → half ≤ number k
unfolding number half
word_high k h = first_high (2 ^ 64) (2 ^ 63) k.a (k.b ∷ k.c ∷ k.d ∷ []) h

-- ---- a key in a slice, by its first byte

pub first_byte_lem : (s : List ℕ) → 32 ≤ length s → part 0 32 s ≡ get_or s 0 0 ∷ part 1 31 s
first_byte_lem s h = part_add 0 1 31 s ∙ ap₂ ◌++◌ (part_one 0 s (omega arith)) refl

half_is : (n : ℕ) → n ≡ 31 → 128 * 256 ^ n ≡ half
unfolding half
half_is n e = ap (λ (n : ℕ). 128 * 256 ^ n) e

module _ (x : ℕ) (xs : List ℕ) (d : Digits 256 xs) (e : length xs ≡ 31) where
  low : x < 128 → value_be 256 (x ∷ xs) < half
  low h = omega (arith, first_low 256 128 x xs d h, half_is (length xs) e)

  high : 128 ≤ x → half ≤ value_be 256 (x ∷ xs)
  high h = omega (arith, first_high 256 128 x xs h, half_is (length xs) e)

  pub flipped : (y : ℕ) → y ≡ cond (ltb x 128) (x + 128) (x - 128) → value_be 256 (y ∷ xs) ≡ across (value_be 256 (x ∷ xs))
  unfolding across
  flipped y q = go (stand x 128)
    where
      from_low : x < 128 → value_be 256 (y ∷ xs) ≡ cond (ltb (value_be 256 (x ∷ xs)) half) (value_be 256 (x ∷ xs) + half) (value_be 256 (x ∷ xs) - half)
      from_low h =
          rw (lt-ltb (value_be 256 (x ∷ xs)) half (low h))
          (omega (arith, first_more 256 128 x y xs (q ∙ rw (lt-ltb x 128 h) refl), half_is (length xs) e))

      from-high : 128 ≤ x → value_be 256 (y ∷ xs) ≡ cond (ltb (value_be 256 (x ∷ xs)) half) (value_be 256 (x ∷ xs) + half) (value_be 256 (x ∷ xs) - half)
      from-high h =
          let z : y ≡ x - 128 = q ∙ rw (le-ltb x 128 h) refl in
          rw (le-ltb (value_be 256 (x ∷ xs)) half (high h))
          (omega (arith, first_more 256 128 y x xs (omega arith), half_is (length xs) e))

      go : Stand x 128 → value_be 256 (y ∷ xs) ≡ cond (ltb (value_be 256 (x ∷ xs)) half) (value_be 256 (x ∷ xs) + half) (value_be 256 (x ∷ xs) - half)
      go (below h) = from_low h
      go (equal h) = from-high (omega arith)
      go (above h) = from-high (omega arith)

-- the bytes as they are written: the first behind those after it
pub bytes_are : (y : ℕ) (xs z : List ℕ) → length xs ≡ 31 → length z ≡ 32 → part 0 32 (set (splice 1 xs z) 0 y) ≡ y ∷ xs
unfolding splice
bytes_are y xs z e l =
    ap (part 0 32) (splice_cons 0 y xs z (omega arith)) ∙ take_at (y ∷ xs) (drop (0 + length (y ∷ xs)) z) 32 (ap suc e)

module _ (s : List ℕ) (d : Digits 256 s) (h : 32 ≤ length s) where
  pub byte_low : get_or s 0 0 < 128 → key_at 0 s < half
  byte_low l = rw (first_byte_lem s h) (low (get_or s 0 0) (part 1 31 s) (part-digits 256 1 31 s (omega arith) d) (length_part 1 31 s (omega arith)) l)

  pub byte_high : 128 ≤ get_or s 0 0 → half ≤ key_at 0 s
  byte_high l = rw (first_byte_lem s h) (high (get_or s 0 0) (part 1 31 s) (part-digits 256 1 31 s (omega arith) d) (length_part 1 31 s (omega arith)) l)

  pub opposite-is : (r : List ℕ) (y : ℕ) → part 0 32 r ≡ y ∷ part 1 31 s → y ≡ cond (ltb (get_or s 0 0) 128) (get_or s 0 0 + 128) (get_or s 0 0 - 128)
      → key_at 0 r ≡ across (key_at 0 s)
  opposite-is r y p q =
      ap (value_be 256) p
      ∙ flipped (get_or s 0 0) (part 1 31 s) (part-digits 256 1 31 s (omega arith) d) (length_part 1 31 s (omega arith)) y q
      ∙ ap (λ (l : List ℕ). across (value_be 256 l)) (sym (first_byte_lem s h))
