-- Laws of keys in hand: four words below 2 ^ 64. Assumes nothing.
use Rattle.std.proofs.Common.{◌≡◌, ℕ, zero, suc, ◌+◌, ◌^◌, ◌<◌, ◌≤◌, ◌↔◌, List, length, sym, refl, ap, ap₂, ◌∙◌, Bool, ◌&&◌, eqb, arith}
use Rattle.std.specs.Ordering.{nat_cmp, ordering_then}
use Rattle.octet.specs.Number.{Digits, value_be}
use Rattle.octet.specs.Part.{same}
use Rattle.octet.proofs.TestLaws.{and_true}
use Rattle.octet.proofs.BigLaws.{value_be-lt, value_be_inj}
use Rattle.key.specs.declared.Key.{Key}
use Rattle.key.specs.Number.{key_at, words, number, order_of, distance}
use Rattle.key.specs.Around.{ring}
use Rattle.key.proofs.PlaceLaws.{part-lt, same_value}
use Rattle.key.proofs.OrderLaws.{order_by, order_of_lists, order_lists, then_end}
use Rattle.key.proofs.DifferenceLaws.{distance_self, distance-zero}

-- four words of 0 are the number 0
pub number_zero : number (record { a = 0; b = 0; c = 0; d = 0 }) ≡ 0
unfolding number value_be
number_zero = refl

-- each word is a word: what owning a key tells
pub record Fit (k : Key) : Type 0 where
  pub a : k.a < 2 ^ 64
  pub b : k.b < 2 ^ 64
  pub c : k.c < 2 ^ 64
  pub d : k.d < 2 ^ 64

pub fit-digits : {k : Key} → Fit k → Digits (2 ^ 64) (words k)
fit-digits f zero = f.a
fit-digits f (suc zero) = f.b
fit-digits f (suc (suc zero)) = f.c
fit-digits f (suc (suc (suc zero))) = f.d
fit-digits f (suc (suc (suc (suc i)))) = omega arith

-- a key is a number of 256 bits
pub number_lt : (k : Key) → Fit k → number k < 2 ^ 256
unfolding number
number_lt k f = value_be-lt (2 ^ 64) (words k) (fit-digits f)

pub number-ring : (k : Key) → Fit k → number k < ring
unfolding ring
number-ring k f = number_lt k f

-- where they lie they are too
pub key-lt : (at : ℕ) (s : List ℕ) → Digits 256 s → at + 32 ≤ length s → key_at at s < ring
unfolding ring
key-lt at s d h = part-lt 256 at 32 s (omega arith) d h

-- keys stand to each other as their lists of words
pub by_words : (x y : Key) → Fit x → Fit y → order_of_lists (words x) (words y) ≡ order_of (number x) (number y)
unfolding number
by_words x y p q = order_lists (2 ^ 64) (words x) (words y) (fit-digits p) (fit-digits q) refl

-- and so do the derived comparisons of a key's fields
pub by_fields : (x y : Key) → Fit x → Fit y
    → ordering_then (nat_cmp x.a y.a) (ordering_then (nat_cmp x.b y.b) (ordering_then (nat_cmp x.c y.c) (nat_cmp x.d y.d)))
    ≡ order_of (number x) (number y)
unfolding order_of_lists
by_fields x y p q =
    ap₂ ordering_then (order_by x.a y.a)
    (ap₂ ordering_then (order_by x.b y.b) (ap₂ ordering_then (order_by x.c y.c) (order_by x.d y.d ∙ sym (then_end (order_of x.d y.d)))))
    ∙ by_words x y p q

pub same_fields : (x y : Key) → Fit x → Fit y → (eqb x.a y.a && (eqb x.b y.b && (eqb x.c y.c && eqb x.d y.d))) ≡ eqb (number x) (number y)
unfolding number same
same_fields x y p q =
    ap (λ (t : Bool). eqb x.a y.a && (eqb x.b y.b && (eqb x.c y.c && t))) (sym (and_true (eqb x.d y.d)))
    ∙ same_value (2 ^ 64) (words x) (words y) (fit-digits p) (fit-digits q) refl

-- keys of one number are one key
pub number_inj : (x y : Key) → Fit x → Fit y → number x ≡ number y → x ≡ y
unfolding number
number_inj x y p q e =
    let w : words x ≡ words y = value_be_inj (2 ^ 64) (words x) (words y) (fit-digits p) (fit-digits q) refl e in
    let a : x.a ≡ y.a = cc in
    let b : x.b ≡ y.b = cc in
    let c : x.c ≡ y.c = cc in
    let d : x.d ≡ y.d = cc in
    λ i. record { a = a i; b = b i; c = c i; d = d i }

-- the difference is zero exactly for a key and itself
pub difference_zero : (x y : Key) → Fit x → Fit y → (distance (number x) (number y) ≡ 0) ↔ (x ≡ y)
difference_zero x y p q = (
  λ e. number_inj x y p q (distance-zero (number x) (number y) e),
  λ e. ap (λ (k : Key). distance (number k) (number y)) e ∙ distance_self (number y),
)
