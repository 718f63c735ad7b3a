-- Laws of keys where they lie: how two parts stand to each other, by their first digits and then by the others, at any base and any width.
-- Assumes nothing.
use Rattle.std.proofs.Common.{◌≡◌, ℕ, ◌+◌, ◌-◌, ◌*◌, ◌^◌, ◌<◌, ◌≤◌, eqb, List, length, sym, refl, ap, ◌∙◌, ap₂, arith}
use Rattle.std.specs.Ordering.{ordering_then}
use Rattle.octet.specs.Number.{Digits, value_be}
use Rattle.octet.specs.Part.{part, same}
use Rattle.octet.proofs.BigLaws.{value_be-lt, value_be-part, value_be_inj}
use Rattle.octet.proofs.TestLaws.{same_by}
use Rattle.octet.proofs.PartLaws.{part-digits, length_part}
use Rattle.std.specs.declared.cmp.Ordering.{Ordering}
use Rattle.std.specs.declared.cmp.Ordering.TheVariants.{Less, Greater}
use Rattle.key.specs.Number.{order_of}
use Rattle.key.proofs.OrderLaws.{heads, order_less, order_more}

-- the number of a part of n digits
pub part-lt : (b at n : ℕ) (s : List ℕ) → 0 < b → Digits b s → at + n ≤ length s → value_be b (part at n s) < b ^ n
part-lt b at n s p d h = rw (length_part at n s h) at (value_be-lt b (part at n s) (part-digits b at n s p d))

pub order-part : (b m n i j : ℕ) (s t : List ℕ) → 0 < b → Digits b s → Digits b t → i + m + n ≤ length s → j + m + n ≤ length t
    → order_of (value_be b (part i (m + n) s)) (value_be b (part j (m + n) t))
    ≡ ordering_then (order_of (value_be b (part i m s)) (value_be b (part j m t))) (order_of (value_be b (part (i + m) n s)) (value_be b (part (j + m) n t)))
order-part b m n i j s t p d e h k =
    rw (value_be-part b i m n s h, value_be-part b j m n t k)
    (sym (heads (b ^ n) (value_be b (part i m s)) (value_be b (part j m t)) (order_of (value_be b (part (i + m) n s)) (value_be b (part (j + m) n t)))
    (part-lt b (i + m) n s p d h) (part-lt b (j + m) n t p e k) refl))

-- two digits that differ decide
pub then_less : (m n : ℕ) (o : Ordering) → m < n → ordering_then (order_of m n) o ≡ Less
then_less m n o h = rw (order_less h)

pub then_more : (m n : ℕ) (o : Ordering) → n < m → ordering_then (order_of m n) o ≡ Greater
then_more m n o h = rw (order_more h)

-- how the keys at places a and b stand by their words from the k-th on
abbrev pub order_from : ℕ → ℕ → ℕ → List ℕ → List ℕ → Ordering
order_from k a b s t = order_of (value_be 256 (part (a + 8 * k) (32 - 8 * k) s)) (value_be 256 (part (b + 8 * k) (32 - 8 * k) t))

-- a turn of the loop over the four words of two keys
module _ (a b : ℕ) (s t : List ℕ) (d : Digits 256 s) (e : Digits 256 t) (h : a + 32 ≤ length s) (g : b + 32 ≤ length t) where
  pub order-words : (k : ℕ) → k < 4
      → order_from k a b s t ≡ ordering_then (order_of (value_be 256 (part (a + 8 * k) 8 s)) (value_be 256 (part (b + 8 * k) 8 t))) (order_from (k + 1) a b s t)
  order-words k l =
      let n : ℕ = 32 - 8 * (k + 1) in
      let width : 32 - 8 * k ≡ 8 + n = omega arith in
      let p : a + 8 * k + 8 ≡ a + 8 * (k + 1) = omega arith in
      let q : b + 8 * k + 8 ≡ b + 8 * (k + 1) = omega arith in
      ap (λ (w : ℕ). order_of (value_be 256 (part (a + 8 * k) w s)) (value_be 256 (part (b + 8 * k) w t))) width
      ∙ order-part 256 8 n (a + 8 * k) (b + 8 * k) s t (omega arith) d e (omega arith) (omega arith)
      ∙ ap₂ (λ (x y : ℕ). ordering_then (order_of (value_be 256 (part (a + 8 * k) 8 s)) (value_be 256 (part (b + 8 * k) 8 t)))
      (order_of (value_be 256 (part x n s)) (value_be 256 (part y n t)))) p q

-- lists of digits of one width are the same exactly where their numbers are
pub same_value : (b : ℕ) (xs ys : List ℕ) → Digits b xs → Digits b ys → length xs ≡ length ys → same xs ys ≡ eqb (value_be b xs) (value_be b ys)
same_value b xs ys d e n = same_by (value_be b) xs ys (value_be_inj b xs ys d e n)
