-- Laws of the order of numbers, and of lists of digits, at any base and any width.
-- In this order: the order of two numbers; one order after another; lists of digits, whose order is that of their numbers. Assumes nothing.
use Rattle.std.proofs.Common.{◌≡◌, ℕ, suc, ◌+◌, ◌*◌, ◌^◌, ◌<◌, true, false, eqb, ltb, List, [], ◌∷◌, length, sym, refl, ap, ◌∙◌, arith, le-ltb, lt-ltb, eq-eqb, ne_eqb}
use Rattle.std.specs.Ordering.{is_lt, nat_cmp, ordering_then}
use native.Mathlib.Decide.{dec_lt}
use native.Mathlib.Nat.{suc_inj}
use lib.Arith.{digits_lt}
use Rattle.octet.specs.Number.{Digits, value_be}
use Rattle.octet.proofs.BigLaws.{value_be-lt}
use Rattle.std.specs.declared.cmp.Ordering.{Ordering}
use Rattle.std.specs.declared.cmp.Ordering.TheVariants.{Less, Equal, Greater}
use Rattle.key.specs.Number.{order_of}

-- ---- the order of two numbers

pub order_less : {m n : ℕ} → m < n → order_of m n ≡ Less
unfolding order_of
order_less {m} {n} h = rw (lt-ltb m n h)

pub order_more : {m n : ℕ} → n < m → order_of m n ≡ Greater
unfolding order_of
order_more {m} {n} h = rw (le-ltb m n (omega arith), lt-ltb n m h)

pub order_same : {m n : ℕ} → m ≡ n → order_of m n ≡ Equal
unfolding order_of
order_same {m} {n} e = rw (le-ltb m n (omega arith), le-ltb n m (omega arith))

-- one of the three holds
pub data Stand (m n : ℕ) : Type 0 where
  below : m < n → Stand m n
  equal : m ≡ n → Stand m n
  above : n < m → Stand m n

pub stand : (m n : ℕ) → Stand m n
stand m n = first (dec_lt m n) (dec_lt n m)
  where
    first : Dec (m < n) → Dec (n < m) → Stand m n
    first (yes h) k = below h
    first (no h) (yes k) = above k
    first (no h) (no k) = equal (omega arith)

-- the answer tells which
pub less_is : (m n : ℕ) → order_of m n ≡ Less → m < n
less_is m n e = by-case (stand m n)
  where
    by-case : Stand m n → m < n
    by-case (below h) = h
    by-case (equal h) = let s : order_of m n ≡ Equal = order_same h in let z : ◌≡◌ {A = ℕ} 0 1 = cc in omega arith
    by-case (above h) = let s : order_of m n ≡ Greater = order_more h in let z : ◌≡◌ {A = ℕ} 0 1 = cc in omega arith

pub same-is : (m n : ℕ) → order_of m n ≡ Equal → m ≡ n
same-is m n e = by-case (stand m n)
  where
    by-case : Stand m n → m ≡ n
    by-case (below h) = let s : order_of m n ≡ Less = order_less h in let z : ◌≡◌ {A = ℕ} 0 1 = cc in omega arith
    by-case (equal h) = h
    by-case (above h) = let s : order_of m n ≡ Greater = order_more h in let z : ◌≡◌ {A = ℕ} 0 1 = cc in omega arith

pub more_is : (m n : ℕ) → order_of m n ≡ Greater → n < m
more_is m n e = by-case (stand m n)
  where
    by-case : Stand m n → n < m
    by-case (below h) = let s : order_of m n ≡ Less = order_less h in let z : ◌≡◌ {A = ℕ} 0 1 = cc in omega arith
    by-case (equal h) = let s : order_of m n ≡ Equal = order_same h in let z : ◌≡◌ {A = ℕ} 0 1 = cc in omega arith
    by-case (above h) = h

-- the two tests that code makes of the answer: is the first less, are they the same?
pub test_less : (m n : ℕ) → order_of m n ≡ Less → (ltb m n ≡ true) × (eqb m n ≡ false)
test_less m n e = let h = less_is m n e in (lt-ltb m n h, ne_eqb m n (λ q. omega arith))

pub test_same : (m n : ℕ) → order_of m n ≡ Equal → (ltb m n ≡ false) × (eqb m n ≡ true)
test_same m n e = let h = same-is m n e in (le-ltb m n (omega arith), eq-eqb m n h)

pub test_more : (m n : ℕ) → order_of m n ≡ Greater → (ltb m n ≡ false) × (eqb m n ≡ false)
test_more m n e = let h = more_is m n e in (le-ltb m n (omega arith), ne_eqb m n (λ q. omega arith))

-- what std's comparison of two numbers answers, and its test of less
pub order_by : (m n : ℕ) → nat_cmp m n ≡ order_of m n
order_by m n = by-case (stand m n)
  where
    by-case : Stand m n → nat_cmp m n ≡ order_of m n
    by-case (below h) = rw (lt-ltb m n h) (sym (order_less h))
    by-case (equal h) = rw (le-ltb m n (omega arith), eq-eqb m n h) (sym (order_same h))
    by-case (above h) = rw (le-ltb m n (omega arith), ne_eqb m n (λ q. omega arith)) (sym (order_more h))

pub less_by : (m n : ℕ) → is_lt (order_of m n) ≡ ltb m n
less_by m n = by-case (stand m n)
  where
    by-case : Stand m n → is_lt (order_of m n) ≡ ltb m n
    by-case (below h) = ap is_lt (order_less h) ∙ sym (lt-ltb m n h)
    by-case (equal h) = ap is_lt (order_same h) ∙ sym (le-ltb m n (omega arith))
    by-case (above h) = ap is_lt (order_more h) ∙ sym (le-ltb m n (omega arith))

-- numbers that stand alike are less alike
pub less_alike : (m n j k : ℕ) → order_of m n ≡ order_of j k → ltb m n ≡ ltb j k
less_alike m n j k e = by-case (stand j k)
  where
    by-case : Stand j k → ltb m n ≡ ltb j k
    by-case (below h) = (test_less m n (e ∙ order_less h)).0 ∙ sym (lt-ltb j k h)
    by-case (equal h) = (test_same m n (e ∙ order_same h)).0 ∙ sym (le-ltb j k (omega arith))
    by-case (above h) = (test_more m n (e ∙ order_more h)).0 ∙ sym (le-ltb j k (omega arith))

-- a number added to both
order_add : (k m n : ℕ) → order_of (k + m) (k + n) ≡ order_of m n
order_add k m n = by-case (stand m n)
  where
    by-case : Stand m n → order_of (k + m) (k + n) ≡ order_of m n
    by-case (below h) = order_less {m = k + m} {n = k + n} (omega arith) ∙ sym (order_less h)
    by-case (equal h) = order_same (ap (λ (i : ℕ). k + i) h) ∙ sym (order_same h)
    by-case (above h) = order_more {m = k + m} {n = k + n} (omega arith) ∙ sym (order_more h)

-- ---- one order after another

pub then_end : (o : Ordering) → ordering_then o Equal ≡ o
then_end Less = refl
then_end Equal = refl
then_end Greater = refl

pub then_differ : (m n : ℕ) (o : Ordering) → (m ≡ n → ⊥) → ordering_then (order_of m n) o ≡ order_of m n
then_differ m n o h = by-case (stand m n)
  where
    by-case : Stand m n → ordering_then (order_of m n) o ≡ order_of m n
    by-case (below l) = rw (order_less l)
    by-case (equal e) = absurd (h e)
    by-case (above l) = rw (order_more l)

pub then_equal : (m n : ℕ) (o : Ordering) → m ≡ n → ordering_then (order_of m n) o ≡ o
then_equal m n o e = rw (order_same e)

-- numbers by a high part and a low part below P: the high parts decide, and the low ones where those are equal
pub heads : (P x y : ℕ) {X Y : ℕ} (o : Ordering) → X < P → Y < P → o ≡ order_of X Y → ordering_then (order_of x y) o ≡ order_of (x * P + X) (y * P + Y)
heads P x y {X} {Y} o p q r = by-case (stand x y)
  where
    by-case : Stand x y → ordering_then (order_of x y) o ≡ order_of (x * P + X) (y * P + Y)
    by-case (below s) = rw (order_less s) (sym (order_less {m = x * P + X} {n = y * P + Y} (omega (arith, digits_lt {c = P} s p))))
    by-case (equal e) = rw (order_same e) (r ∙ sym (order_add (x * P) X Y) ∙ ap (λ (z : ℕ). order_of (x * P + X) (z * P + Y)) e)
    by-case (above s) = rw (order_more s) (sym (order_more {m = x * P + X} {n = y * P + Y} (omega (arith, digits_lt {c = P} s q))))

-- ---- lists of digits

-- how one list stands to another, by the first elements that differ
unfoldable pub order_of_lists : List ℕ → List ℕ → Ordering
order_of_lists [] [] = Equal
order_of_lists [] (y ∷ ys) = Less
order_of_lists (x ∷ xs) [] = Greater
order_of_lists (x ∷ xs) (y ∷ ys) = ordering_then (order_of x y) (order_of_lists xs ys)

-- byte order is number order, at any equal width
pub order_lists : (b : ℕ) (xs ys : List ℕ) → Digits b xs → Digits b ys → length xs ≡ length ys → order_of_lists xs ys ≡ order_of (value_be b xs) (value_be b ys)
unfolding order_of_lists value_be
order_lists b [] [] h k l = sym (order_same {m = 0} {n = 0} refl)
order_lists b [] (y ∷ ys) h k l = absurd (omega arith)
order_lists b (x ∷ xs) [] h k l = absurd (omega arith)
order_lists b (x ∷ xs) (y ∷ ys) h k l =
    let n : length xs ≡ length ys = suc_inj l in
    let Y-lt : value_be b ys < b ^ length xs = rw n (value_be-lt b ys (λ i. k (suc i))) in
    rw (sym n) (heads (b ^ length xs) x y (order_of_lists xs ys) (value_be-lt b xs (λ i. h (suc i))) Y-lt
    (order_lists b xs ys (λ i. h (suc i)) (λ i. k (suc i)) n))
