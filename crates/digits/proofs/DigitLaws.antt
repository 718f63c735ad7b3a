-- Laws of digits. In this order: those that `io` writes are a number in decimal; how many they are; bytes in hexadecimal. Assumes nothing.
use mathlib.Core.Path.{◌≡◌, refl, sym, ap, ap₂, subst, ◌∙◌}
use mathlib.Core.Bool.{Bool, true, false, cond}
use mathlib.Core.List.{List, [], ◌∷◌, ◌++◌}
use Prim.Native.Nat.{ℕ, zero, suc, ◌+◌, ◌-◌, ◌*◌, ◌/◌, ◌%◌, ◌^◌, ◌≤◌, ◌<◌}
use native.Mathlib.Nat.{one-le-pow, pow-succ', mod-eq_of_lt, zero-add}
use native.Mathlib.Omega.{arith}
use lib.Dec.{ltb}
use lib.ListN.{length, take, set, get_or, length-append, length-take}
use borrow.Author.Tests.{lt-ltb, le-ltb}
use Rattle.octet.specs.Part.{splice}
use Rattle.octet.proofs.PartLaws.{part_snoc, splice_more}
use Rattle.io.specs.Digits.{last_digits, IsDigitCount, hex_digit_ascii}
use Rattle.digits.specs.Digits.{decimal_up_to, decimal, hex_digit, hex_of}

-- ---- decimal

glyph_is : (d : ℕ) → d < 10 → hex_digit_ascii d ≡ 48 + d
glyph_is d h = rw (lt-ltb d 10 h) refl

one_digit : (n : ℕ) → n < 10 → last_digits 10 1 n ≡ (48 + n) ∷ []
one_digit n h = ap (λ (d : ℕ). d ∷ []) (ap hex_digit_ascii (mod-eq_of_lt h) ∙ glyph_is n h)

below_one : (more n : ℕ) → n < 10 → (48 + n) ∷ [] ≡ decimal_up_to more n
unfolding decimal_up_to
below_one zero n h = refl
below_one (suc more) n h = rw (lt-ltb n 10 h) refl

ten : (k : ℕ) → 10 ^ suc k ≡ 10 * 10 ^ k
ten k = pow-succ' 10 k

one_less_lem : (k : ℕ) → suc k - 1 ≡ k
one_less_lem k = omega arith

least : (k n : ℕ) → IsDigitCount 10 1 n (suc (suc k)) → 10 ^ suc k ≤ n
least k n f = subst (λ (e : ℕ). 10 ^ e ≤ n) (one_less_lem (suc k)) (f.2 (omega arith))

-- all but the last digit
fewer : (k n : ℕ) → IsDigitCount 10 1 n (suc (suc k)) → IsDigitCount 10 1 (n / 10) (suc k)
fewer k n f =
    let bound : n / 10 < 10 ^ suc k = omega (arith, f.1, ten (suc k)) in
    let there : 10 ^ k ≤ n / 10 = omega (arith, least k n f, ten k) in
    (omega arith, bound, λ p. subst (λ (e : ℕ). 10 ^ e ≤ n / 10) (sym (one_less_lem k)) there)

pub digits_decimal : (more r n : ℕ) → n < 10 ^ suc more → IsDigitCount 10 1 n r → last_digits 10 r n ≡ decimal_up_to more n
unfolding decimal_up_to
digits_decimal more zero n h f = absurd (omega (arith, f.0))
digits_decimal more (suc zero) n h f = one_digit n f.1 ∙ below_one more n f.1
digits_decimal zero (suc (suc k)) n h f = absurd (omega (arith, h, least k n f, ten k, one-le-pow k 10 (omega arith)))
digits_decimal (suc more) (suc (suc k)) n h f =
    let low : 10 ≤ n = omega (arith, least k n f, ten k, one-le-pow k 10 (omega arith)) in
    let rest = digits_decimal more (suc k) (n / 10) (omega (arith, h, ten (suc more))) (fewer k n f) in
    let last = glyph_is (n % 10) (omega arith) in
    rw (le-ltb n 10 low) (ap₂ (λ (a : List ℕ) (b : ℕ). a ++ (b ∷ [])) rest last)

-- 64 bits have no more than 20 digits
pub decimal-is : (r n : ℕ) → n < 2 ^ 64 → IsDigitCount 10 1 n r → last_digits 10 r n ≡ decimal n
decimal-is r n h f = digits_decimal 19 r n (omega (arith, h)) f

length_by : (t : Bool) (xs ys : List ℕ) (k : ℕ) → length xs ≤ k → length ys ≤ k → length (cond t xs ys) ≤ k
length_by true xs ys k p q = p
length_by false xs ys k p q = q

length-up_to : (more n : ℕ) → length (decimal_up_to more n) ≤ suc more
unfolding decimal_up_to
length-up_to zero n = omega arith
length-up_to (suc more) n =
    length_by (ltb n 10) ((48 + n) ∷ []) (decimal_up_to more (n / 10) ++ ((48 + n % 10) ∷ [])) (suc (suc more)) (omega arith)
    (omega (arith, length-append (decimal_up_to more (n / 10)) ((48 + n % 10) ∷ []), length-up_to more (n / 10)))

pub length-decimal : (n : ℕ) → length (decimal n) ≤ 20
length-decimal n = length-up_to 19 n

-- ---- hexadecimal

pub length_hex : (bs : List ℕ) → length (hex_of bs) ≡ 2 * length bs
unfolding hex_of
length_hex [] = refl
length_hex (b ∷ bs) = omega (arith, length_hex bs)

hex_append : (xs bs : List ℕ) → hex_of (xs ++ bs) ≡ hex_of xs ++ hex_of bs
unfolding hex_of
hex_append [] bs = refl
hex_append (a ∷ xs) bs = ap (λ (l : List ℕ). hex_digit (a / 16) ∷ hex_digit (a % 16) ∷ l) (hex_append xs bs)

hex_snoc : (xs : List ℕ) (b : ℕ) → hex_of (xs ++ (b ∷ [])) ≡ (hex_of xs ++ (hex_digit (b / 16) ∷ [])) ++ (hex_digit (b % 16) ∷ [])
unfolding hex_of
hex_snoc xs b = hex_append xs (b ∷ []) ∙ two (hex_of xs) (hex_digit (b / 16)) (hex_digit (b % 16))
  where
    two : (l : List ℕ) (x y : ℕ) → l ++ (x ∷ y ∷ []) ≡ (l ++ (x ∷ [])) ++ (y ∷ [])
    two [] x y = refl
    two (z ∷ l) x y = ap (λ (m : List ℕ). z ∷ m) (two l x y)

-- a byte more
pub hex_turn : (at i : ℕ) (s out : List ℕ) → i < length s → at + 2 * length s ≤ length out → (x y : ℕ) → x ≡ hex_digit (get_or s i 0 / 16)
    → y ≡ hex_digit (get_or s i 0 % 16)
    → set (set (splice at (hex_of (take i s)) out) (at + 2 * i) x) (at + 2 * i + 1) y ≡ splice at (hex_of (take (i + 1) s)) out
hex_turn at i s out h room x y p q =
    let b = get_or s i 0 in
    let front = hex_of (take i s) in
    let l : length front ≡ 2 * i = length_hex (take i s) ∙ omega (arith, length-take i s) in
    let m : length (front ++ (x ∷ [])) ≡ 2 * i + 1 = length-append front (x ∷ []) ∙ omega (arith, l) in
    let more : take (i + 1) s ≡ take i s ++ (b ∷ []) =
    part_snoc 0 i s (omega arith) ∙ ap (λ (n : ℕ). take i s ++ (get_or s n 0 ∷ [])) (zero-add i) in
    let one : set (splice at front out) (at + 2 * i) x ≡ splice at (front ++ (x ∷ [])) out = splice_more at (2 * i) x front out l (omega arith) in
    let place : at + 2 * i + 1 ≡ at + (2 * i + 1) = omega arith in
    ap₂ (λ (t : List ℕ) (n : ℕ). set t n y) one place
    ∙ splice_more at (2 * i + 1) y (front ++ (x ∷ [])) out m (omega arith)
    ∙ ap₂ (λ (v w : ℕ). splice at ((front ++ (v ∷ [])) ++ (w ∷ [])) out) p q
    ∙ ap (λ (t : List ℕ). splice at t out) (sym (ap hex_of more ∙ hex_snoc (take i s) b))
