-- Laws of the difference of two numbers, and of its computation digit by digit, at any base and any width. Assumes nothing.
use Rattle.std.proofs.Common.{◌≡◌, ℕ, zero, suc, ◌+◌, ◌-◌, ◌*◌, ◌%◌, ◌^◌, ◌<◌, ◌≤◌, List, [], ◌∷◌, length, sym, refl, ap, ◌∙◌, mod-eq_of_lt, arith}
use native.Mathlib.Nat.{pow-succ', add-mod_right}
use Rattle.octet.specs.Number.{Digits, value_be}
use Rattle.octet.proofs.BigLaws.{value_be-lt}
use Rattle.key.specs.Number.{distance}

-- ---- the difference

pub distance-sym : (m n : ℕ) → distance m n ≡ distance n m
unfolding distance
distance-sym m n = omega arith

pub distance_self : (n : ℕ) → distance n n ≡ 0
unfolding distance
distance_self n = omega arith

pub distance-zero : (m n : ℕ) → distance m n ≡ 0 → m ≡ n
unfolding distance
distance-zero m n e = omega arith

pub distance_above : (m n : ℕ) → n ≤ m → distance m n ≡ m - n
unfolding distance
distance_above m n h = omega arith

pub distance_below : (m n : ℕ) → m ≤ n → distance m n ≡ n - m
unfolding distance
distance_below m n h = omega arith

-- ---- a list of digits less another, with what is borrowed at each digit from the one before it

pub data Borrowed (b : ℕ) : List ℕ → List ℕ → List ℕ → ℕ → Type 0 where
  end : Borrowed b [] [] [] 0
  digit : {x y w c d : ℕ} {xs ys ws : List ℕ} → w + y + c ≡ x + d * b → Borrowed b xs ys ws c → Borrowed b (x ∷ xs) (y ∷ ys) (w ∷ ws) d

lengths : (b : ℕ) {xs ys ws : List ℕ} {c : ℕ} → Borrowed b xs ys ws c → (length ws ≡ length xs) × (length ys ≡ length xs)
lengths b end = (refl, refl)
lengths b (digit e r) = (ap suc (lengths b r).0, ap suc (lengths b r).1)

pub borrowed_value : (b : ℕ) {xs ys ws : List ℕ} {c : ℕ} → Borrowed b xs ys ws c → value_be b ws + value_be b ys ≡ value_be b xs + c * b ^ length xs
unfolding value_be
borrowed_value b end = omega arith
borrowed_value b (digit {x} {y} {w} {c} {d} {xs} {ys} {ws} e r) =
    let P : ℕ = b ^ length xs in
    rw ((lengths b r).0, (lengths b r).1, pow-succ' b (length xs))
    (omega (arith, borrowed_value b r, ap (λ (t : ℕ). t * P) e))

-- what is left is the difference round a ring of b ^ n
pub borrowed_wraps : (b : ℕ) {xs ys ws : List ℕ} {c : ℕ} → Borrowed b xs ys ws c → Digits b xs → Digits b ys → Digits b ws
    → value_be b ws ≡ ((value_be b xs + b ^ length xs) - value_be b ys) % b ^ length xs
borrowed_wraps b {xs} {ys} {ws} {c} r dx dy h =
    let v : value_be b ws + value_be b ys ≡ value_be b xs + c * b ^ length xs = borrowed_value b r in
    let w : value_be b ws < b ^ length xs = rw (sym (lengths b r).0) (value_be-lt b ws h) in
    let y : value_be b ys < b ^ length xs = rw (sym (lengths b r).1) (value_be-lt b ys dy) in
    by-case (b ^ length xs) (value_be b ws) (value_be b xs) (value_be b ys) c v w y (value_be-lt b xs dx)
  where
    by-case : (M w x y c : ℕ) → w + y ≡ x + c * M → w < M → y < M → x < M → w ≡ ((x + M) - y) % M
    by-case M w x y zero e h k l =
        let f : (x + M) - y ≡ w + M = omega arith in
        sym (ap (λ (n : ℕ). n % M) f ∙ add-mod_right w M ∙ mod-eq_of_lt h)
    by-case M w x y (suc zero) e h k l =
        let f : (x + M) - y ≡ w = omega arith in
        sym (ap (λ (n : ℕ). n % M) f ∙ mod-eq_of_lt h)
    by-case M w x y (suc (suc c)) e h k l =
        let m : suc (suc c) * M ≡ M + M + c * M = omega arith in
        absurd (omega arith)
