-- Laws of the steps of halving and of binary digits. In this order: their steps one by one, with as many as may be needed; the bound, and that it
-- is met; numbers. Assumes nothing.
use mathlib.Core.Path.{◌≡◌, refl, sym, ap, ap₂, ◌∙◌}
use mathlib.Core.Bool.{Bool, true, false, cond}
use mathlib.Core.List.{List, [], ◌∷◌}
use Prim.Native.Nat.{ℕ, zero, suc, ◌+◌, ◌/◌, ◌≤◌, ◌<◌}
use native.Mathlib.Omega.{arith}
use lib.Dec.{ltb, eqb}
use lib.ListN.{length, take, drop, get_or, length-drop}
use lib.Seq.{length-take-le, get_or-take}
use borrow.Author.Tests.{lt-ltb, le-ltb, eq-eqb, ne_eqb}
use Rattle.search.specs.Halving.{halving, halvings, binary, digits, AtMostDigits, DigitsMet}

-- ---- step by step

-- the two halves are shorter than the whole
front_short : (j : ℕ) (js : List ℕ) → length (take (length (j ∷ js) / 2) (j ∷ js)) ≤ length js
front_short j js = omega (arith, length-take-le (length (j ∷ js) / 2) (j ∷ js) (omega arith))

back_short : (j : ℕ) (js : List ℕ) → length (drop (length (j ∷ js) / 2 + 1) (j ∷ js)) ≤ length js
back_short j js = omega (arith, length-drop (length (j ∷ js) / 2 + 1) (j ∷ js))

-- any number of steps that is not less than the keys does
enough : (a b : ℕ) (keys : List ℕ) (k : ℕ) → length keys ≤ a → length keys ≤ b → halving a keys k ≡ halving b keys k
unfolding halving
enough zero zero keys k h l = refl
enough zero (suc b) [] k h l = refl
enough zero (suc b) (j ∷ js) k h l = absurd (omega arith)
enough (suc a) zero [] k h l = refl
enough (suc a) zero (j ∷ js) k h l = absurd (omega arith)
enough (suc a) (suc b) [] k h l = refl
enough (suc a) (suc b) (j ∷ js) k h l =
    let m = length (j ∷ js) / 2 in
    let f = front_short j js in
    let g = back_short j js in
    ap₂ (λ (x y : ℕ). suc (cond (eqb k (get_or (j ∷ js) m 0)) 0 (cond (ltb k (get_or (j ∷ js) m 0)) x y)))
    (enough a b (take m (j ∷ js)) k (omega (arith, f)) (omega (arith, f)))
    (enough a b (drop (m + 1) (j ∷ js)) k (omega (arith, g)) (omega (arith, g)))

-- of none, none
pub halvings-none : (k : ℕ) → halvings [] k ≡ 0
unfolding halving
halvings-none k = refl

-- of some, the one in the middle, and those of a half
pub halvings-some : (keys : List ℕ) (k : ℕ) → 0 < length keys
    → halvings keys k
    ≡ suc (cond (eqb k (get_or keys (length keys / 2) 0)) 0
    (cond (ltb k (get_or keys (length keys / 2) 0)) (halvings (take (length keys / 2) keys) k) (halvings (drop (length keys / 2 + 1) keys) k)))
unfolding halving
halvings-some [] k h = absurd (omega arith)
halvings-some (j ∷ js) k h =
    let m = length (j ∷ js) / 2 in
    let f = front_short j js in
    let g = back_short j js in
    ap₂ (λ (x y : ℕ). suc (cond (eqb k (get_or (j ∷ js) m 0)) 0 (cond (ltb k (get_or (j ∷ js) m 0)) x y)))
    (enough (length js) (length (take m (j ∷ js))) (take m (j ∷ js)) k f (omega arith))
    (enough (length js) (length (drop (m + 1) (j ∷ js))) (drop (m + 1) (j ∷ js)) k g (omega arith))

module _ (keys : List ℕ) (k : ℕ) (h : 0 < length keys) where
  pub halvings-same : get_or keys (length keys / 2) 0 ≡ k → halvings keys k ≡ 1
  halvings-same e = halvings-some keys k h ∙ rw (eq-eqb k (get_or keys (length keys / 2) 0) (sym e)) refl

  pub halvings-front : k < get_or keys (length keys / 2) 0 → halvings keys k ≡ suc (halvings (take (length keys / 2) keys) k)
  halvings-front l =
      halvings-some keys k h
      ∙ rw (ne_eqb k (get_or keys (length keys / 2) 0) (λ e. omega arith), lt-ltb k (get_or keys (length keys / 2) 0) l) refl

  pub halvings-back : get_or keys (length keys / 2) 0 < k → halvings keys k ≡ suc (halvings (drop (length keys / 2 + 1) keys) k)
  halvings-back l =
      halvings-some keys k h
      ∙ rw (ne_eqb k (get_or keys (length keys / 2) 0) (λ e. omega arith), le-ltb k (get_or keys (length keys / 2) 0) (omega arith)) refl

-- digits likewise
as_many : (a b n : ℕ) → n ≤ a → n ≤ b → binary a n ≡ binary b n
unfolding binary
as_many zero zero n h l = refl
as_many zero (suc b) zero h l = refl
as_many zero (suc b) (suc n) h l = absurd (omega arith)
as_many (suc a) zero zero h l = refl
as_many (suc a) zero (suc n) h l = absurd (omega arith)
as_many (suc a) (suc b) zero h l = refl
as_many (suc a) (suc b) (suc n) h l = ap suc (as_many a b (suc n / 2) (omega arith) (omega arith))

pub digits-none : digits 0 ≡ 0
unfolding binary
digits-none = refl

pub digits-some : (n : ℕ) → 0 < n → digits n ≡ suc (digits (n / 2))
unfolding binary
digits-some zero h = absurd (omega arith)
digits-some (suc n) h = ap suc (as_many n (suc n / 2) (suc n / 2) (omega arith) (omega arith))

-- ---- the bound

-- a larger number has no fewer digits
binary-le : (most a b : ℕ) → a ≤ b → binary most a ≤ binary most b
unfolding binary
binary-le zero a b h = omega arith
binary-le (suc most) zero b h = omega arith
binary-le (suc most) (suc a) zero h = absurd (omega arith)
binary-le (suc most) (suc a) (suc b) h = omega (arith, binary-le most (suc a / 2) (suc b / 2) (omega arith))

one_more : (b c : Bool) {x y n : ℕ} → x ≤ n → y ≤ n → suc (cond b 0 (cond c x y)) ≤ suc n
one_more true c h l = omega arith
one_more false true h l = omega arith
one_more false false h l = omega arith

halving-le : (most : ℕ) (keys : List ℕ) (k : ℕ) → halving most keys k ≤ binary most (length keys)
unfolding halving binary
halving-le zero keys k = omega arith
halving-le (suc most) [] k = omega arith
halving-le (suc most) (j ∷ js) k =
    let m = length (j ∷ js) / 2 in
    let front : length (take m (j ∷ js)) ≡ m = length-take-le m (j ∷ js) (omega arith) in
    let back : length (drop (m + 1) (j ∷ js)) ≤ m = omega (arith, length-drop (m + 1) (j ∷ js)) in
    one_more (eqb k (get_or (j ∷ js) m 0)) (ltb k (get_or (j ∷ js) m 0))
    (omega (arith, halving-le most (take m (j ∷ js)) k, ap (binary most) front))
    (omega (arith, halving-le most (drop (m + 1) (j ∷ js)) k, binary-le most (length (drop (m + 1) (j ∷ js))) m back))

pub at_most_digits : AtMostDigits
at_most_digits keys k = halving-le (length keys) keys k

-- a search for a key below all of them takes as many
halving_met : (most : ℕ) (keys : List ℕ) (k : ℕ) → ((i : ℕ) → i < length keys → k < get_or keys i 0) → halving most keys k ≡ binary most (length keys)
unfolding halving binary
halving_met zero keys k h = refl
halving_met (suc most) [] k h = refl
halving_met (suc most) (j ∷ js) k h =
    let m = length (j ∷ js) / 2 in
    let n : length (take m (j ∷ js)) ≡ m = length-take-le m (j ∷ js) (omega arith) in
    let l : k < get_or (j ∷ js) m 0 = h m (omega arith) in
    rw (ne_eqb k (get_or (j ∷ js) m 0) (λ e. omega (arith, e, l)), lt-ltb k (get_or (j ∷ js) m 0) l)
    (ap suc (halving_met most (take m (j ∷ js)) k (λ i u. omega (arith, get_or-take m (j ∷ js) i 0 (omega arith), h i (omega arith)))
    ∙ ap (binary most) n))

pub digits_met : DigitsMet
digits_met keys k h = halving_met (length keys) keys k h

pub digits_le_lem : (a b : ℕ) → a ≤ b → digits a ≤ digits b
digits_le_lem a b h = omega (arith, as_many a b a (omega arith) h, binary-le b a b h)

pub digits_256 : digits 256 ≡ 9
unfolding binary
digits_256 = refl

-- so never more than keys
binary_few : (most n : ℕ) → binary most n ≤ most
unfolding binary
binary_few zero n = omega arith
binary_few (suc most) zero = omega arith
binary_few (suc most) (suc n) = omega (arith, binary_few most (suc n / 2))

pub halvings_few : (keys : List ℕ) (k : ℕ) → halvings keys k ≤ length keys
halvings_few keys k = omega (arith, at_most_digits keys k, binary_few (length keys) (length keys))
