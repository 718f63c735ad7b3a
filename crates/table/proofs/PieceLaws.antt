-- Laws of the first bytes of a part and of what stands around a replaced part: what the fields of a row are read and written by. Assumes nothing.
use mathlib.Core.Path.{◌≡◌, sym, ap, ◌∙◌}
use mathlib.Core.List.{List, [], ◌∷◌, ◌++◌}
use Prim.Native.Nat.{ℕ, ◌+◌, ◌-◌, ◌≤◌, ◌<◌}
use native.Mathlib.Nat.{zero-add, suc-add}
use native.Mathlib.Omega.{arith}
use lib.ListN.{length, take, drop, set, length-append, length-set}
use lib.Seq.{take-take, drop-drop, length-take-le, set-append_left}
use Rattle.octet.specs.Part.{part, splice}
use Rattle.octet.proofs.PartLaws.{drop-splice}

-- ---- a part of a part: the first of its bytes

pub part-start : (at w n : ℕ) (s : List ℕ) → n ≤ w → part 0 n (part at w s) ≡ part at n s
part-start at w n s h = take-take n w (drop at s) h

-- a part lent by its start and its end
pub part_lent : (at w : ℕ) (s : List ℕ) → take ((at + w) - at) (drop at s) ≡ part at w s
part_lent at w s = let e : (at + w) - at ≡ w = omega arith in ap (λ (k : ℕ). take k (drop at s)) e

-- ---- around a replaced part

set_append_right : (xs ys : List ℕ) (i x : ℕ) → set (xs ++ ys) (length xs + i) x ≡ xs ++ set ys i x
set_append_right [] ys i x = ap (λ (k : ℕ). set ys k x) (zero-add i)
set_append_right (z ∷ xs) ys i x =
    ap (λ (k : ℕ). set (z ∷ (xs ++ ys)) k x) (suc-add (length xs) i) ∙ ap (λ (l : List ℕ). z ∷ l) (set_append_right xs ys i x)

-- a store into it
pub set-splice : (at : ℕ) (xs s : List ℕ) (i x : ℕ) → at ≤ length s → i < length xs → set (splice at xs s) (at + i) x ≡ splice at (set xs i x) s
unfolding splice
set-splice at xs s i x hs hx =
    let e : length (take at s) ≡ at = length-take-le at s hs in
    set-append_left (take at s ++ xs) (drop (at + length xs) s) (at + i) x (simp (length-append, e) (omega arith))
    ∙ ap (λ (l : List ℕ). l ++ drop (at + length xs) s)
    (ap (λ (k : ℕ). set (take at s ++ xs) (k + i) x) (sym e) ∙ set_append_right (take at s) xs i x)
    ∙ ap (λ (k : ℕ). take at s ++ set xs i x ++ drop (at + k) s) (sym (length-set xs i x))

-- what stands behind it
pub drop-behind : (at : ℕ) (xs s : List ℕ) (k : ℕ) → at + length xs ≤ length s → at + length xs ≤ k → drop k (splice at xs s) ≡ drop k s
drop-behind at xs s k fits h =
    let n : ℕ = at + length xs in
    let e : n + (k - n) ≡ k = omega arith in
    ap (λ (j : ℕ). drop j (splice at xs s)) (sym e) ∙ sym (drop-drop (k - n) n (splice at xs s))
    ∙ ap (drop (k - n)) (drop-splice at xs s fits) ∙ drop-drop (k - n) n s ∙ ap (λ (j : ℕ). drop j s) e
