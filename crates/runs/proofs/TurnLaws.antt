-- One turn of each loop that replaces a part: what stands there after i bytes, and after one more. Assumes nothing.
use mathlib.Core.Path.{◌≡◌, sym, ap, ap₂, ◌∙◌}
use Prim.Native.Nat.{ℕ, ◌+◌, ◌-◌, ◌≤◌, ◌<◌}
use native.Mathlib.Numerals.{add-one}
use native.Mathlib.Omega.{arith}
use mathlib.Core.List.{List, ◌++◌}
use lib.ListN.{length, take, get_or, set, replicate, length-replicate, replicate-append-replicate}
use lib.Seq.{take-suc, length-take-le}
use Rattle.octet.specs.Part.{part, splice}
use Rattle.octet.proofs.PartLaws.{part_add, part_one, part_snoc, length_part, splice-above, splice-below, splice_more, splice_cons}

-- a copy from another list
pub copy_turn : (at i : ℕ) (src d : List ℕ) → i < length src → at + length src ≤ length d
    → set (splice at (take i src) d) (at + i) (get_or src i 0) ≡ splice at (take (i + 1) src) d
copy_turn at i src d h k =
    splice_more at i (get_or src i 0) (take i src) d (length-take-le i src (omega arith)) (omega arith)
    ∙ ap (λ (l : List ℕ). splice at l d) (sym (ap (λ (n : ℕ). take n src) (add-one i) ∙ take-suc src i 0 h))

-- a fill with one value
pub fill_turn : (at i x : ℕ) (s : List ℕ) → at + i < length s → set (splice at (replicate i x) s) (at + i) x ≡ splice at (replicate (i + 1) x) s
fill_turn at i x s h =
    splice_more at i x (replicate i x) s (length-replicate i x) h
    ∙ ap (λ (l : List ℕ). splice at l s) (replicate-append-replicate i 1 x)

-- a move down, from the front; a move up, from the back, where j is one less than i
pub down_turn : (from to i : ℕ) (s : List ℕ) → to ≤ from → from + i < length s
    → (l : List ℕ) → l ≡ splice to (part from i s) s → set l (to + i) (get_or l (from + i) 0) ≡ splice to (part from (i + 1) s) s
down_turn from to i s h k l e =
    let n : length (part from i s) ≡ i = length_part from i s (omega arith) in
    let x : get_or l (from + i) 0 ≡ get_or s (from + i) 0 =
    ap (λ (m : List ℕ). get_or m (from + i) 0) e ∙ splice-above to (part from i s) s (omega arith) (from + i) (omega arith) in
    ap₂ (λ (m : List ℕ) (y : ℕ). set m (to + i) y) e x
    ∙ splice_more to i (get_or s (from + i) 0) (part from i s) s n (omega arith)
    ∙ ap (λ (m : List ℕ). splice to m s) (sym (part_snoc from i s k))

pub up_turn : (from to n i j : ℕ) (s : List ℕ) → from ≤ to → to + n ≤ length s → i ≤ n → i ≡ j + 1
    → (l : List ℕ) → l ≡ splice (to + i) (part (from + i) (n - i) s) s
    → set l (to + j) (get_or l (from + j) 0) ≡ splice (to + j) (part (from + j) (n - j) s) s
up_turn from to n i j s h k m q l e =
    let xs : List ℕ = part (from + i) (n - i) s in
    let len : length xs ≡ n - i = length_part (from + i) (n - i) s (omega arith) in
    let x : get_or l (from + j) 0 ≡ get_or s (from + j) 0 =
    ap (λ (m : List ℕ). get_or m (from + j) 0) e ∙ splice-below (to + i) xs s (omega arith) (from + j) (omega arith) in
    let place : to + i ≡ to + j + 1 = omega arith in
    let start : from + i ≡ from + j + 1 = omega arith in
    let count : n - j ≡ 1 + (n - i) = omega arith in
    ap₂ (λ (m : List ℕ) (y : ℕ). set m (to + j) y) (e ∙ ap (λ (p : ℕ). splice p xs s) place) x
    ∙ splice_cons (to + j) (get_or s (from + j) 0) xs s (omega arith)
    ∙ ap (λ (m : List ℕ). splice (to + j) m s)
    (sym (ap (λ (p : ℕ). part (from + j) p s) count ∙ part_add (from + j) 1 (n - i) s
    ∙ ap₂ ◌++◌ (part_one (from + j) s (omega arith)) (ap (λ (p : ℕ). part p (n - i) s) (sym start))))
