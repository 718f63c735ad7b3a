-- Lists read backwards and round, place by place: what code over the keys cites. Assumes nothing.
use mathlib.Core.Path.{◌≡◌, sym, ◌∙◌, ap}
use mathlib.Core.Bool.{cond}
use mathlib.Core.List.{List, [], ◌∷◌, ◌++◌, reverse, reverse-cons}
use Prim.Native.Nat.{ℕ, suc, ◌+◌, ◌-◌, ◌≤◌, ◌<◌}
use native.Mathlib.Omega.{arith}
use lib.Dec.{ltb}
use lib.ListN.{length, take, drop, get_or, length-append, length-take, length-drop, length-reverse, get_or-append}
use lib.Seq.{get_or_at, get_or-take, get_or-drop, get_or-append-add}
use borrow.Author.Tests.{lt-ltb, le-ltb}
use Rattle.kept.specs.Turned.{turned, wrapped}
use Rattle.kept.proofs.PutLaws.{Tri, less, same, more, tri}

-- read downwards from the end of the first n
pub reverse_get_d : (l : List ℕ) (j : ℕ) → j < length l → get_or (reverse l) j 0 ≡ get_or l (length l - 1 - j) 0
reverse_get_d [] j h = absurd (omega arith)
reverse_get_d (k ∷ l) j h = go (tri j (length l)) (reverse_get_d l j)
  where
    go : Tri j (length l) → (j < length l → get_or (reverse l) j 0 ≡ get_or l (length l - 1 - j) 0)
        → get_or (reverse (k ∷ l)) j 0 ≡ get_or (k ∷ l) (suc (length l) - 1 - j) 0
    go (less g) ih =
        let e : suc (length l) - 1 - j ≡ suc (length l - 1 - j) = omega arith in
        rw (reverse-cons, e) (get_or-append (reverse l) (k ∷ []) 0 j (rw length-reverse g) ∙ ih g)
    go (same d) ih =
        let e : suc (length l) - 1 - j ≡ 0 = omega arith in
        rw (reverse-cons, e) (get_or_at (reverse l) k [] 0 j (length-reverse l ∙ sym d))
    go (more g) ih = absurd (omega arith)

-- read round from place n on
pub turned_at : (n : ℕ) (l : List ℕ) (i : ℕ) → n ≤ length l → i < length l → get_or (turned n l) i 0 ≡ get_or l (wrapped (length l) (n + i)) 0
unfolding turned wrapped
turned_at n l i h g = go (tri i (length (drop n l)))
  where
    size : length (drop n l) ≡ length l - n
    size = length-drop n l

    back : ¬ (i < length (drop n l)) → get_or (drop n l ++ take n l) i 0 ≡ get_or l (cond (ltb (n + i) (length l)) (n + i) ((n + i) - length l)) 0
    back d =
        let e : i ≡ length (drop n l) + ((n + i) - length l) = omega (arith, size) in
        rw (le-ltb (n + i) (length l) (omega (arith, size)))
        (ap (λ (k : ℕ). get_or (drop n l ++ take n l) k 0) e
        ∙ (get_or-append-add (drop n l) (take n l) ((n + i) - length l) 0 ∙ get_or-take n l ((n + i) - length l) 0 (omega (arith, size))))

    go : Tri i (length (drop n l)) → get_or (drop n l ++ take n l) i 0 ≡ get_or l (cond (ltb (n + i) (length l)) (n + i) ((n + i) - length l)) 0
    go (less k) = rw (lt-ltb (n + i) (length l) (omega (arith, size))) (get_or-append (drop n l) (take n l) 0 i k ∙ get_or-drop n l i 0)
    go (same e) = back (omega arith)
    go (more k) = back (omega arith)

pub turned-length : (n : ℕ) (l : List ℕ) → length (turned n l) ≡ length l
unfolding turned
turned-length n l = length-append (drop n l) (take n l) ∙ simp (length-take, length-drop) (omega arith)

pub wrapped-lt : (m i : ℕ) → i < m + m → 0 < m → wrapped m i < m
unfolding wrapped
wrapped-lt m i h g = go (tri i m)
  where
    go : Tri i m → cond (ltb i m) i (i - m) < m
    go (less k) = rw (lt-ltb i m k) k
    go (same e) = rw (le-ltb i m (omega arith)) (omega arith)
    go (more k) = rw (le-ltb i m (omega arith)) (omega arith)
