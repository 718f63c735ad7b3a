-- On a table that is full of rows of 100 bytes: one row goes and another comes, and the bytes are those of the rows then. Assumes nothing.
use mathlib.Core.Path.{◌≡◌, refl, sym, ap, ap₂, ◌∙◌}
use mathlib.Core.List.{List, [], ◌∷◌, ◌++◌, append_assoc, append-nil}
use Prim.Native.Nat.{ℕ, zero, suc, ◌+◌, ◌-◌, ◌*◌, ◌≤◌, ◌<◌}
use native.Mathlib.Omega.{arith}
use lib.ListN.{length, take, drop, replicate, length-append, length-drop}
use lib.Seq.{take_all, length-take-le}
use Rattle.octet.specs.Part.{part, splice}
use Rattle.octet.proofs.PartLaws.{length_part, splice_next, splice_under}
use Rattle.table.specs.Rows.{rows, joined, bytes_of, insert_at, remove_at}
use Rattle.table.proofs.RowLaws.{rows-length, rows_take, rows_drop, rows-joined, joined_append}

-- ---- one row goes and another comes: the rows between the two places move by one, and no other does

-- those between, where the place that it comes to is behind the one that goes, and where it is before it
rows-up : (g a : ℕ) (r : List ℕ) (rs : List (List ℕ)) → g ≤ a → a < length rs
    → insert_at a r (remove_at g rs) ≡ take g rs ++ (take (a - g) (drop (suc g) rs) ++ (r ∷ drop (suc a) rs))
rows-up g a r [] h l = absurd (omega arith)
rows-up zero a r (x ∷ xs) h l = let e : a ≡ a - 0 = omega arith in ap (λ (n : ℕ). take n xs ++ (r ∷ drop a xs)) e
rows-up (suc g) zero r (x ∷ xs) h l = absurd (omega arith)
rows-up (suc g) (suc a) r (x ∷ xs) h l =
    let e : a - g ≡ suc a - suc g = omega arith in
    ap (λ (t : List (List ℕ)). x ∷ t) (rows-up g a r xs (omega arith) (omega arith)
    ∙ ap (λ (n : ℕ). take g xs ++ (take n (drop (suc g) xs) ++ (r ∷ drop (suc a) xs))) e)

rows_down : (g a : ℕ) (r : List ℕ) (rs : List (List ℕ)) → a ≤ g → g < length rs
    → insert_at a r (remove_at g rs) ≡ take a rs ++ (r ∷ (take (g - a) (drop a rs) ++ drop (suc g) rs))
rows_down g zero r rs h l = let e : g ≡ g - 0 = omega arith in ap (λ (n : ℕ). r ∷ (take n rs ++ drop (suc g) rs)) e
rows_down g (suc a) r [] h l = absurd (omega arith)
rows_down zero (suc a) r (x ∷ xs) h l = absurd (omega arith)
rows_down (suc g) (suc a) r (x ∷ xs) h l =
    let e : g - a ≡ suc g - suc a = omega arith in
    ap (λ (t : List (List ℕ)). x ∷ t) (rows_down g a r xs (omega arith) (omega arith)
    ∙ ap (λ (n : ℕ). take a xs ++ (r ∷ (take n (drop a xs) ++ drop (suc g) xs))) e)

joined_cons : (r : List ℕ) (rs : List (List ℕ)) → joined (r ∷ rs) ≡ r ++ joined rs
unfolding joined
joined_cons r rs = refl

two_parts : (at n : ℕ) (xs ys s : List ℕ) → at + (length xs + length ys) ≡ n → splice at (xs ++ ys) s ≡ take at s ++ (xs ++ (ys ++ drop n s))
unfolding splice
two_parts at n xs ys s e =
    let k : at + length (xs ++ ys) ≡ n = omega (arith, length-append xs ys) in
    let d : List ℕ = drop (at + length (xs ++ ys)) s in
    append_assoc (take at s) (xs ++ ys) d
    ∙ ap (λ (t : List ℕ). take at s ++ t) (append_assoc xs ys d ∙ ap (λ (m : ℕ). xs ++ (ys ++ drop m s)) k)

module _ (used : ℕ) (s r : List ℕ) (full : length s ≡ 100 * used) (size : length r ≡ 100) where
  -- the bytes of a run of rows, and of all from a place on
  run-bytes : (i n : ℕ) → i + n ≤ used → joined (take n (drop i (rows 100 used s))) ≡ part (100 * i) (100 * n) s
  run-bytes i n h =
      ap (λ (l : List (List ℕ)). joined (take n l)) (rows_drop 100 i used s (omega arith))
      ∙ ap joined (rows_take 100 n (used - i) (drop (100 * i) s) (omega arith)) ∙ rows-joined 100 n (drop (100 * i) s)

  first_bytes : (n : ℕ) → n ≤ used → joined (take n (rows 100 used s)) ≡ take (100 * n) s
  first_bytes n h = ap joined (rows_take 100 n used s h) ∙ rows-joined 100 n s

  last-bytes : (i : ℕ) → i ≤ used → joined (drop i (rows 100 used s)) ≡ drop (100 * i) s
  last-bytes i h =
      ap joined (rows_drop 100 i used s h) ∙ rows-joined 100 (used - i) (drop (100 * i) s)
      ∙ take_all (100 * (used - i)) (drop (100 * i) s) (omega (arith, length-drop (100 * i) s))

  -- as many rows as there were fill the bytes
  filled : (l : List (List ℕ)) → length (joined l) ≡ length s → bytes_of (length s) l ≡ joined l
  unfolding bytes_of
  filled l e =
      let z : length s - length (joined l) ≡ 0 = omega arith in
      ap (λ (n : ℕ). joined l ++ replicate {A = ℕ} n 0) z ∙ append-nil (joined l)

  module _ (g a : ℕ) where
    pub exchanged-up : g ≤ a → a < used
        → splice (100 * a) r (splice (100 * g) (part (100 * g + 100) (100 * (a - g)) s) s) ≡ bytes_of (length s) (insert_at a r (remove_at g (rows 100 used s)))
    exchanged-up h l =
        let i : 100 * a ≡ 100 * g + 100 * (a - g) = omega arith in
        let m : 100 * g + 100 ≡ 100 * suc g = omega arith in
        let p : List ℕ = part (100 * suc g) (100 * (a - g)) s in
        let d : List ℕ = drop (100 * suc a) s in
        let n : length p ≡ 100 * (a - g) = length_part (100 * suc g) (100 * (a - g)) s (omega arith) in
        let b : joined (insert_at a r (remove_at g (rows 100 used s))) ≡ take (100 * g) s ++ (p ++ (r ++ d)) =
        ap joined (rows-up g a r (rows 100 used s) h (omega (arith, rows-length 100 used s)))
        ∙ joined_append (take g (rows 100 used s)) (take (a - g) (drop (suc g) (rows 100 used s)) ++ (r ∷ drop (suc a) (rows 100 used s)))
        ∙ ap₂ ◌++◌ (first_bytes g (omega arith))
        (joined_append (take (a - g) (drop (suc g) (rows 100 used s))) (r ∷ drop (suc a) (rows 100 used s))
        ∙ ap₂ ◌++◌ (run-bytes (suc g) (a - g) (omega arith))
        (joined_cons r (drop (suc a) (rows 100 used s)) ∙ ap (λ (t : List ℕ). r ++ t) (last-bytes (suc a) (omega arith)))) in
        let z : length (take (100 * g) s ++ (p ++ (r ++ d))) ≡ length s =
        omega (
          arith,
          length-append (take (100 * g) s) (p ++ (r ++ d)),
          length-append p (r ++ d),
          length-append r d,
          length-take-le (100 * g) s (omega arith),
          n,
          length-drop (100 * suc a) s,
        ) in
        ap₂ (λ (k j : ℕ). splice k r (splice (100 * g) (part j (100 * (a - g)) s) s)) i m
        ∙ splice_next (100 * g) (100 * (a - g)) p r s n (omega arith)
        ∙ two_parts (100 * g) (100 * suc a) p r s (omega arith)
        ∙ sym (filled (insert_at a r (remove_at g (rows 100 used s))) (ap length b ∙ z) ∙ b)

    pub exchanged-down : a ≤ g → g < used
        → splice (100 * a) r (splice (100 * a + 100) (part (100 * a) (100 * (g - a)) s) s) ≡ bytes_of (length s) (insert_at a r (remove_at g (rows 100 used s)))
    exchanged-down h l =
        let p : List ℕ = part (100 * a) (100 * (g - a)) s in
        let d : List ℕ = drop (100 * suc g) s in
        let n : length p ≡ 100 * (g - a) = length_part (100 * a) (100 * (g - a)) s (omega arith) in
        let b : joined (insert_at a r (remove_at g (rows 100 used s))) ≡ take (100 * a) s ++ (r ++ (p ++ d)) =
        ap joined (rows_down g a r (rows 100 used s) h (omega (arith, rows-length 100 used s)))
        ∙ joined_append (take a (rows 100 used s)) (r ∷ (take (g - a) (drop a (rows 100 used s)) ++ drop (suc g) (rows 100 used s)))
        ∙ ap₂ ◌++◌ (first_bytes a (omega arith))
        (joined_cons r (take (g - a) (drop a (rows 100 used s)) ++ drop (suc g) (rows 100 used s))
        ∙ ap (λ (t : List ℕ). r ++ t) (joined_append (take (g - a) (drop a (rows 100 used s))) (drop (suc g) (rows 100 used s))
        ∙ ap₂ ◌++◌ (run-bytes a (g - a) (omega arith)) (last-bytes (suc g) (omega arith)))) in
        let z : length (take (100 * a) s ++ (r ++ (p ++ d))) ≡ length s =
        omega (
          arith,
          length-append (take (100 * a) s) (r ++ (p ++ d)),
          length-append r (p ++ d),
          length-append p d,
          length-take-le (100 * a) s (omega arith),
          n,
          length-drop (100 * suc g) s,
        ) in
        splice_under (100 * a) 100 r p s size (omega arith)
        ∙ two_parts (100 * a) (100 * suc g) r p s (omega arith)
        ∙ sym (filled (insert_at a r (remove_at g (rows 100 used s))) (ap length b ∙ z) ∙ b)
