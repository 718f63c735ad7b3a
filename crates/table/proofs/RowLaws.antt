-- Laws of `rows`, `joined` and `bytes_of`, over the width of a row.
-- In this order: how many and how long; a row is a part; the first and the later ones; rows put together and taken apart; memory laid out in
-- rows, and laid out anew. Elsewhere: a row inserted, removed or replaced, in EditLaws; the fields of a row, in PieceLaws. Assumes nothing.
use mathlib.Core.Path.{◌≡◌, refl, sym, ap, ap₂, ◌∙◌}
use mathlib.Core.List.{List, [], ◌∷◌, ◌++◌, append_assoc}
use Prim.Native.Nat.{ℕ, zero, suc, ◌+◌, ◌-◌, ◌*◌, ◌≤◌, ◌<◌}
use native.Mathlib.Nat.{mul-suc, mul-zero, zero-add, suc-add}
use native.Mathlib.Numerals.{add-one}
use native.Mathlib.Omega.{arith}
use lib.ListN.{length, take, drop, get_or, replicate, length-append, length-drop, length-replicate, take-append-drop, drop_of_length-le}
use lib.Seq.{take-add, take_at, drop_at, drop-drop, length-take-le, drop-cons}
use Rattle.octet.specs.Part.{part, all_zero}
use Rattle.octet.proofs.TestLaws.{all_zeros, zeros_all}
use Rattle.table.specs.Rows.{rows, joined, bytes_of, Sized, Laid}

-- ---- zeros

pub drop_zeros : (k n : ℕ) → drop {A = ℕ} k (replicate n 0) ≡ replicate (n - k) 0
drop_zeros zero n =
    let p : n ≡ n - 0 = omega arith in
    ap (λ (m : ℕ). replicate m 0) p
drop_zeros (suc k) zero =
    let p : 0 ≡ 0 - suc k = omega arith in
    ap (λ (m : ℕ). replicate m 0) p
drop_zeros (suc k) (suc n) =
    let p : n - k ≡ suc n - suc k = omega arith in
    drop_zeros k n ∙ ap (λ (m : ℕ). replicate m 0) p

-- ---- rows, one after the other

pub joined_append : (a b : List (List ℕ)) → joined (a ++ b) ≡ joined a ++ joined b
unfolding joined
joined_append [] b = refl
joined_append (x ∷ a) b = ap (λ (l : List ℕ). x ++ l) (joined_append a b) ∙ sym (append_assoc x (joined a) (joined b))

-- rows that fit fill all the bytes
pub length_bytes : (size : ℕ) (rs : List (List ℕ)) → length (joined rs) ≤ size → length (bytes_of size rs) ≡ size
unfolding bytes_of
length_bytes size rs h = simp (length-append, length-replicate) (omega arith)

-- after the rows there are zeros
pub bytes_clear : (size : ℕ) (rs : List (List ℕ)) → drop (length (joined rs)) (bytes_of size rs) ≡ replicate (size - length (joined rs)) 0
unfolding bytes_of
bytes_clear size rs = drop_at (joined rs) (replicate (size - length (joined rs)) 0) (length (joined rs)) refl

module _ (w : ℕ) where
  -- ---- how many and how long

  pub rows-length : (n : ℕ) (s : List ℕ) → length (rows w n s) ≡ n
  unfolding rows
  rows-length zero s = refl
  rows-length (suc n) s = ap suc (rows-length n (drop w s))

  pub rows-sized : (n : ℕ) (s : List ℕ) → w * n ≤ length s → Sized w (rows w n s)
  unfolding rows
  rows-sized zero s h = tt
  rows-sized (suc n) s h =
      let p : w * suc n ≡ w * n + w = mul-suc w n in
      (length-take-le w s (omega arith), rows-sized n (drop w s) (simp length-drop (omega arith)))

  pub sized-append : (a b : List (List ℕ)) → Sized w a → Sized w b → Sized w (a ++ b)
  sized-append [] b p q = q
  sized-append (x ∷ a) b p q = (p.0, sized-append a b p.1 q)

  pub sized-take : (i : ℕ) (rs : List (List ℕ)) → Sized w rs → Sized w (take i rs)
  sized-take zero rs h = tt
  sized-take (suc i) [] h = tt
  sized-take (suc i) (r ∷ rs) h = (h.0, sized-take i rs h.1)

  pub sized-drop : (i : ℕ) (rs : List (List ℕ)) → Sized w rs → Sized w (drop i rs)
  sized-drop zero rs h = h
  sized-drop (suc i) [] h = tt
  sized-drop (suc i) (r ∷ rs) h = sized-drop i rs h.1

  pub joined_length : (rs : List (List ℕ)) → Sized w rs → length (joined rs) ≡ w * length rs
  unfolding joined
  joined_length [] h = sym (mul-zero w)
  joined_length (r ∷ rs) h = simp length-append (omega (arith, h.0, joined_length rs h.1, mul-suc w (length rs)))

  -- ---- a row is a part

  pub row_at : (n : ℕ) (s : List ℕ) (i : ℕ) → i < n → get_or (rows w n s) i [] ≡ part (w * i) w s
  unfolding rows
  row_at zero s i h = absurd (omega arith)
  row_at (suc n) s zero h = ap (λ (k : ℕ). take w (drop k s)) (sym (mul-zero w))
  row_at (suc n) s (suc i) h =
      let p : w + w * i ≡ w * suc i = omega (arith, mul-suc w i) in
      row_at n (drop w s) i (omega arith) ∙ ap (λ (l : List ℕ). take w l) (drop-drop (w * i) w s ∙ ap (λ (k : ℕ). drop k s) p)

  -- ---- the first rows, and what is left of them from place i on: what a loop over the rows goes by

  pub rows_take : (k n : ℕ) (s : List ℕ) → k ≤ n → take k (rows w n s) ≡ rows w k s
  unfolding rows
  rows_take zero n s h = refl
  rows_take (suc k) zero s h = absurd (omega arith)
  rows_take (suc k) (suc n) s h = ap (λ (l : List (List ℕ)). take w s ∷ l) (rows_take k n (drop w s) (omega arith))

  pub rows_drop : (k n : ℕ) (s : List ℕ) → k ≤ n → drop k (rows w n s) ≡ rows w (n - k) (drop (w * k) s)
  unfolding rows
  rows_drop zero n s h =
      let e : n ≡ n - 0 = omega arith in
      ap (λ (m : ℕ). rows w m s) e ∙ ap (λ (k : ℕ). rows w (n - 0) (drop k s)) (sym (mul-zero w))
  rows_drop (suc k) zero s h = absurd (omega arith)
  rows_drop (suc k) (suc n) s h =
      let e : n - k ≡ suc n - suc k = omega arith in
      let d : w + w * k ≡ w * suc k = omega (arith, mul-suc w k) in
      rows_drop k n (drop w s) (omega arith)
      ∙ ap₂ (λ (m : ℕ) (l : List ℕ). rows w m l) e (drop-drop (w * k) w s ∙ ap (λ (m : ℕ). drop m s) d)

  pub rows_next : (n : ℕ) (s : List ℕ) (i : ℕ) → i < n → drop i (rows w n s) ≡ part (w * i) w s ∷ drop (i + 1) (rows w n s)
  rows_next n s i h =
      drop-cons (rows w n s) i [] (omega (arith, rows-length n s))
      ∙ (λ k. row_at n s i h k ∷ drop (sym (add-one i) k) (rows w n s))

  pub rows_end : (n : ℕ) (s : List ℕ) (i : ℕ) → n ≤ i → drop i (rows w n s) ≡ []
  rows_end n s i h = drop_of_length-le (rows w n s) {i = i} (omega (arith, rows-length n s))

  -- rows that lie before the end of a part are rows of the whole
  pub rows-of-take : (k n : ℕ) (s : List ℕ) → w * n ≤ k → k ≤ length s → rows w n (take k s) ≡ rows w n s
  unfolding rows
  rows-of-take k zero s h l = refl
  rows-of-take k (suc n) s h l =
      let p : w * suc n ≡ w * n + w = mul-suc w n in
      let e : w + (k - w) ≡ k = omega arith in
      let cut : take k s ≡ take w s ++ take (k - w) (drop w s) = ap (λ (m : ℕ). take m s) (sym e) ∙ take-add w (k - w) s in
      let long : length (take w s) ≡ w = length-take-le w s (omega arith) in
      ap₂ (λ (r : List ℕ) (l : List ℕ). r ∷ rows w n l)
      (ap (take w) cut ∙ take_at (take w s) (take (k - w) (drop w s)) w long)
      (ap (drop w) cut ∙ drop_at (take w s) (take (k - w) (drop w s)) w long)
      ∙ ap (λ (rs : List (List ℕ)). take w s ∷ rs) (rows-of-take (k - w) n (drop w s) (omega arith) (simp length-drop (omega arith)))

  -- ---- rows put together, and taken apart again

  pub rows-joined : (n : ℕ) (s : List ℕ) → joined (rows w n s) ≡ take (w * n) s
  unfolding rows joined
  rows-joined zero s = ap (λ (k : ℕ). take k s) (sym (mul-zero w))
  rows-joined (suc n) s =
      let p : w + w * n ≡ w * suc n = omega (arith, mul-suc w n) in
      ap (λ (l : List ℕ). take w s ++ l) (rows-joined n (drop w s)) ∙ sym (take-add w (w * n) s) ∙ ap (λ (k : ℕ). take k s) p

  pub rows_append : (rs : List (List ℕ)) (k : ℕ) (z : List ℕ) → Sized w rs → rows w (length rs + k) (joined rs ++ z) ≡ rs ++ rows w k z
  unfolding rows joined
  rows_append [] k z h = ap (λ (m : ℕ). rows w m z) (zero-add k)
  rows_append (r ∷ rs) k z h =
      let e : (r ++ joined rs) ++ z ≡ r ++ (joined rs ++ z) = append_assoc r (joined rs) z in
      ap (λ (m : ℕ). rows w m ((r ++ joined rs) ++ z)) (suc-add (length rs) k)
      ∙ (λ j. take w (e j) ∷ rows w (length rs + k) (drop w (e j)))
      ∙ (λ j. take_at r (joined rs ++ z) w h.0 j ∷ rows w (length rs + k) (drop_at r (joined rs ++ z) w h.0 j))
      ∙ ap (λ (l : List (List ℕ)). r ∷ l) (rows_append rs k z h.1)

  pub rows-of-joined : (rs : List (List ℕ)) (z : List ℕ) → Sized w rs → rows w (length rs) (joined rs ++ z) ≡ rs
  unfolding rows joined
  rows-of-joined [] z h = refl
  rows-of-joined (r ∷ rs) z h =
      let e : (r ++ joined rs) ++ z ≡ r ++ (joined rs ++ z) = append_assoc r (joined rs) z in
      (λ k. take w (e k) ∷ rows w (length rs) (drop w (e k)))
      ∙ (λ k. take_at r (joined rs ++ z) w h.0 k ∷ rows w (length rs) (drop_at r (joined rs ++ z) w h.0 k))
      ∙ ap (λ (l : List (List ℕ)). r ∷ l) (rows-of-joined rs z h.1)

  -- ---- memory laid out in rows: its bytes are those of its rows, and of no other list of so many rows

  pub laid-bytes : (n : ℕ) (s : List ℕ) → Laid w n s → s ≡ bytes_of (length s) (rows w n s)
  unfolding bytes_of
  laid-bytes n s laid =
      let long : length (joined (rows w n s)) ≡ w * n = ap length (rows-joined n s) ∙ length-take-le (w * n) s laid.room in
      let rest : drop (w * n) s ≡ replicate (length s - length (joined (rows w n s))) 0 =
      all_zeros (drop (w * n) s) laid.clear
      ∙ ap (λ (m : ℕ). replicate m 0) (length-drop (w * n) s ∙ ap (λ (m : ℕ). length s - m) (sym long)) in
      sym (take-append-drop (w * n) s) ∙ ap₂ ◌++◌ (sym (rows-joined n s)) rest

  -- rows that fit, laid out: the bytes are so many, read back they give the rows, and they are laid out
  module _ (size : ℕ) (rs : List (List ℕ)) (sized : Sized w rs) (fits : w * length rs ≤ size) where
    pub bytes-length : length (bytes_of size rs) ≡ size
    bytes-length = length_bytes size rs (omega (arith, joined_length rs sized))

    pub bytes-rows : rows w (length rs) (bytes_of size rs) ≡ rs
    unfolding bytes_of
    bytes-rows = rows-of-joined rs _ sized

    pub bytes-laid : Laid w (length rs) (bytes_of size rs)
    bytes-laid = record {
      room = omega (arith, bytes-length);
      clear =
          ap (λ (k : ℕ). all_zero (drop k (bytes_of size rs))) (sym (joined_length rs sized)) ∙ ap all_zero (bytes_clear size rs)
          ∙ zeros_all (size - length (joined rs));
    }

  -- so two lists of as many rows with the same bytes are one list
  pub bytes-unique : (size : ℕ) (ps qs : List (List ℕ)) → Sized w ps → Sized w qs → length ps ≡ length qs → bytes_of size ps ≡ bytes_of size qs
      → ps ≡ qs
  unfolding bytes_of
  bytes-unique size ps qs p q e same =
      sym (rows-of-joined ps _ p) ∙ ap₂ (rows w) e same ∙ rows-of-joined qs _ q
