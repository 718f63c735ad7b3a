-- A row inserted, removed or replaced on the bytes is so in the list of rows: first on lists of any rows, then on memory laid out in rows of one
-- width. Assumes nothing.
use mathlib.Core.Path.{◌≡◌, refl, sym, ap, ap₂, ◌∙◌}
use mathlib.Core.List.{List, [], ◌∷◌, ◌++◌, append_assoc}
use Prim.Native.Nat.{ℕ, suc, ◌+◌, ◌-◌, ◌*◌, ◌≤◌, ◌<◌}
use native.Mathlib.Nat.{mul-suc, mul-le-mul_left}
use native.Mathlib.Omega.{arith}
use lib.ListN.{length, take, drop, set, replicate, length-append, length-replicate, take-append-drop, replicate-append-replicate}
use lib.Seq.{take_at, drop_at, length-take-le, drop-append-add, split_at, set_split}
use Rattle.octet.specs.Part.{part, splice}
use Rattle.octet.proofs.PartLaws.{length_part}
use Rattle.table.specs.Rows.{rows, joined, bytes_of, Laid, insert_at, remove_at}
use Rattle.table.proofs.RowLaws.{joined_append, joined_length, rows-length, rows-sized, sized-take, row_at, laid-bytes}

-- ---- on lists of any rows

-- a part replaced, in a list whose pieces are known
splice_piece : (p x z y : List ℕ) (at : ℕ) → length p ≡ at → length y ≡ length x → splice at y (p ++ (x ++ z)) ≡ p ++ (y ++ z)
unfolding splice
splice_piece p x z y at hp hy =
    let e : at + length y ≡ length p + length x = omega arith in
    let rest : drop (at + length y) (p ++ (x ++ z)) ≡ z =
    ap (λ (k : ℕ). drop k (p ++ (x ++ z))) e ∙ drop-append-add p (x ++ z) (length x) ∙ drop_at x z (length x) refl in
    ap₂ (λ (l m : List ℕ). l ++ y ++ m) (take_at p (x ++ z) at hp) rest ∙ append_assoc p y z

-- a piece cut out
part_piece : (p x z : List ℕ) (at n : ℕ) → length p ≡ at → length x ≡ n → part at n (p ++ (x ++ z)) ≡ x
part_piece p x z at n hp hx = ap (take n) (drop_at p (x ++ z) at hp) ∙ take_at x z n hx

-- the pieces of the bytes of rows
pieces : (size : ℕ) (a b : List (List ℕ))
    → bytes_of size (a ++ b) ≡ joined a ++ (joined b ++ replicate (size - (length (joined a) + length (joined b))) 0)
unfolding bytes_of
pieces size a b =
    (λ k. joined_append a b k ++ replicate (size - length (joined_append a b k)) 0)
    ∙ ap (λ (m : ℕ). (joined a ++ joined b) ++ replicate (size - m) 0) (length-append (joined a) (joined b))
    ∙ append_assoc (joined a) (joined b) _

module _ (size : ℕ) (a b : List (List ℕ)) (at : ℕ) (starts : length (joined a) ≡ at) where
  pub insert-bytes : (row : List ℕ) (n : ℕ) → length (joined b) ≡ n → at + n + length row ≤ size
      → splice at (row ++ part at n (bytes_of size (a ++ b))) (bytes_of size (a ++ b)) ≡ bytes_of size (a ++ (row ∷ b))
  unfolding joined
  insert-bytes row n hn fits =
      let p : List ℕ = joined a in
      let q : List ℕ = joined b in
      let w : ℕ = length row in
      let m : ℕ = size - (length p + length (row ++ q)) in
      let count : size - (length p + length q) ≡ w + m = omega (arith, length-append row q) in
      let whole : bytes_of size (a ++ b) ≡ p ++ (q ++ (replicate w 0 ++ replicate m 0)) =
      pieces size a b ∙ ap (λ (l : List ℕ). p ++ (q ++ l)) (ap (λ (k : ℕ). replicate k 0) count ∙ sym (replicate-append-replicate w m 0)) in
      let cut : part at n (bytes_of size (a ++ b)) ≡ q =
      ap (part at n) whole ∙ part_piece p q (replicate w 0 ++ replicate m 0) at n starts hn in
      let room : length (row ++ q) ≡ length (q ++ replicate w 0) =
      simp (length-append, length-replicate) (omega arith) in
      ap₂ (λ (l s : List ℕ). splice at (row ++ l) s) cut (whole ∙ ap (λ (l : List ℕ). p ++ l) (sym (append_assoc q (replicate w 0) (replicate m 0))))
      ∙ splice_piece p (q ++ replicate w 0) (replicate m 0) (row ++ q) at starts room
      ∙ sym (pieces size a (row ∷ b))

  module _ (r : List ℕ) (fits : at + length r + length (joined b) ≤ size) where
    whole : bytes_of size (a ++ (r ∷ b)) ≡ joined a ++ (r ++ (joined b ++ replicate (size - (at + length r + length (joined b))) 0))
    unfolding joined
    whole =
        let e : size - (length (joined a) + length (r ++ joined b)) ≡ size - (at + length r + length (joined b)) = simp length-append (omega arith) in
        pieces size a (r ∷ b) ∙ ap (λ (k : ℕ). joined a ++ ((r ++ joined b) ++ replicate k 0)) e
        ∙ ap (λ (l : List ℕ). joined a ++ l) (append_assoc r (joined b) _)

    pub remove-bytes : (w n : ℕ) → length r ≡ w → length (joined b) ≡ n
        → splice at (part (at + w) n (bytes_of size (a ++ (r ∷ b))) ++ replicate w 0) (bytes_of size (a ++ (r ∷ b))) ≡ bytes_of size (a ++ b)
    remove-bytes w n hw hn =
        let p : List ℕ = joined a in
        let q : List ℕ = joined b in
        let m : ℕ = size - (at + length r + length q) in
        let start : length (p ++ r) ≡ at + w = simp length-append (omega arith) in
        let cut : part (at + w) n (bytes_of size (a ++ (r ∷ b))) ≡ q =
        ap (part (at + w) n) (whole ∙ sym (append_assoc p r (q ++ replicate m 0))) ∙ part_piece (p ++ r) q (replicate m 0) (at + w) n start hn in
        let turn : length (q ++ replicate w 0) ≡ length (r ++ q) = simp (length-append, length-replicate) (omega arith) in
        let count : w + m ≡ size - (length p + length q) = omega arith in
        ap₂ (λ (l s : List ℕ). splice at (l ++ replicate w 0) s) cut (whole ∙ ap (λ (l : List ℕ). p ++ l) (sym (append_assoc r q (replicate m 0))))
        ∙ splice_piece p (r ++ q) (replicate m 0) (q ++ replicate w 0) at starts turn
        ∙ ap (λ (l : List ℕ). p ++ l) (append_assoc q (replicate w 0) (replicate m 0))
        ∙ ap (λ (l : List ℕ). p ++ (q ++ l)) (replicate-append-replicate w m 0 ∙ ap (λ (k : ℕ). replicate k 0) count)
        ∙ sym (pieces size a b)

    pub replace-bytes : (row : List ℕ) → length row ≡ length r → splice at row (bytes_of size (a ++ (r ∷ b))) ≡ bytes_of size (a ++ (row ∷ b))
    unfolding joined
    replace-bytes row h =
        let p : List ℕ = joined a in
        let q : List ℕ = joined b in
        let m : ℕ = size - (at + length r + length q) in
        let count : m ≡ size - (length p + length (row ++ q)) = simp length-append (omega arith) in
        ap (splice at row) whole ∙ splice_piece p r (q ++ replicate m 0) row at starts h
        ∙ ap (λ (l : List ℕ). p ++ l) (sym (append_assoc row q (replicate m 0)) ∙ ap (λ (k : ℕ). (row ++ q) ++ replicate k 0) count)
        ∙ sym (pieces size a (row ∷ b))

-- ---- on memory laid out in n rows of w bytes

module _ (w n i : ℕ) (s : List ℕ) (laid : Laid w n s) where
  rs : List (List ℕ)
  rs = rows w n s

  all-length : length (joined rs) ≡ w * n
  unfolding rs
  all-length = joined_length w (rows w n s) (rows-sized w n s laid.room) ∙ ap (λ (k : ℕ). w * k) (rows-length w n s)

  front_length : i ≤ n → length (joined (take i rs)) ≡ w * i
  unfolding rs
  front_length h =
      joined_length w (take i (rows w n s)) (sized-take w i (rows w n s) (rows-sized w n s laid.room))
      ∙ ap (λ (k : ℕ). w * k) (length-take-le i (rows w n s) (omega (arith, rows-length w n s)))

  pub insert-laid : i ≤ n → (row : List ℕ) → length row ≡ w → w * n + w ≤ length s
      → splice (w * i) (row ++ part (w * i) (w * n - w * i) s) s ≡ bytes_of (length s) (insert_at i row (rows w n s))
  unfolding rs
  insert-laid h row hr fits =
      let size : ℕ = length s in
      let a : List (List ℕ) = take i (rows w n s) in
      let b : List (List ℕ) = drop i (rows w n s) in
      let whole : s ≡ bytes_of size (a ++ b) = laid-bytes w n s laid ∙ ap (bytes_of size) (sym (take-append-drop i (rows w n s))) in
      let both : length (joined a) + length (joined b) ≡ w * n =
      sym (length-append (joined a) (joined b)) ∙ ap length (sym (joined_append a b) ∙ ap joined (take-append-drop i (rows w n s))) ∙ all-length in
      let rest : length (joined b) ≡ w * n - w * i = omega (arith, front_length h) in
      ap (λ (l : List ℕ). splice (w * i) (row ++ part (w * i) (w * n - w * i) l) l) whole
      ∙ insert-bytes size a b (w * i) (front_length h) row (w * n - w * i) rest (omega (arith, mul-le-mul_left w h))

  module _ (h : i < n) where
    gone : List ℕ
    gone = part (w * i) w s

    after : w * i + w ≤ w * n
    after = omega (arith, mul-suc w i, mul-le-mul_left w h)

    gone-length : length gone ≡ w
    unfolding gone
    gone-length = length_part (w * i) w s (omega (arith, after, laid.room))

    split : rs ≡ take i rs ++ (gone ∷ drop (suc i) rs)
    unfolding rs gone
    split =
        split_at (rows w n s) i [] (omega (arith, rows-length w n s))
        ∙ ap (λ (r : List ℕ). take i (rows w n s) ++ (r ∷ drop (suc i) (rows w n s))) (row_at w n s i h)

    whole_split : s ≡ bytes_of (length s) (take i rs ++ (gone ∷ drop (suc i) rs))
    unfolding rs
    whole_split = laid-bytes w n s laid ∙ ap (bytes_of (length s)) split

    back-length : length (joined (drop (suc i) rs)) ≡ w * n - (w * i + w)
    unfolding joined
    back-length =
        let e : length (joined rs) ≡ length (joined (take i rs)) + (length gone + length (joined (drop (suc i) rs))) =
        ap (λ (l : List (List ℕ)). length (joined l)) split ∙ ap length (joined_append (take i rs) (gone ∷ drop (suc i) rs)) ∙ simp length-append in
        omega (arith, all-length, front_length (omega arith), gone-length)

    room : w * i + length gone + length (joined (drop (suc i) rs)) ≤ length s
    room = omega (arith, gone-length, back-length, after, laid.room)

    pub remove-laid : splice (w * i) (part (w * i + w) (w * n - (w * i + w)) s ++ replicate w 0) s ≡ bytes_of (length s) (remove_at i (rows w n s))
    unfolding rs
    remove-laid =
        ap (λ (l : List ℕ). splice (w * i) (part (w * i + w) (w * n - (w * i + w)) l ++ replicate w 0) l) whole_split
        ∙ remove-bytes (length s) (take i rs) (drop (suc i) rs) (w * i) (front_length (omega arith)) gone room w
        (w * n - (w * i + w)) gone-length back-length

    pub replace-laid : (row : List ℕ) → length row ≡ w → splice (w * i) row s ≡ bytes_of (length s) (set (rows w n s) i row)
    unfolding rs
    replace-laid row hr =
        ap (splice (w * i) row) whole_split
        ∙ replace-bytes (length s) (take i rs) (drop (suc i) rs) (w * i) (front_length (omega arith)) gone room row (hr ∙ sym gone-length)
        ∙ ap (bytes_of (length s)) (sym (set_split rs i row (omega (arith, rows-length w n s))))
