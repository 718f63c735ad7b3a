-- Laws of rows changed where they lie, one after the other. In this order: a part inside a replaced part; one record, one place; the rows. Assumes nothing.
use mathlib.Core.Path.{◌≡◌, refl, sym, ap, ap₂, ◌∙◌}
use mathlib.Core.Bool.{Bool, true, false, cond}
use mathlib.Core.List.{List, [], ◌∷◌, ◌++◌, map, append_assoc, append-nil}
use Prim.Native.Nat.{ℕ, ◌+◌, ◌-◌, ◌*◌, ◌≤◌}
use native.Mathlib.Nat.{zero-add, add_assoc}
use native.Mathlib.Omega.{arith}
use lib.Dec.{eqb}
use lib.ListN.{length, take, drop, get_or, set, replicate, length-map, length-drop, length-replicate, take-append-drop}
use lib.Seq.{take-add, take_at, drop_at, take-take, drop-drop, length-take-le}
use borrow.Author.Tests.{eq-eqb, ne_eqb}
use Rattle.octet.specs.Part.{part, splice}
use Rattle.octet.proofs.PartLaws.{length_part, part_at, splice_nil, splice_one, splice_next, length-splice, take-splice, drop-splice}
use Rattle.octet.proofs.TestLaws.{all_zeros}
use Rattle.record.proofs.PlaceLaws.{part-part}
use Rattle.table.specs.Rows.{rows, joined, bytes_of, Sized, Laid}
use Rattle.table.proofs.RowLaws.{rows-length, rows-sized, rows_take, rows_next, rows_end, joined_append, joined_length}
use Rattle.waiting.specs.Place.{kind_of, place_record}
use Rattle.cut.specs.Cut.{converted, converted_place}

-- ---- a part inside a replaced part

-- a part put where it stands
pub splice_self : (at n : ℕ) (s : List ℕ) → at + n ≤ length s → splice at (part at n s) s ≡ s
unfolding splice
splice_self at n s h =
    ap (λ (k : ℕ). take at s ++ part at n s ++ drop (at + k) s) (length_part at n s h)
    ∙ ap (λ (l : List ℕ). l ++ drop (at + n) s) (sym (take-add at n s)) ∙ take-append-drop (at + n) s

-- what is behind the first of two lists
drop-left : (m : ℕ) (xs ys : List ℕ) → m ≤ length xs → drop m (xs ++ ys) ≡ drop m xs ++ ys
drop-left m xs ys h =
    ap (λ (l : List ℕ). drop m (l ++ ys)) (sym (take-append-drop m xs))
    ∙ ap (drop m) (append_assoc (take m xs) (drop m xs) ys)
    ∙ drop_at (take m xs) (drop m xs ++ ys) m (length-take-le m xs h)

sides : (a b c d e : List ℕ) → (a ++ b) ++ c ++ (d ++ e) ≡ a ++ (b ++ c ++ d) ++ e
sides a b c d e = simp append_assoc

-- a part put inside one that was put
pub splice_in : (at j : ℕ) (ys xs s : List ℕ) → j + length ys ≤ length xs → at + length xs ≤ length s
    → splice (at + j) ys (splice at xs s) ≡ splice at (splice j ys xs) s
unfolding splice
splice_in at j ys xs s h k =
    let t = splice at xs s in
    let head : List ℕ = take at s in
    let long : length head ≡ at = length-take-le at s (omega arith) in
    let rest : List ℕ = drop (at + length xs) s in
    let front : take (at + j) t ≡ head ++ take j xs =
    sym (take-take (at + j) (at + length xs) t (omega arith))
    ∙ ap (take (at + j)) (take-splice at xs s k)
    ∙ take-add at j (head ++ xs)
    ∙ ap₂ (λ (a b : List ℕ). a ++ take j b) (take_at head xs at long) (drop_at head xs at long) in
    let back : drop (at + j + length ys) t ≡ drop (j + length ys) xs ++ rest =
    ap (λ (n : ℕ). drop n t) (add_assoc at j (length ys))
    ∙ sym (drop-drop (j + length ys) at t)
    ∙ ap (λ (l : List ℕ). drop (j + length ys) (drop at l)) (append_assoc head xs rest)
    ∙ ap (drop (j + length ys)) (drop_at head (xs ++ rest) at long)
    ∙ drop-left (j + length ys) xs rest h in
    ap₂ (λ (a b : List ℕ). a ++ ys ++ b) front back
    ∙ sides head (take j xs) ys (drop (j + length ys) xs) rest
    ∙ ap (λ (n : ℕ). head ++ splice j ys xs ++ drop (at + n) s) (sym (length-splice j ys xs h))

-- ---- one record, one place

pub zeros_long : length (replicate {A = ℕ} 48 0) ≡ 48
zeros_long = length-replicate {A = ℕ} 48 0

-- a converted record is as long as it was
pub converted-length : (r : List ℕ) → length r ≡ 100 → length (converted r) ≡ 100
unfolding converted
converted-length r e =
    let rest : length (splice 52 (replicate 48 0) r) ≡ length r = length-splice 52 (replicate 48 0) r (omega (arith, zeros_long)) in
    length-splice 34 (1 ∷ []) (splice 52 (replicate 48 0) r) (omega (arith, rest)) ∙ rest ∙ e

-- where it lies
pub cut_at : (at : ℕ) (s : List ℕ) → at + 100 ≤ length s
    → set (splice (at + 52) (replicate 48 0) s) (at + 34) 1 ≡ splice at (converted (part at 100 s)) s
unfolding converted
cut_at at s h =
    let r = part at 100 s in
    let long : length r ≡ 100 = length_part at 100 s h in
    let rest : length (splice 52 (replicate 48 0) r) ≡ length r = length-splice 52 (replicate 48 0) r (omega (arith, zeros_long)) in
    let first : splice (at + 52) (replicate 48 0) s ≡ splice at (splice 52 (replicate 48 0) r) s =
    ap (splice (at + 52) (replicate 48 0)) (sym (splice_self at 100 s h))
    ∙ splice_in at 52 (replicate 48 0) r s (omega (arith, zeros_long)) (omega arith) in
    let same : length (splice at (splice 52 (replicate 48 0) r) s) ≡ length s = length-splice at (splice 52 (replicate 48 0) r) s (omega (arith, rest)) in
    ap (λ (l : List ℕ). set l (at + 34) 1) first
    ∙ sym (splice_one (at + 34) 1 (splice at (splice 52 (replicate 48 0) r) s) (omega (arith, same)))
    ∙ splice_in at 34 (1 ∷ []) (splice 52 (replicate 48 0) r) s (omega (arith, rest)) (omega (arith, rest))

pub place_length : (p : List ℕ) → length p ≡ 140 → length (converted_place p) ≡ 140
unfolding converted_place
place_length p e = by-case (eqb (kind_of p) 2)
  where
    by-case : (b : Bool) → length (cond b (splice 40 (converted (place_record p)) p) p) ≡ 140
    by-case true =
        let r = converted-length (place_record p) (length_part 40 100 p (omega arith)) in
        length-splice 40 (converted (place_record p)) p (omega arith) ∙ e
    by-case false = e

-- an inquiry's place where it lies, and another
pub place_at : (at : ℕ) (t : List ℕ) → at + 140 ≤ length t → get_or t (at + 4) 0 ≡ 2
    → splice (at + 40) (converted (part (at + 40) 100 t)) t ≡ splice at (converted_place (part at 140 t)) t
unfolding converted_place
place_at at t h e =
    let p = part at 140 t in
    let long : length p ≡ 140 = length_part at 140 t h in
    let kind : kind_of p ≡ 2 = part_at at 140 4 t (omega arith) ∙ e in
    let inner : part (at + 40) 100 t ≡ place_record p = sym (part-part at 140 40 100 t (omega arith)) in
    let r = converted-length (place_record p) (length_part 40 100 p (omega arith)) in
    ap₂ (λ (l m : List ℕ). splice (at + 40) (converted l) m) inner (sym (splice_self at 140 t h))
    ∙ splice_in at 40 (converted (place_record p)) p t (omega arith) (omega arith)
    ∙ ap (λ (b : Bool). splice at (cond b (splice 40 (converted (place_record p)) p) p) t) (sym (eq-eqb (kind_of p) 2 kind))

pub place_stays : (at : ℕ) (t : List ℕ) → at + 140 ≤ length t → (get_or t (at + 4) 0 ≡ 2 → ⊥) → t ≡ splice at (converted_place (part at 140 t)) t
unfolding converted_place
place_stays at t h ne =
    let p = part at 140 t in
    let kind : kind_of p ≡ get_or t (at + 4) 0 = part_at at 140 4 t (omega arith) in
    sym (ap (λ (b : Bool). splice at (cond b (splice 40 (converted (place_record p)) p) p) t) (ne_eqb (kind_of p) 2 (λ e. ne (sym kind ∙ e)))
    ∙ splice_self at 140 t h)

-- ---- the rows

map_append : (f : List ℕ → List ℕ) (xs ys : List (List ℕ)) → map f (xs ++ ys) ≡ map f xs ++ map f ys
map_append f [] ys = refl
map_append f (x ∷ xs) ys = ap (λ (l : List (List ℕ)). f x ∷ l) (map_append f xs ys)

module _ (w : ℕ) where
  pub map-sized : (f : List ℕ → List ℕ) → ((r : List ℕ) → length r ≡ w → length (f r) ≡ w) → (rs : List (List ℕ)) → Sized w rs → Sized w (map f rs)
  map-sized f long [] h = tt
  map-sized f long (r ∷ rs) h = (long r h.0, map-sized f long rs h.1)

  rows_more : (n : ℕ) (s : List ℕ) → rows w (n + 1) s ≡ rows w n s ++ (part (w * n) w s ∷ [])
  rows_more n s =
      sym (take-append-drop n (rows w (n + 1) s))
      ∙ ap₂ ◌++◌ (rows_take w n (n + 1) s (omega arith))
      (rows_next w (n + 1) s n (omega arith) ∙ ap (λ (l : List (List ℕ)). part (w * n) w s ∷ l) (rows_end w (n + 1) s (n + 1) (omega arith)))

module _ (w : ℕ) (f : List ℕ → List ℕ) (long : (r : List ℕ) → length r ≡ w → length (f r) ≡ w) (s : List ℕ) where
  -- with the first n rows changed
  abbrev pub Changed : ℕ → List ℕ
  Changed n = splice 0 (joined (map f (rows w n s))) s

  pub changed-none : s ≡ Changed 0
  unfolding rows joined
  changed-none = sym (splice_nil 0 s)

  module _ (n : ℕ) where
    changed-long : w * n ≤ length s → length (joined (map f (rows w n s))) ≡ w * n
    changed-long h =
        joined_length w (map f (rows w n s)) (map-sized w f long (rows w n s) (rows-sized w n s h))
        ∙ ap (λ (k : ℕ). w * k) (length-map (rows w n s) f ∙ rows-length w n s)

    -- nothing gets longer
    pub changed-length : w * n ≤ length s → length (Changed n) ≡ length s
    changed-length h = length-splice 0 (joined (map f (rows w n s))) s (omega (arith, changed-long h))

    -- the next row is as it was
    pub changed_row : w * n + w ≤ length s → part (w * n) w (Changed n) ≡ part (w * n) w s
    changed_row h =
        let m = changed-long (omega arith) in
        let e : 0 + length (joined (map f (rows w n s))) ≡ w * n = omega (arith, m) in
        ap (λ (k : ℕ). part k w (Changed n)) (sym e)
        ∙ ap (take w) (drop-splice 0 (joined (map f (rows w n s))) s (omega (arith, m)))
        ∙ ap (λ (k : ℕ). part k w s) e

    pub changed-next : w * n + w ≤ length s → splice (w * n) (f (part (w * n) w (Changed n))) (Changed n) ≡ Changed (n + 1)
    unfolding joined
    changed-next h =
        let m = changed-long (omega arith) in
        let x = f (part (w * n) w s) in
        let lx : length x ≡ w = long (part (w * n) w s) (length_part (w * n) w s h) in
        ap (λ (r : List ℕ). splice (w * n) (f r) (Changed n)) (changed_row h)
        ∙ ap (λ (k : ℕ). splice k x (Changed n)) (sym (zero-add (w * n)))
        ∙ splice_next 0 (w * n) (joined (map f (rows w n s))) x s m (omega arith)
        ∙ ap (λ (l : List ℕ). splice 0 l s)
        (ap (λ (l : List ℕ). joined (map f (rows w n s)) ++ l) (sym (append-nil x))
        ∙ sym (joined_append (map f (rows w n s)) (x ∷ []))
        ∙ ap joined (sym (ap (map f) (rows_more w n s) ∙ map_append f (rows w n s) (part (w * n) w s ∷ []))))

    -- and where zeros follow the rows, these are all
    pub changed-all : Laid w n s → Changed n ≡ bytes_of (length s) (map f (rows w n s))
    unfolding splice bytes_of
    changed-all laid =
        let m = changed-long laid.room in
        let rest : drop (w * n) s ≡ replicate (length s - length (joined (map f (rows w n s)))) 0 =
        all_zeros (drop (w * n) s) laid.clear
        ∙ ap (λ (k : ℕ). replicate k 0) (length-drop (w * n) s ∙ ap (λ (k : ℕ). length s - k) (sym m)) in
        ap (λ (k : ℕ). joined (map f (rows w n s)) ++ drop k s) (zero-add (length (joined (map f (rows w n s)))) ∙ m)
        ∙ ap (λ (l : List ℕ). joined (map f (rows w n s)) ++ l) rest
