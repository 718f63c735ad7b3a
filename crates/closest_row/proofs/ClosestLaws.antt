-- Laws of the closest of records: it is one of them, none of them is closer; of two lists, the closest of the first one's and the second; the walk over rows.
-- Assumes nothing.
use mathlib.Core.Path.{◌≡◌, refl, ap, ◌∙◌}
use mathlib.Core.Logic.{inl, inr}
use mathlib.Core.Bool.{Bool, true, false, cond}
use mathlib.Core.List.{List, [], ◌∷◌, ◌++◌}
use Prim.Native.Nat.{ℕ, ◌+◌, ◌*◌, ◌≤◌, ◌<◌}
use native.Mathlib.Omega.{arith}
use lib.ListN.{length, drop}
use lib.Seq.{take-take}
use Rattle.octet.specs.Number.{value_be}
use Rattle.octet.specs.Part.{part}
use Rattle.key.specs.Number.{key_at}
use Rattle.key.specs.Around.{closer}
use Rattle.key.proofs.AroundLaws.{closer_self, closer_anti, closer_trans}
use Rattle.record.specs.Record.{key_of}
use Rattle.table.specs.Rows.{rows}
use Rattle.table.proofs.RowLaws.{rows_next, rows_end}
use Rattle.kept.specs.Keys.{◌∈◌}
use Rattle.closest_row.specs.Closest.{closest_from, closest_of, place_from, closest_place}

-- ---- it is one of the records

from_among : (t : ℕ) (r : List ℕ) (xs : List (List ℕ)) → closest_from t r xs ∈ (r ∷ xs)
unfolding closest_from
from_among t r [] = inl refl
from_among t r (x ∷ xs) = step (closer t (key_of x) (key_of r)) (λ (y : List ℕ). from_among t y xs)
  where
    later : closest_from t r xs ∈ (r ∷ xs) → closest_from t r xs ∈ (r ∷ x ∷ xs)
    later (inl e) = inl e
    later (inr m) = inr (inr m)

    step : (b : Bool) → ((y : List ℕ) → closest_from t y xs ∈ (y ∷ xs)) → closest_from t (cond b x r) xs ∈ (r ∷ x ∷ xs)
    step true ih = inr (ih x)
    step false ih = later (ih r)

-- ---- none of them is closer

from_first : (t : ℕ) (r : List ℕ) (xs : List (List ℕ)) → closer t (key_of r) (key_of (closest_from t r xs)) ≡ false
unfolding closest_from
from_first t r [] = closer_self t (key_of r)
from_first t r (x ∷ xs) = step (closer t (key_of x) (key_of r)) refl (λ (y : List ℕ). from_first t y xs)
  where
    step : (b : Bool) → closer t (key_of x) (key_of r) ≡ b → ((y : List ℕ) → closer t (key_of y) (key_of (closest_from t y xs)) ≡ false)
        → closer t (key_of r) (key_of (closest_from t (cond b x r) xs)) ≡ false
    step true e ih = closer_trans t (key_of r) (key_of x) (key_of (closest_from t x xs)) (closer_anti t (key_of x) (key_of r) e) (ih x)
    step false e ih = ih r

from_least : (t : ℕ) (r : List ℕ) (xs : List (List ℕ)) (y : List ℕ) → y ∈ (r ∷ xs) → closer t (key_of y) (key_of (closest_from t r xs)) ≡ false
unfolding closest_from
from_least t r [] y (inl e) = ap (λ (z : List ℕ). closer t (key_of z) (key_of r)) e ∙ closer_self t (key_of r)
from_least t r [] y (inr m) = absurd m
from_least t r (x ∷ xs) y (inl e) = ap (λ (z : List ℕ). closer t (key_of z) (key_of (closest_from t r (x ∷ xs)))) e ∙ from_first t r (x ∷ xs)
from_least t r (x ∷ xs) y (inr m) = step (closer t (key_of x) (key_of r)) refl m (λ (z : List ℕ) n. from_least t z xs y n)
  where
    step : (b : Bool) → closer t (key_of x) (key_of r) ≡ b → y ∈ (x ∷ xs)
        → ((z : List ℕ) → y ∈ (z ∷ xs) → closer t (key_of y) (key_of (closest_from t z xs)) ≡ false)
        → closer t (key_of y) (key_of (closest_from t (cond b x r) xs)) ≡ false
    step true e n ih = ih x n
    step false e (inl q) ih =
        ap (λ (z : List ℕ). closer t (key_of z) (key_of (closest_from t r xs))) q
        ∙ closer_trans t (key_of x) (key_of r) (key_of (closest_from t r xs)) e (from_first t r xs)
    step false e (inr n) ih = ih r (inr n)

pub closest_in_lem : (t : ℕ) (all : List (List ℕ)) → 0 < length all → closest_of t all ∈ all
unfolding closest_of
closest_in_lem t [] h = absurd (omega arith)
closest_in_lem t (r ∷ rs) h = from_among t r rs

pub none-closer : (t : ℕ) (all : List (List ℕ)) (y : List ℕ) → y ∈ all → closer t (key_of y) (key_of (closest_of t all)) ≡ false
unfolding closest_of
none-closer t [] y m = absurd m
none-closer t (r ∷ rs) y m = from_least t r rs y m

-- ---- of two lists

from_append : (t : ℕ) (r : List ℕ) (xs ys : List (List ℕ)) → closest_from t r (xs ++ ys) ≡ closest_from t (closest_from t r xs) ys
unfolding closest_from
from_append t r [] ys = refl
from_append t r (x ∷ xs) ys = from_append t (cond (closer t (key_of x) (key_of r)) x r) xs ys

pub closest_append : (t : ℕ) (xs ys : List (List ℕ)) → 0 < length xs → closest_of t (xs ++ ys) ≡ closest_from t (closest_of t xs) ys
unfolding closest_of
closest_append t [] ys h = absurd (omega arith)
closest_append t (x ∷ xs) ys h = from_append t x xs ys

-- ---- the walk over rows

module _ (t n : ℕ) (s : List ℕ) where
  row-key : (at : ℕ) → key_of (part at 100 s) ≡ key_at at s
  row-key at = ap (value_be 256) (take-take 32 100 (drop at s) (omega arith))

  pub walk-starts : 0 < n → closest_of t (rows 100 n s) ≡ closest_from t (part (100 * 0) 100 s) (drop 1 (rows 100 n s))
  unfolding closest_of
  walk-starts h = ap (closest_of t) (rows_next 100 n s 0 h)

  module _ (best i : ℕ) (h : i < n) where
    step : (b : Bool) → closer t (key_at (100 * i) s) (key_at (100 * best) s) ≡ b
        → closest_from t (part (100 * best) 100 s) (drop i (rows 100 n s))
        ≡ closest_from t (cond b (part (100 * i) 100 s) (part (100 * best) 100 s)) (drop (i + 1) (rows 100 n s))
    unfolding closest_from
    step b e =
        let r : List ℕ = part (100 * best) 100 s in
        let x : List ℕ = part (100 * i) 100 s in
        let is : closer t (key_of x) (key_of r) ≡ b =
        ap (λ (k : ℕ). closer t k (key_of r)) (row-key (100 * i)) ∙ ap (closer t (key_at (100 * i) s)) (row-key (100 * best)) ∙ e in
        ap (closest_from t r) (rows_next 100 n s i h) ∙ ap (λ (c : Bool). closest_from t (cond c x r) (drop (i + 1) (rows 100 n s))) is

    pub walk-takes : closer t (key_at (100 * i) s) (key_at (100 * best) s) ≡ true
        → closest_from t (part (100 * best) 100 s) (drop i (rows 100 n s)) ≡ closest_from t (part (100 * i) 100 s) (drop (i + 1) (rows 100 n s))
    walk-takes e = step true e

    pub walk-leaves : closer t (key_at (100 * i) s) (key_at (100 * best) s) ≡ false
        → closest_from t (part (100 * best) 100 s) (drop i (rows 100 n s)) ≡ closest_from t (part (100 * best) 100 s) (drop (i + 1) (rows 100 n s))
    walk-leaves e = step false e

  pub walk_ends : (best i : ℕ) → n ≤ i → closest_from t (part (100 * best) 100 s) (drop i (rows 100 n s)) ≡ part (100 * best) 100 s
  unfolding closest_from
  walk_ends best i h = ap (closest_from t (part (100 * best) 100 s)) (rows_end 100 n s i h)

  -- ---- the same of the place

  pub place-starts : 0 < n → closest_place t (rows 100 n s) ≡ place_from t 0 (part (100 * 0) 100 s) 1 (drop 1 (rows 100 n s))
  unfolding closest_place
  place-starts h = ap (closest_place t) (rows_next 100 n s 0 h)

  module _ (best i : ℕ) (h : i < n) where
    place-step : (b : Bool) → closer t (key_at (100 * i) s) (key_at (100 * best) s) ≡ b
        → place_from t best (part (100 * best) 100 s) i (drop i (rows 100 n s))
        ≡ place_from t (cond b i best) (cond b (part (100 * i) 100 s) (part (100 * best) 100 s)) (i + 1) (drop (i + 1) (rows 100 n s))
    unfolding place_from
    place-step b e =
        let r : List ℕ = part (100 * best) 100 s in
        let x : List ℕ = part (100 * i) 100 s in
        let is : closer t (key_of x) (key_of r) ≡ b =
        ap (λ (k : ℕ). closer t k (key_of r)) (row-key (100 * i)) ∙ ap (closer t (key_at (100 * i) s)) (row-key (100 * best)) ∙ e in
        ap (place_from t best r i) (rows_next 100 n s i h)
        ∙ ap (λ (c : Bool). place_from t (cond c i best) (cond c x r) (i + 1) (drop (i + 1) (rows 100 n s))) is

    pub place-takes : closer t (key_at (100 * i) s) (key_at (100 * best) s) ≡ true
        → place_from t best (part (100 * best) 100 s) i (drop i (rows 100 n s)) ≡ place_from t i (part (100 * i) 100 s) (i + 1) (drop (i + 1) (rows 100 n s))
    place-takes e = place-step true e

    pub place-leaves : closer t (key_at (100 * i) s) (key_at (100 * best) s) ≡ false
        → place_from t best (part (100 * best) 100 s) i (drop i (rows 100 n s))
        ≡ place_from t best (part (100 * best) 100 s) (i + 1) (drop (i + 1) (rows 100 n s))
    place-leaves e = place-step false e

  pub place-ends : (best i : ℕ) → n ≤ i → place_from t best (part (100 * best) 100 s) i (drop i (rows 100 n s)) ≡ best
  unfolding place_from
  place-ends best i h = ap (place_from t best (part (100 * best) 100 s) i) (rows_end 100 n s i h)
