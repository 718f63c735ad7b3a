-- Laws of the walk. In this order: a record of the walk, taken or not; a row of it, and its place; the row of the place that is found; two walks, one
-- after the other; what the two are for our own records and those held. Assumes nothing.
use mathlib.Core.Path.{◌≡◌, refl, sym, ap, ap₂, subst, ◌∙◌}
use mathlib.Core.Bool.{Bool, true, false, not, cond, ◌&&◌}
use mathlib.Core.List.{List, [], ◌∷◌, ◌++◌}
use mathlib.Core.Option.{Option, some, none}
use Prim.Native.Nat.{ℕ, zero, suc, ◌+◌, ◌*◌, ◌≤◌, ◌<◌}
use native.Mathlib.Omega.{arith}
use lib.ListN.{drop}
use borrow.Author.Tests.{eq-eqb, ne_eqb}
use Rattle.octet.specs.Part.{part}
use Rattle.octet.proofs.TestLaws.{both_true}
use Rattle.key.specs.Around.{closer}
use Rattle.key.proofs.AroundLaws.{closer_anti, closer_trans}
use Rattle.record.specs.Record.{key_of}
use Rattle.path.specs.Path.{on_path}
use Rattle.path.proofs.OnPathLaws.{empty_path}
use Rattle.table.specs.Rows.{rows}
use Rattle.table.proofs.RowLaws.{rows_next, rows_end}
use Rattle.neighbours.specs.Closest.{candidates, off_path, closest_from}
use Rattle.reason.specs.Reason.{passing, closest_in, closest_with}
use Rattle.next_row.specs.Walk.{kept, wanted, row_at, takes_over, place_from, place_among, closer_of}
use Rattle.reason.proofs.ReasonLaws.{both}

-- ---- a record of the walk

module _ (t : ℕ) (f : List ℕ → Bool) where
  taken : (o : Option (List ℕ)) (r : List ℕ) (rs : List (List ℕ)) → f r ≡ true → takes_over t r o ≡ true
      → closest_with t o (passing f (r ∷ rs)) ≡ closest_with t (some r) (passing f rs)
  unfolding passing closest_from
  taken none r rs p q = rw p refl
  taken (some x) r rs p q =
      ap (λ (b : Bool). closest_with t (some x) (cond b (r ∷ passing f rs) (passing f rs))) p
      ∙ ap (λ (b : Bool). some (closest_from t (cond b r x) (passing f rs))) q

  passed : (o : Option (List ℕ)) (r : List ℕ) (rs : List (List ℕ)) → (f r && takes_over t r o) ≡ false
      → closest_with t o (passing f (r ∷ rs)) ≡ closest_with t o (passing f rs)
  unfolding passing closest_from
  passed o r rs e = go (f r) o e
    where
      go : (b : Bool) (o : Option (List ℕ)) → (b && takes_over t r o) ≡ false
          → closest_with t o (cond b (r ∷ passing f rs) (passing f rs)) ≡ closest_with t o (passing f rs)
      go false o e = refl
      go true none e = both refl e
      go true (some x) e = ap (λ (b : Bool). some (closest_from t (cond b r x) (passing f rs))) e

  -- ---- a row of it

  module _ (n : ℕ) (s : List ℕ) where
    -- the closest, and the place, of what was found before and the rows from i on
    abbrev closestAt : Option (List ℕ) → ℕ → Option (List ℕ)
    closestAt o i = closest_with t o (passing f (drop i (rows 100 n s)))

    abbrev pub placeAt : ℕ → Option (List ℕ) → ℕ → ℕ
    placeAt b o i = place_from t f b o i (drop i (rows 100 n s))

    none-there : row_at n s n ≡ none
    none-there = rw (eq-eqb n n refl) refl

    pub place-starts : place_among t f n s ≡ placeAt n (row_at n s n) 0
    place-starts = ap (λ (o : Option (List ℕ)). placeAt n o 0) (sym none-there)

    module _ (best i : ℕ) (h : i < n) where
      abbrev row : List ℕ
      row = part (100 * i) 100 s

      here : row_at n s i ≡ some row
      here = rw (ne_eqb i n (λ e. omega arith)) refl

      next : (o : Option (List ℕ)) → closestAt o i ≡ closest_with t o (passing f (row ∷ drop (i + 1) (rows 100 n s)))
      next o = ap (λ (l : List (List ℕ)). closest_with t o (passing f l)) (rows_next 100 n s i h)

      place-next : (c : Bool) → (f row && takes_over t row (row_at n s best)) ≡ c
          → placeAt best (row_at n s best) i ≡ placeAt (cond c i best) (cond c (some row) (row_at n s best)) (i + 1)
      unfolding place_from
      place-next c e =
          ap (place_from t f best (row_at n s best) i) (rows_next 100 n s i h)
          ∙ ap (λ (d : Bool). placeAt (cond d i best) (cond d (some row) (row_at n s best)) (i + 1)) e

      module _ (e : (f row && takes_over t row (row_at n s best)) ≡ true) where
        closest-takes : closestAt (row_at n s best) i ≡ closestAt (row_at n s i) (i + 1)
        closest-takes =
            let w = both_true (f row) (takes_over t row (row_at n s best)) e in
            next (row_at n s best) ∙ taken (row_at n s best) row (drop (i + 1) (rows 100 n s)) w.0 w.1
            ∙ ap (λ (o : Option (List ℕ)). closestAt o (i + 1)) (sym here)

        pub place-takes : placeAt best (row_at n s best) i ≡ placeAt i (row_at n s i) (i + 1)
        place-takes = place-next true e ∙ ap (λ (o : Option (List ℕ)). placeAt i o (i + 1)) (sym here)

      module _ (e : (f row && takes_over t row (row_at n s best)) ≡ false) where
        closest-leaves : closestAt (row_at n s best) i ≡ closestAt (row_at n s best) (i + 1)
        closest-leaves = next (row_at n s best) ∙ passed (row_at n s best) row (drop (i + 1) (rows 100 n s)) e

        pub place-leaves : placeAt best (row_at n s best) i ≡ placeAt best (row_at n s best) (i + 1)
        place-leaves = place-next false e

    closest-ends : (o : Option (List ℕ)) (i : ℕ) → n ≤ i → closestAt o i ≡ o
    closest-ends o i h = ap (λ (l : List (List ℕ)). closest_with t o (passing f l)) (rows_end 100 n s i h) ∙ none_left o
      where
        none_left : (o : Option (List ℕ)) → closest_with t o (passing f []) ≡ o
        none_left none = unfold passing in refl
        none_left (some r) = unfold passing closest_from in refl

    pub place-ends : (b : ℕ) (o : Option (List ℕ)) (i : ℕ) → n ≤ i → placeAt b o i ≡ b
    unfolding place_from
    place-ends b o i h = ap (place_from t f b o i) (rows_end 100 n s i h)

    -- ---- the row of the place that is found

    -- the place p is one of the rows, or n, and its row is o
    abbrev Found : ℕ → Option (List ℕ) → Type 0
    Found p o = (p ≤ n) × (row_at n s p ≡ o)

    found_back : {p q : ℕ} {o u : Option (List ℕ)} → p ≡ q → o ≡ u → Found q u → Found p o
    found_back x y w = (subst (λ (z : ℕ). z ≤ n) (sym x) w.0, ap (row_at n s) x ∙ w.1 ∙ sym y)

    -- from place i on, by whether its row is taken
    abbrev FoundFrom : ℕ → ℕ → Type 0
    FoundFrom best i = best ≤ n → Found (placeAt best (row_at n s best) i) (closestAt (row_at n s best) i)

    found-step : (best i : ℕ) → i < n → (c : Bool) → (f (part (100 * i) 100 s) && takes_over t (part (100 * i) 100 s) (row_at n s best)) ≡ c
        → ((b : ℕ) → FoundFrom b (i + 1)) → FoundFrom best i
    found-step best i h true e rest b = found_back (place-takes best i h e) (closest-takes best i h e) (rest i (omega arith))
    found-step best i h false e rest b = found_back (place-leaves best i h e) (closest-leaves best i h e) (rest best b)

    found_from : (m best i : ℕ) → i + m ≡ n → FoundFrom best i
    found_from zero best i e b =
        found_back (place-ends best (row_at n s best) i (omega (arith, e))) (closest-ends (row_at n s best) i (omega (arith, e))) (b, refl)
    found_from (suc m) best i e b =
        found-step best i (omega (arith, e)) (f (part (100 * i) 100 s) && takes_over t (part (100 * i) 100 s) (row_at n s best)) refl
        (λ p. found_from m p (i + 1) (omega (arith, e))) b

    pub place_found : Found (place_among t f n s) (closest_in t (passing f (rows 100 n s)))
    place_found =
        found_back place-starts (ap (λ (o : Option (List ℕ)). closest_with t o (passing f (rows 100 n s))) (sym none-there))
        (found_from n n 0 (omega arith) (omega arith))

-- ---- two walks, one after the other

module _ (t : ℕ) where
  from_append : (r : List ℕ) (xs ys : List (List ℕ)) → closest_from t r (xs ++ ys) ≡ closest_from t (closest_from t r xs) ys
  unfolding closest_from
  from_append r [] ys = refl
  from_append r (x ∷ xs) ys = from_append (cond (closer t (key_of x) (key_of r)) x r) xs ys

  -- by whether y is closer than r, and the closest of the rest, c, closer than y
  by_order : (r y c : List ℕ) (a b d : Bool) → closer t (key_of y) (key_of r) ≡ a → closer t (key_of c) (key_of y) ≡ b → closer t (key_of c) (key_of r) ≡ d
      → cond (closer t (key_of c) (key_of (cond a y r))) c (cond a y r)
      ≡ cond (closer t (key_of (cond b c y)) (key_of r)) (cond b c y) r
  by_order r y c true true true p q v = rw (q, v) refl
  by_order r y c true true false p q v = both p (closer_trans t (key_of y) (key_of c) (key_of r) (closer_anti t (key_of c) (key_of y) q) v)
  by_order r y c true false d p q v = rw (q, p) refl
  by_order r y c false true d p q v = refl
  by_order r y c false false d p q v = rw (p, closer_trans t (key_of c) (key_of y) (key_of r) q p) refl

  against : (r y : List ℕ) (ys : List (List ℕ))
      → closest_from t r (y ∷ ys) ≡ cond (closer t (key_of (closest_from t y ys)) (key_of r)) (closest_from t y ys) r
  unfolding closest_from
  against r y [] = refl
  against r y (z ∷ zs) =
      let c = closest_from t z zs in
      against (cond (closer t (key_of y) (key_of r)) y r) z zs
      ∙ by_order r y c (closer t (key_of y) (key_of r)) (closer t (key_of c) (key_of y)) (closer t (key_of c) (key_of r)) refl refl refl
      ∙ ap (λ (e : List ℕ). cond (closer t (key_of e) (key_of r)) e r) (sym (against y z zs))

  closest-join : (xs ys : List (List ℕ)) → closest_in t (xs ++ ys) ≡ closer_of t (closest_in t xs) (closest_in t ys)
  unfolding closest_from
  closest-join [] ys = refl
  closest-join (x ∷ xs) [] = ap some (from_append x xs [])
  closest-join (x ∷ xs) (y ∷ ys) = ap some (from_append x xs (y ∷ ys) ∙ against (closest_from t x xs) y ys)

-- ---- our own records and those held

pass_append : (f : List ℕ → Bool) (xs ys : List (List ℕ)) → passing f (xs ++ ys) ≡ passing f xs ++ passing f ys
unfolding passing
pass_append f [] ys = refl
pass_append f (x ∷ xs) ys = go (f x) (pass_append f xs ys)
  where
    go : (b : Bool) → passing f (xs ++ ys) ≡ passing f xs ++ passing f ys
        → cond b (x ∷ passing f (xs ++ ys)) (passing f (xs ++ ys)) ≡ cond b (x ∷ passing f xs) (passing f xs) ++ passing f ys
    go true e = ap (λ (l : List (List ℕ)). x ∷ l) e
    go false e = e

pub pass_all : (f : List ℕ → Bool) (xs : List (List ℕ)) → ((r : List ℕ) → f r ≡ true) → passing f xs ≡ xs
unfolding passing
pass_all f [] h = refl
pass_all f (x ∷ xs) h = rw (h x) (ap (λ (l : List (List ℕ)). x ∷ l) (pass_all f xs h))

module _ (leave : Bool) (k : ℕ) where
  -- no record of ours is passed over
  pass-ours : (ours : List (List ℕ)) → passing (wanted [] leave k) ours ≡ passing (kept leave k) ours
  unfolding passing wanted
  pass-ours [] = refl
  pass-ours (r ∷ rs) =
      rw (empty_path r)
      (ap (λ (l : List (List ℕ)). cond (kept leave k r) (r ∷ l) l) (pass-ours rs))

  pass-held : (path : List ℕ) (held : List (List ℕ)) → passing (wanted path leave k) held ≡ passing (kept leave k) (off_path path held)
  unfolding passing wanted off_path
  pass-held path [] = refl
  pass-held path (r ∷ rs) = go (on_path r path) (pass-held path rs)
    where
      go : (b : Bool) → passing (wanted path leave k) rs ≡ passing (kept leave k) (off_path path rs)
          → cond (not b && kept leave k r) (r ∷ passing (wanted path leave k) rs) (passing (wanted path leave k) rs)
          ≡ passing (kept leave k) (cond b (off_path path rs) (r ∷ off_path path rs))
      go true e = e
      go false e = ap (λ (l : List (List ℕ)). cond (kept leave k r) (r ∷ l) l) e

  pub walks-closest : (t : ℕ) (ours held : List (List ℕ)) (path : List ℕ)
      → closer_of t (closest_in t (passing (wanted [] leave k) ours)) (closest_in t (passing (wanted path leave k) held))
      ≡ closest_in t (passing (kept leave k) (candidates ours (off_path path held)))
  walks-closest t ours held path =
      ap₂ (λ (xs ys : List (List ℕ)). closer_of t (closest_in t xs) (closest_in t ys)) (pass-ours ours) (pass-held path held)
      ∙ sym (closest-join t (passing (kept leave k) ours) (passing (kept leave k) (off_path path held)))
      ∙ ap (closest_in t) (sym (pass_append (kept leave k) ours (off_path path held)))
