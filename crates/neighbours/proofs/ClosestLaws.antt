-- Laws of the closest record of the candidates, our own records and some of those held: it is one of them, none is closer, and these two fix it; all for any
-- `closer` with the laws that key's Around gives. Assumes nothing.
use mathlib.Core.Path.{◌≡◌, sym, ap, ◌∙◌, subst}
use mathlib.Core.Logic.{◌⊎◌, inl, inr}
use mathlib.Core.Bool.{true, false}
use mathlib.Core.List.{List, [], ◌∷◌, ◌++◌}
use Prim.Native.Nat.{ℕ, suc, ◌<◌}
use native.Mathlib.Omega.{arith}
use lib.ListN.{length, length-append, length-map}
use Rattle.key.specs.Around.{closer}
use Rattle.key.proofs.AroundLaws.{closer_both}
use Rattle.record.specs.Record.{key_of, record_form}
use Rattle.own.specs.Own.{Own, own_form, own_keys, own_records}
use Rattle.own.proofs.FormLaws.{own_formed, own_some}
use Rattle.kept.specs.Keys.{◌∈◌, Every, Rising, plain}
use Rattle.kept.specs.Plain.{NotOwn}
use Rattle.kept.proofs.ListLaws.{every_at, rising-at}
use Rattle.closest_row.proofs.ClosestLaws.{closest_in_lem, none-closer}
use Rattle.cache.specs.Form.{keys_of, HeldRecords}
use Rattle.neighbours.specs.Closest.{candidates, closest_of}

-- ---- members of two lists after each other

pub in_either : (y : List ℕ) (xs ys : List (List ℕ)) → y ∈ (xs ++ ys) → (y ∈ xs) ⊎ (y ∈ ys)
in_either y [] ys m = inr m
in_either y (x ∷ xs) ys (inl e) = inl (inl e)
in_either y (x ∷ xs) ys (inr m) = later (in_either y xs ys m)
  where
    later : (y ∈ xs) ⊎ (y ∈ ys) → (y ∈ (x ∷ xs)) ⊎ (y ∈ ys)
    later (inl m) = inl (inr m)
    later (inr m) = inr m

pub in_first : (y : List ℕ) (xs ys : List (List ℕ)) → y ∈ xs → y ∈ (xs ++ ys)
in_first y [] ys m = absurd m
in_first y (x ∷ xs) ys (inl e) = inl e
in_first y (x ∷ xs) ys (inr m) = inr (in_first y xs ys m)

pub in_second : (y : List ℕ) (xs ys : List (List ℕ)) → y ∈ ys → y ∈ (xs ++ ys)
in_second y [] ys m = m
in_second y (x ∷ xs) ys m = inr (in_second y xs ys m)

-- ---- of the candidates

-- there are own records
pub records_some : (own : List ℕ) → own_form own ≡ true → 0 < length (own_records own)
records_some own e = omega (arith, own_some own e, length-map (own_records own) key_of)

module _ (t : ℕ) (own : List ℕ) (held : List (List ℕ)) where
  pub closest-among : own_form own ≡ true → closest_of t (candidates (own_records own) held) ∈ candidates (own_records own) held
  closest-among e =
      closest_in_lem t (candidates (own_records own) held) (omega (arith, records_some own e, length-append (own_records own) held))

  pub closest-least : (y : List ℕ) → y ∈ candidates (own_records own) held → closer t (key_of y) (key_of (closest_of t (candidates (own_records own) held))) ≡ false
  closest-least y m = none-closer t (candidates (own_records own) held) y m

  -- these two fix its key
  pub closest-key : own_form own ≡ true → (z : List ℕ) → z ∈ candidates (own_records own) held
      → ((y : List ℕ) → y ∈ candidates (own_records own) held → closer t (key_of y) (key_of z) ≡ false)
      → key_of z ≡ key_of (closest_of t (candidates (own_records own) held))
  closest-key e z m h =
      closer_both t (key_of z) (key_of (closest_of t (candidates (own_records own) held))) (closest-least z m)
      (h (closest_of t (candidates (own_records own) held)) (closest-among e))

-- of our own records and those that a cache under our keys may hold, no two have one key
pub held-key : (x : List ℕ) (recs : List (List ℕ)) → x ∈ recs → key_of x ∈ keys_of recs
held-key x [] m = absurd m
held-key x (r ∷ recs) (inl e) = inl (ap key_of e)
held-key x (r ∷ recs) (inr m) = inr (held-key x recs m)

pub one_held : (low : ℕ) (recs : List (List ℕ)) (x y : List ℕ) → Rising plain low (keys_of recs) → x ∈ recs → y ∈ recs → key_of x ≡ key_of y → x ≡ y
one_held low [] x y r m n e = absurd m
one_held low (z ∷ recs) x y r (inl p) (inl q) e = p ∙ sym q
one_held low (z ∷ recs) x y r (inl p) (inr n) e =
    absurd (omega (arith, rising-at plain (suc (key_of z)) (key_of y) (keys_of recs) r.1 (held-key y recs n), e, ap key_of p))
one_held low (z ∷ recs) x y r (inr m) (inl q) e =
    absurd (omega (arith, rising-at plain (suc (key_of z)) (key_of x) (keys_of recs) r.1 (held-key x recs m), e, ap key_of q))
one_held low (z ∷ recs) x y r (inr m) (inr n) e = one_held (suc (key_of z)) recs x y r.1 m n e

one_candidate : (own : List ℕ) (held : List (List ℕ)) → own_form own ≡ true → HeldRecords (own_keys own) held → (x y : List ℕ)
    → x ∈ candidates (own_records own) held → y ∈ candidates (own_records own) held → key_of x ≡ key_of y → x ≡ y
one_candidate own held o f x y m n e = go (in_either x (own_records own) held m) (in_either y (own_records own) held n)
  where
    -- a key of ours is none of those held
    not_both : (a b : List ℕ) → a ∈ own_records own → b ∈ held → key_of a ≡ key_of b → ⊥
    not_both a b p q d =
        every_at (NotOwn (own_keys own)) (key_of b) (keys_of held) f.others (held-key b held q)
        (subst (λ (k : ℕ). k ∈ own_keys own) d (held-key a (own_records own) p))

    go : (x ∈ own_records own) ⊎ (x ∈ held) → (y ∈ own_records own) ⊎ (y ∈ held) → x ≡ y
    go (inl p) (inl q) = one_held 0 (own_records own) x y (own_formed own o).rising p q e
    go (inl p) (inr q) = absurd (not_both x y p q e)
    go (inr p) (inl q) = absurd (not_both y x q p (sym e))
    go (inr p) (inr q) = one_held 0 held x y f.rising p q e

-- so they fix the record
pub closest_only : (t : ℕ) (own : List ℕ) (held : List (List ℕ)) → own_form own ≡ true → HeldRecords (own_keys own) held
    → (z : List ℕ) → z ∈ candidates (own_records own) held
    → ((y : List ℕ) → y ∈ candidates (own_records own) held → closer t (key_of y) (key_of z) ≡ false) → z ≡ closest_of t (candidates (own_records own) held)
closest_only t own held o f z m h =
    one_candidate own held o f z (closest_of t (candidates (own_records own) held)) m (closest-among t own held o) (closest-key t own held o z m h)

-- ---- it is in form where all are

pub in_form : (r : List ℕ) (recs : List (List ℕ)) → Every (λ (q : List ℕ). record_form q ≡ true) recs → r ∈ recs → record_form r ≡ true
in_form r [] a m = absurd m
in_form r (q ∷ recs) a (inl e) = rw e a.0
in_form r (q ∷ recs) a (inr m) = in_form r recs a.1 m

pub closest_formed : (t : ℕ) (k : Own) (own : List ℕ) (held : List (List ℕ)) → own_form own ≡ true → HeldRecords k held
    → record_form (closest_of t (candidates (own_records own) held)) ≡ true
closest_formed t k own held e f = by (in_either z (own_records own) held (closest-among t own held e))
  where
    z : List ℕ
    z = closest_of t (candidates (own_records own) held)

    by : (z ∈ own_records own) ⊎ (z ∈ held) → record_form z ≡ true
    by (inl m) = in_form z (own_records own) (own_formed own e).formed m
    by (inr m) = in_form z held f.formed m
