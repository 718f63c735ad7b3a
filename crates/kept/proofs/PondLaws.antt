-- Which keys are in a neighbour list, by their places round the ring; and the farthest of a list.
-- In this order: lists whose places differ; the neighbour list of one own key, by places; the farthest of a list. Assumes nothing.
use mathlib.Core.Path.{◌≡◌, refl, sym, ap, ap₂, ◌∙◌}
use mathlib.Core.Logic.{◌⊎◌, inl, inr}
use mathlib.Core.Bool.{Bool, true, false, cond, ◌||◌}
use mathlib.Core.List.{List, [], ◌∷◌, ◌++◌, reverse}
use Prim.Native.Nat.{ℕ, zero, suc, ◌+◌, ◌-◌, ◌≤◌, ◌<◌, min}
use native.Mathlib.Omega.{arith}
use native.Mathlib.Decide.{dec_lt}
use lib.Dec.{eqb, ltb}
use lib.ListN.{length, take, get_or, length-reverse}
use borrow.Author.Tests.{lt-ltb, le-ltb, ltb-true, ltb-false, eq-eqb, ne_eqb}
use Rattle.key.specs.Around.{below, above, ring, up, apart}
use Rattle.kept.specs.Keys.{◌∈◌, has, Every, Rising, plain}
use Rattle.kept.specs.Plain.{count_below, neighbours, neighbour_list}
use Rattle.kept.specs.Turned.{NotKey, wrapped, count_under, going_up, in_run}
use Rattle.kept.specs.Ponds.{farthest_from}
use Rattle.kept.proofs.PutLaws.{Tri, less, same, more, tri}
use Rattle.kept.proofs.ListLaws.{Test, pass, fail, test, in_get_d, rising-at}
use Rattle.kept.proofs.TurnLaws.{going-rises, list-above, list-below, under_le, count-le}
use Rattle.kept.proofs.PlaceLaws.{reverse_get_d, turned_at, turned-length, wrapped-lt}

-- ---- lists whose places differ

abbrev pub Differ : List ℕ → Type 0
Differ l = (i j : ℕ) → i < length l → j < length l → get_or l i 0 ≡ get_or l j 0 → i ≡ j

pub rising_differ : (f : ℕ → ℕ) (b : ℕ) (l : List ℕ) → Rising f b l → Differ l
rising_differ f b [] r i j h g e = absurd (omega arith)
rising_differ f b (x ∷ l) r zero zero h g e = refl
rising_differ f b (x ∷ l) r zero (suc j) h g e =
    absurd (omega (arith, rising-at f (suc (f x)) (get_or l j 0) l r.1 (in_get_d l j (omega arith)), ap f e))
rising_differ f b (x ∷ l) r (suc i) zero h g e =
    absurd (omega (arith, rising-at f (suc (f x)) (get_or l i 0) l r.1 (in_get_d l i (omega arith)), ap f e))
rising_differ f b (x ∷ l) r (suc i) (suc j) h g e = ap suc (rising_differ f (suc (f x)) l r.1 i j (omega arith) (omega arith) e)

pub reverse_differ : (l : List ℕ) → Differ l → Differ (reverse l)
reverse_differ l d i j h g e =
    let n = length-reverse l in
    let k : length l - 1 - i ≡ length l - 1 - j =
    d (length l - 1 - i) (length l - 1 - j) (omega arith) (omega arith)
    (sym (reverse_get_d l i (omega arith)) ∙ e ∙ reverse_get_d l j (omega arith)) in
    omega arith

-- the entry of place i is among the first n exactly where i is less than n
pub has-take : (n : ℕ) (l : List ℕ) (i : ℕ) → Differ l → i < length l → has (get_or l i 0) (take n l) ≡ ltb i n
unfolding has
has-take zero l i d h = sym (le-ltb i 0 (omega arith))
has-take (suc n) [] i d h = absurd (omega arith)
has-take (suc n) (x ∷ l) zero d h = rw (eq-eqb x x refl) (sym (lt-ltb 0 (suc n) (omega arith)))
has-take (suc n) (x ∷ l) (suc i) d h =
    rw (ne_eqb (get_or l i 0) x (λ e. absurd (omega (arith, d (suc i) 0 h (omega arith) e))))
    (has-take n l i (λ j k u v e. let q = d (suc j) (suc k) (omega arith) (omega arith) e in omega arith) (omega arith) ∙ step (tri i n))
  where
    step : Tri i n → ltb i n ≡ ltb (suc i) (suc n)
    step (less g) = lt-ltb i n g ∙ sym (lt-ltb (suc i) (suc n) (omega arith))
    step (same e) = le-ltb i n (omega arith) ∙ sym (le-ltb (suc i) (suc n) (omega arith))
    step (more g) = le-ltb i n (omega arith) ∙ sym (le-ltb (suc i) (suc n) (omega arith))

pub has_append : (k : ℕ) (l m : List ℕ) → has k (l ++ m) ≡ has k l || has k m
unfolding has
has_append k [] m = refl
has_append k (j ∷ l) m = go (eqb k j) (has_append k l m)
  where
    go : (b : Bool) → has k (l ++ m) ≡ has k l || has k m → (b || has k (l ++ m)) ≡ ((b || has k l) || has k m)
    go true e = refl
    go false e = e

-- ---- the neighbour list of one own key, by places

-- there and back round n places
wrapped_back : (n first x : ℕ) → first ≤ n → x < n → wrapped n (first + wrapped n (x + (n - first))) ≡ x
unfolding wrapped
wrapped_back n first x h g = go (tri x first)
  where
    low : x < first → cond (ltb (first + (x + (n - first))) n) (first + (x + (n - first))) ((first + (x + (n - first))) - n) ≡ x
    low k = rw (le-ltb (first + (x + (n - first))) n (omega arith)) (omega arith)

    high : first ≤ x → cond (ltb (first + ((x + (n - first)) - n)) n) (first + ((x + (n - first)) - n)) ((first + ((x + (n - first)) - n)) - n) ≡ x
    high k = rw (lt-ltb (first + ((x + (n - first)) - n)) n (omega arith)) (omega arith)

    go : Tri x first
        → cond (ltb (first + cond (ltb (x + (n - first)) n) (x + (n - first)) ((x + (n - first)) - n)) n)
        (first + cond (ltb (x + (n - first)) n) (x + (n - first)) ((x + (n - first)) - n))
        ((first + cond (ltb (x + (n - first)) n) (x + (n - first)) ((x + (n - first)) - n)) - n) ≡ x
    go (less k) = rw (lt-ltb (x + (n - first)) n (omega arith)) (low k)
    go (same e) = rw (le-ltb (x + (n - first)) n (omega arith)) (high (omega arith))
    go (more k) = rw (le-ltb (x + (n - first)) n (omega arith)) (high (omega arith))

-- at most five on each side
five_each : (n i b : ℕ) → i < n → b ≤ n → (ltb ((n - 1) - i) (min 5 b) || ltb i (min 5 (n - b))) ≡ cond (ltb i (n - b)) (ltb i 5) (ltb ((n - 1) - i) 5)
five_each n i b h g = go (dec_lt i (n - b))
  where
    least : (m j k : ℕ) → (m < j → m < k) → (m < k → m < j) → ltb m j ≡ ltb m k
    least m j k to from = by (dec_lt m j)
      where
        by : Dec (m < j) → ltb m j ≡ ltb m k
        by (yes l) = lt-ltb m j l ∙ sym (lt-ltb m k (to l))
        by (no l) = le-ltb m j (omega arith) ∙ sym (le-ltb m k (not-less (dec_lt m k)))
          where
            not-less : Dec (m < k) → k ≤ m
            not-less (yes l') = absurd (l (from l'))
            not-less (no l') = omega arith

    or_none : (c : Bool) → (c || false) ≡ c
    or_none true = refl
    or_none false = refl

    go : Dec (i < n - b) → (ltb ((n - 1) - i) (min 5 b) || ltb i (min 5 (n - b))) ≡ cond (ltb i (n - b)) (ltb i 5) (ltb ((n - 1) - i) 5)
    go (yes l) =
        rw (le-ltb ((n - 1) - i) (min 5 b) (omega arith), lt-ltb i (n - b) l) (least i (min 5 (n - b)) 5 (λ m. omega arith) (λ m. omega arith))
    go (no l) =
        rw (le-ltb i (n - b) (omega arith), le-ltb i (min 5 (n - b)) (omega arith))
        (or_none (ltb ((n - 1) - i) (min 5 b)) ∙ least ((n - 1) - i) (min 5 b) 5 (λ m. omega arith) (λ m. omega arith))

module _ (own : ℕ) (o : own < ring) (keys : List ℕ) (rises : Rising plain 0 keys) (small : Every (λ (k : ℕ). k < ring) keys)
    (others : Every (NotKey own) keys) where
  pub in-run : (x : ℕ) → x < length keys
      → has (get_or keys x 0) (neighbour_list own keys)
      ≡ in_run (length keys) x (count_under own keys) (count_below own keys)
  in-run x h =
      let n : ℕ = length keys in
      let first : ℕ = count_under own keys in
      let l : List ℕ = going_up own keys in
      let i : ℕ = wrapped n (x + (n - first)) in
      let size : length l ≡ n = turned-length first keys in
      let inside : i < n = wrapped-lt n (x + (n - first)) (omega arith) (omega arith) in
      let differ : Differ l = rising_differ (up own) 0 l (going-rises own o keys rises small) in
      let key : get_or keys x 0 ≡ get_or l i 0 =
      ap (λ (j : ℕ). get_or keys j 0) (sym (wrapped_back n first x (under_le own keys) h)) ∙ sym (turned_at first keys i (under_le own keys) inside) in
      let e : (length l - 1) - ((n - 1) - i) ≡ i = omega arith in
      let last : get_or keys x 0 ≡ get_or (reverse l) ((n - 1) - i) 0 =
      key ∙ ap (λ (j : ℕ). get_or l j 0) (sym e) ∙ sym (reverse_get_d l ((n - 1) - i) (omega arith)) in
      has_append (get_or keys x 0) (neighbours own below keys) (neighbours own above keys)
      ∙ ap₂ ◌||◌
      (ap₂ has last (list-below own o keys rises small others)
      ∙ has-take (min 5 (count_below own keys)) (reverse l) ((n - 1) - i) (reverse_differ l differ) (omega (arith, length-reverse l)))
      (ap₂ has key (list-above own o keys rises small others) ∙ has-take (min 5 (length keys - count_below own keys)) l i differ (omega arith))
      ∙ five_each n i (count_below own keys) inside (count-le own keys)

-- ---- the farthest of a list

-- j or one of the list
pub farthest_in : (own j : ℕ) (l : List ℕ) → (farthest_from own j l ≡ j) ⊎ (farthest_from own j l ∈ l)
unfolding farthest_from
farthest_in own j [] = inl refl
farthest_in own j (k ∷ l) = go (ltb (apart own j) (apart own k)) (farthest_in own k l) (farthest_in own j l)
  where
    go : (b : Bool) → (farthest_from own k l ≡ k) ⊎ (farthest_from own k l ∈ l) → (farthest_from own j l ≡ j) ⊎ (farthest_from own j l ∈ l)
        → (farthest_from own (cond b k j) l ≡ j) ⊎ (farthest_from own (cond b k j) l ∈ (k ∷ l))
    go true (inl e) y = inr (inl e)
    go true (inr m) y = inr (inr m)
    go false x (inl e) = inl e
    go false x (inr m) = inr (inr m)

-- none is farther
pub farthest_most : (own j : ℕ) (l : List ℕ) → apart own j ≤ apart own (farthest_from own j l)
unfolding farthest_from
farthest_most own j [] = omega arith
farthest_most own j (k ∷ l) = go (test (ltb (apart own j) (apart own k))) (farthest_most own k l) (farthest_most own j l)
  where
    go : Test (ltb (apart own j) (apart own k)) → apart own k ≤ apart own (farthest_from own k l) → apart own j ≤ apart own (farthest_from own j l)
        → apart own j ≤ apart own (farthest_from own (cond (ltb (apart own j) (apart own k)) k j) l)
    go (pass e) x y = rw e (let h = ltb-true (apart own j) (apart own k) e in omega arith)
    go (fail e) x y = rw e y

pub farthest_all : (own j : ℕ) (l : List ℕ) (k : ℕ) → k ∈ l → apart own k ≤ apart own (farthest_from own j l)
unfolding farthest_from
farthest_all own j [] k m = absurd m
farthest_all own j (i ∷ l) k (inl d) = rw d (go (test (ltb (apart own j) (apart own i))))
  where
    go : Test (ltb (apart own j) (apart own i)) → apart own i ≤ apart own (farthest_from own (cond (ltb (apart own j) (apart own i)) i j) l)
    go (pass e) = rw e (farthest_most own i l)
    go (fail e) = rw e (let h = ltb-false (apart own j) (apart own i) e in let g = farthest_most own j l in omega arith)
farthest_all own j (i ∷ l) k (inr m) = farthest_all own (cond (ltb (apart own j) (apart own i)) i j) l k m

-- of those equally far it is the lowest number, in a list that rises from above j
pub farthest_low : (own j : ℕ) (l : List ℕ) → Rising plain (suc j) l → (k : ℕ) → (k ≡ j) ⊎ (k ∈ l)
    → apart own k ≡ apart own (farthest_from own j l) → farthest_from own j l ≤ k
unfolding farthest_from
farthest_low own j [] r k (inl d) e = omega arith
farthest_low own j [] r k (inr m) e = absurd m
farthest_low own j (i ∷ l) r k m e =
    go (ltb (apart own j) (apart own i)) refl (farthest_low own i l r.1) (farthest_low own j l (lower l r.1)) m e
  where
    lower : (l : List ℕ) → Rising plain (suc i) l → Rising plain (suc j) l
    lower [] q = tt
    lower (x ∷ l) q = (omega (arith, q.0, r.0), q.1)

    go : (b : Bool) → ltb (apart own j) (apart own i) ≡ b
        → ((k : ℕ) → (k ≡ i) ⊎ (k ∈ l) → apart own k ≡ apart own (farthest_from own i l) → farthest_from own i l ≤ k)
        → ((k : ℕ) → (k ≡ j) ⊎ (k ∈ l) → apart own k ≡ apart own (farthest_from own j l) → farthest_from own j l ≤ k)
        → (k ≡ j) ⊎ (k ∈ (i ∷ l)) → apart own k ≡ apart own (farthest_from own (cond b i j) l) → farthest_from own (cond b i j) l ≤ k
    go true p x y (inl d) e =
        absurd (omega (arith, ltb-true (apart own j) (apart own i) p, farthest_most own i l, ap (apart own) d, e))
    go true p x y (inr m) e = x k m e
    go false p x y (inl d) e = y k (inl d) e
    go false p x y (inr (inr m)) e = y k (inr m) e
    go false p x y (inr (inl d)) e =
        let u = ltb-false (apart own j) (apart own i) p in
        let v = farthest_most own j l in
        let w = y j (inl refl) (omega (arith, ap (apart own) d, e)) in
        omega (arith, r.0)

-- and where each of a rising list is farther than j
pub farthest_lowest : (own j : ℕ) (l : List ℕ) → Rising plain 0 l → ((k : ℕ) → k ∈ l → apart own j < apart own k) → (k : ℕ) → k ∈ l
    → apart own k ≡ apart own (farthest_from own j l) → farthest_from own j l ≤ k
unfolding farthest_from
farthest_lowest own j [] r f k m e = absurd m
farthest_lowest own j (i ∷ l) r f k m e = go (ltb (apart own j) (apart own i)) (lt-ltb (apart own j) (apart own i) (f i (inl refl))) e
  where
    go : (b : Bool) → b ≡ true → apart own k ≡ apart own (farthest_from own (cond b i j) l) → farthest_from own (cond b i j) l ≤ k
    go true d e = farthest_low own i l r.1 k m e
    go false d e = let z : ◌≡◌ {A = ℕ} 0 1 = cc in absurd (omega arith)
