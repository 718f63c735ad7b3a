-- Laws of a list that rises by a measure, of membership, and of `among`, `take` and `last_or`.
-- Assumes nothing.
use mathlib.Core.Path.{◌≡◌, refl, sym, ◌∙◌, ap}
use mathlib.Core.Logic.{◌⊎◌, inl, inr}
use mathlib.Core.Bool.{Bool, true, false, ◌||◌}
use mathlib.Core.List.{List, [], ◌∷◌}
use Prim.Native.Nat.{ℕ, zero, suc, ◌≤◌, ◌<◌}
use native.Mathlib.Omega.{arith}
use lib.Dec.{eqb}
use lib.ListN.{length, take, get_or}
use borrow.Author.Tests.{eq-eqb, ne_eqb, eqb-true}
use Rattle.kept.specs.Keys.{◌∈◌, has, Every, Rising, put, among, last_or}
use Rattle.kept.proofs.PutLaws.{Tri, less, same, more, tri, put-nil, put-less, put-more, put_same}

-- a test's value, with its equation
pub data Test (b : Bool) : Type 0 where
  pass : b ≡ true → Test b
  fail : b ≡ false → Test b

pub test : (b : Bool) → Test b
test true = pass refl
test false = fail refl

-- membership -------------------------------------------------------------------------------------------------------------------

pub every_at : (P : ℕ → Type 0) (k : ℕ) (l : List ℕ) → Every P l → k ∈ l → P k
every_at P k [] a m = absurd m
every_at P k (j ∷ l) a (inl e) = rw e a.0
every_at P k (j ∷ l) a (inr m) = every_at P k l a.1 m

pub every_of : (P : ℕ → Type 0) (l : List ℕ) → ((k : ℕ) → k ∈ l → P k) → Every P l
every_of P [] h = tt
every_of P (j ∷ l) h = (h j (inl refl), every_of P l (λ k m. h k (inr m)))

pub mem_take : (n k : ℕ) (l : List ℕ) → k ∈ take n l → k ∈ l
mem_take zero k l m = absurd m
mem_take (suc n) k [] m = absurd m
mem_take (suc n) k (j ∷ l) (inl e) = inl e
mem_take (suc n) k (j ∷ l) (inr m) = inr (mem_take n k l m)

pub in_get_d : (l : List ℕ) (i : ℕ) → i < length l → get_or l i 0 ∈ l
in_get_d [] i h = absurd (omega arith)
in_get_d (x ∷ l) zero h = inl refl
in_get_d (x ∷ l) (suc i) h = inr (in_get_d l i (omega arith))

-- the test decides it
pub has_in : (k : ℕ) (l : List ℕ) → k ∈ l → has k l ≡ true
unfolding has
has_in k [] m = absurd m
has_in k (j ∷ l) (inl e) = rw (eq-eqb k j e) refl
has_in k (j ∷ l) (inr m) = go (eqb k j) (has_in k l m)
  where
    go : (b : Bool) {c : Bool} → c ≡ true → b || c ≡ true
    go true e = refl
    go false e = e

pub has_out : (k : ℕ) (l : List ℕ) → ¬ (k ∈ l) → has k l ≡ false
unfolding has
has_out k [] out = refl
has_out k (j ∷ l) out = rw (ne_eqb k j (λ e. out (inl e))) (has_out k l (λ m. out (inr m)))

pub in_has : (k : ℕ) (l : List ℕ) → has k l ≡ true → k ∈ l
unfolding has
in_has k [] e = let z : ◌≡◌ {A = ℕ} 0 1 = cc in absurd (omega arith)
in_has k (j ∷ l) e = go (test (eqb k j)) e (in_has k l)
  where
    go : Test (eqb k j) → eqb k j || has k l ≡ true → (has k l ≡ true → k ∈ l) → k ∈ (j ∷ l)
    go (pass d) h ih = inl (eqb-true k j d)
    go (fail d) h ih = inr (ih (rw d at h))

module _ (p : ℕ → Bool) where
  pub among-pass : (j : ℕ) (l : List ℕ) → p j ≡ true → among p (j ∷ l) ≡ j ∷ among p l
  unfolding among
  among-pass j l e = rw e

  pub among-fail : (j : ℕ) (l : List ℕ) → p j ≡ false → among p (j ∷ l) ≡ among p l
  unfolding among
  among-fail j l e = rw e

  pub mem-among : (k : ℕ) (l : List ℕ) → k ∈ among p l → (k ∈ l) × (p k ≡ true)
  unfolding among
  mem-among k [] m = absurd m
  mem-among k (j ∷ l) m = go (test (p j)) (mem-among k l)
    where
      here : p j ≡ true → (k ∈ among p l → (k ∈ l) × (p k ≡ true)) → k ∈ (j ∷ among p l) → (k ∈ (j ∷ l)) × (p k ≡ true)
      here e ih (inl d) = (inl d, rw d e)
      here e ih (inr n) = (inr (ih n).0, (ih n).1)

      go : Test (p j) → (k ∈ among p l → (k ∈ l) × (p k ≡ true)) → (k ∈ (j ∷ l)) × (p k ≡ true)
      go (pass e) ih = here e ih (rw (among-pass j l e) at m)
      go (fail e) ih = let n = ih (rw (among-fail j l e) at m) in (inr n.0, n.1)

module _ (f : ℕ → ℕ) where
  pub mem-put : (j k : ℕ) (l : List ℕ) → j ∈ put f k l → (j ≡ k) ⊎ (j ∈ l)
  unfolding put
  mem-put j k [] m = m
  mem-put j k (i ∷ l) m = go (tri (f k) (f i)) (mem-put j k l)
    where
      after : (j ≡ k) ⊎ (j ∈ l) → (j ≡ k) ⊎ (j ∈ (i ∷ l))
      after (inl e) = inl e
      after (inr n) = inr (inr n)

      later : (j ∈ put f k l → (j ≡ k) ⊎ (j ∈ l)) → j ∈ (i ∷ put f k l) → (j ≡ k) ⊎ (j ∈ (i ∷ l))
      later ih (inl e) = inr (inl e)
      later ih (inr n) = after (ih n)

      go : Tri (f k) (f i) → (j ∈ put f k l → (j ≡ k) ⊎ (j ∈ l)) → (j ≡ k) ⊎ (j ∈ (i ∷ l))
      go (less h) ih = rw (put-less f k i l h) at m
      go (same e) ih = inr (rw (put_same f k i l e) at m)
      go (more h) ih = later ih (rw (put-more f k i l h) at m)

  pub put_keeps : (j k : ℕ) (l : List ℕ) → j ∈ l → j ∈ put f k l
  put_keeps j k [] m = absurd m
  put_keeps j k (i ∷ l) m = go (tri (f k) (f i)) m (put_keeps j k l)
    where
      go : Tri (f k) (f i) → j ∈ (i ∷ l) → (j ∈ l → j ∈ put f k l) → j ∈ put f k (i ∷ l)
      go (less h) n ih = rw put-less (inr n)
      go (same e) n ih = rw put_same n
      go (more h) (inl e) ih = rw put-more (inl e)
      go (more h) (inr n) ih = rw put-more (inr (ih n))

  -- what is put in is there, where no other key has its measure
  pub put_there : (k : ℕ) (l : List ℕ) → Every (λ (j : ℕ). f k ≡ f j → k ≡ j) l → k ∈ put f k l
  put_there k [] a = rw put-nil (inl refl)
  put_there k (i ∷ l) a = go (tri (f k) (f i)) (put_there k l a.1)
    where
      go : Tri (f k) (f i) → k ∈ put f k l → k ∈ put f k (i ∷ l)
      go (less h) ih = rw put-less (inl refl)
      go (same e) ih = rw put_same (inl (a.0 e))
      go (more h) ih = rw put-more (inr ih)

  pub every-put : (P : ℕ → Type 0) (k : ℕ) (l : List ℕ) → P k → Every P l → Every P (put f k l)
  every-put P k [] a b = rw put-nil (a, tt)
  every-put P k (i ∷ l) a b = go (tri (f k) (f i)) (every-put P k l a b.1)
    where
      go : Tri (f k) (f i) → Every P (put f k l) → Every P (put f k (i ∷ l))
      go (less h) ih = rw put-less (a, b)
      go (same e) ih = rw put_same b
      go (more h) ih = rw put-more (b.0, ih)

  pub length-put : (k : ℕ) (l : List ℕ) → length (put f k l) ≤ suc (length l)
  length-put k [] = rw put-nil (omega arith)
  length-put k (i ∷ l) = go (tri (f k) (f i)) (length-put k l)
    where
      go : Tri (f k) (f i) → length (put f k l) ≤ suc (length l) → length (put f k (i ∷ l)) ≤ suc (suc (length l))
      go (less h) ih = rw put-less (omega arith)
      go (same e) ih = rw put_same (omega arith)
      go (more h) ih = rw put-more (omega arith)

  -- a new measure: one more
  pub length-put-new : (k : ℕ) (l : List ℕ) → Every (λ (j : ℕ). ¬ (f k ≡ f j)) l → length (put f k l) ≡ suc (length l)
  length-put-new k [] a = rw put-nil
  length-put-new k (i ∷ l) a = go (tri (f k) (f i)) (length-put-new k l a.1)
    where
      go : Tri (f k) (f i) → length (put f k l) ≡ suc (length l) → length (put f k (i ∷ l)) ≡ suc (suc (length l))
      go (less h) ih = rw put-less
      go (same e) ih = absurd (a.0 e)
      go (more h) ih = rw put-more (ap suc ih)

  -- lists that rise -----------------------------------------------------------------------------------------------------------

  pub rising-from : (a b : ℕ) (l : List ℕ) → a ≤ b → Rising f b l → Rising f a l
  rising-from a b [] h r = tt
  rising-from a b (i ∷ l) h r = (omega arith, r.1)

  pub rising-at : (b k : ℕ) (l : List ℕ) → Rising f b l → k ∈ l → b ≤ f k
  rising-at b k [] r m = absurd m
  rising-at b k (i ∷ l) r (inl e) = rw e r.0
  rising-at b k (i ∷ l) r (inr m) = let h : suc (f i) ≤ f k = rising-at (suc (f i)) k l r.1 m in omega (arith, r.0)

  pub rising-put : (b k : ℕ) (l : List ℕ) → b ≤ f k → Rising f b l → Rising f b (put f k l)
  rising-put b k [] h r = rw put-nil (h, tt)
  rising-put b k (i ∷ l) h r = go (tri (f k) (f i)) (λ g. rising-put (suc (f i)) k l g r.1)
    where
      go : Tri (f k) (f i) → (f i < f k → Rising f (suc (f i)) (put f k l)) → Rising f b (put f k (i ∷ l))
      go (less g) ih = rw put-less (h, (g, r.1))
      go (same e) ih = rw put_same r
      go (more g) ih = rw put-more (r.0, ih g)

  pub rising-take : (n b : ℕ) (l : List ℕ) → Rising f b l → Rising f b (take n l)
  rising-take zero b l r = tt
  rising-take (suc n) b [] r = tt
  rising-take (suc n) b (i ∷ l) r = (r.0, rising-take n (suc (f i)) l r.1)

  -- what is left out of the first n is farther than each of them
  pub beyond-take : (n b j k : ℕ) (l : List ℕ) → Rising f b l → j ∈ take n l → k ∈ l → ¬ (k ∈ take n l) → f j < f k
  beyond-take zero b j k l r m q out = absurd m
  beyond-take (suc n) b j k [] r m q out = absurd m
  beyond-take (suc n) b j k (i ∷ l) r m (inl d) out = absurd (out (inl d))
  beyond-take (suc n) b j k (i ∷ l) r (inl e) (inr q) out = rw e (rising-at (suc (f i)) k l r.1 q)
  beyond-take (suc n) b j k (i ∷ l) r (inr m) (inr q) out = beyond-take n (suc (f i)) j k l r.1 m q (λ t. out (inr t))

  pub last-in : (d : ℕ) (l : List ℕ) → 0 < length l → last_or d l ∈ l
  unfolding last_or
  last-in d [] h = absurd (omega arith)
  last-in d (j ∷ []) h = inl refl
  last-in d (j ∷ i ∷ l) h = inr (last-in j (i ∷ l) (omega arith))

  pub last-beyond : (n b d : ℕ) (l : List ℕ) → Rising f b l → n < length l → ¬ (last_or d l ∈ take n l)
  unfolding last_or
  last-beyond zero b d l r h m = m
  last-beyond (suc n) b d [] r h m = m
  last-beyond (suc n) b d (j ∷ l) r h (inl e) = absurd (omega (arith, rising-at (suc (f j)) (last_or j l) l r.1 (last-in j l (omega arith)), ap f e))
  last-beyond (suc n) b d (j ∷ l) r h (inr m) = last-beyond n (suc (f j)) j l r.1 (omega arith) m

  -- two rising lists with the same members are equal
  pub rising-ext : (a b : ℕ) (l m : List ℕ) → Rising f a l → Rising f b m → ((k : ℕ) → k ∈ l → k ∈ m) → ((k : ℕ) → k ∈ m → k ∈ l) → l ≡ m
  rising-ext a b [] [] r q to from = refl
  rising-ext a b [] (j ∷ m) r q to from = absurd (from j (inl refl))
  rising-ext a b (i ∷ l) [] r q to from = absurd (to i (inl refl))
  rising-ext a b (i ∷ l) (j ∷ m) r q to from =
      let e : i ≡ j = heads (to i (inl refl)) (from j (inl refl)) in
      ap (λ (t : ℕ). t ∷ l) e ∙ ap (λ (t : List ℕ). j ∷ t)
      (rising-ext (suc (f i)) (suc (f j)) l m r.1 q.1 (λ k t. right k t e (to k (inr t))) (λ k t. left k t e (from k (inr t))))
    where
      heads : i ∈ (j ∷ m) → j ∈ (i ∷ l) → i ≡ j
      heads (inl e) t = e
      heads (inr s) (inl e) = sym e
      heads (inr s) (inr t) = absurd (omega (arith, rising-at (suc (f j)) i m q.1 s, rising-at (suc (f i)) j l r.1 t))

      right : (k : ℕ) → k ∈ l → i ≡ j → k ∈ (j ∷ m) → k ∈ m
      right k t e (inl d) = absurd (omega (arith, rising-at (suc (f i)) k l r.1 t, ap f (d ∙ sym e)))
      right k t e (inr s) = s

      left : (k : ℕ) → k ∈ m → i ≡ j → k ∈ (i ∷ l) → k ∈ l
      left k t e (inl d) = absurd (omega (arith, rising-at (suc (f j)) k m q.1 t, ap f (d ∙ e)))
      left k t e (inr s) = s

-- the first so many of the keys that are as P says, in order of f: there is only one such list
pub only_list : (f : ℕ → ℕ) (P : ℕ → Type 0) (b c : ℕ) (l m : List ℕ)
    → ((x y : ℕ) → P x → P y → f x ≡ f y → x ≡ y)
    → Rising f b l → Rising f c m → length l ≡ length m
    → ((k : ℕ) → k ∈ l → P k) → ((k : ℕ) → k ∈ m → P k)
    → ((j k : ℕ) → j ∈ l → P k → ¬ (k ∈ l) → f j < f k)
    → ((j k : ℕ) → j ∈ m → P k → ¬ (k ∈ m) → f j < f k)
    → l ≡ m
only_list f P b c [] [] apart r q n sl sm cl cm = refl
only_list f P b c [] (j ∷ m) apart r q n sl sm cl cm = absurd (omega arith)
only_list f P b c (i ∷ l) [] apart r q n sl sm cl cm = absurd (omega arith)
only_list f P b c (i ∷ l) (j ∷ m) apart r q n sl sm cl cm =
    go (tri (f i) (f j))
    (λ e.
    only_list f (λ (k : ℕ). P k × (f i < f k)) (suc (f i)) (suc (f j)) l m (λ x y u v g. apart x y u.0 v.0 g) r.1 q.1 (omega arith)
    (λ k u. (sl k (inr u), rising-at f (suc (f i)) k l r.1 u))
    (λ k u. (sm k (inr u), omega (arith, rising-at f (suc (f j)) k m q.1 u)))
    (tail i i refl l cl)
    (tail i j e m cm))
  where
    not-before : (x y : ℕ) (t : List ℕ) → f x < f y → Rising f (suc (f y)) t → ¬ (x ∈ (y ∷ t))
    not-before x y t h s (inl e) = absurd (omega (arith, ap f e))
    not-before x y t h s (inr u) = absurd (omega (arith, rising-at f (suc (f y)) x t s u))

    tail : (x y : ℕ) → f x ≡ f y → (t : List ℕ) → ((a k : ℕ) → a ∈ (y ∷ t) → P k → ¬ (k ∈ (y ∷ t)) → f a < f k)
        → (a k : ℕ) → a ∈ t → P k × (f x < f k) → ¬ (k ∈ t) → f a < f k
    tail x y e t c a k u v out = c a k (inr u) v.0 (λ w. elim w [ inl d ↦ absurd (omega (arith, v.1, ap f d)) | inr w' ↦ out w' ])

    go : Tri (f i) (f j) → (f i ≡ f j → l ≡ m) → (i ∷ l) ≡ (j ∷ m)
    go (less h) ih = absurd (omega (arith, cm j i (inl refl) (sl i (inl refl)) (not-before i j m h q.1)))
    go (more h) ih = absurd (omega (arith, cl i j (inl refl) (sm j (inl refl)) (not-before j i l h r.1)))
    go (same e) ih =
        let d : i ≡ j = apart i j (sl i (inl refl)) (sm j (inl refl)) e in
        let t : l ≡ m = ih e in
        cc
