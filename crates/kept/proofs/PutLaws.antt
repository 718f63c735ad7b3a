-- Laws of `put`, over the measure: it commutes, a second time it changes nothing, and a list's first n depend only on the first n before.
-- Assumes nothing.
use mathlib.Core.Path.{◌≡◌, refl, sym, ap}
use mathlib.Core.Logic.{inl, inr}
use mathlib.Core.Bool.{Bool, true, false}
use mathlib.Core.List.{List, [], ◌∷◌}
use Prim.Native.Nat.{ℕ, zero, suc, ◌≤◌, ◌<◌}
use native.Mathlib.Omega.{arith}
use lib.Dec.{ltb}
use lib.ListN.{take}
use lib.Seq.{take-take}
use borrow.Author.Tests.{ltb-true, ltb-false, lt-ltb, le-ltb}
use Rattle.kept.specs.Keys.{◌∈◌, Rising, put}

-- two numbers, compared
pub data Tri (a b : ℕ) : Type 0 where
  less : a < b → Tri a b
  same : a ≡ b → Tri a b
  more : b < a → Tri a b

pub tri : (a b : ℕ) → Tri a b
tri a b = go (ltb a b) refl (ltb b a) refl
  where
    go : (x : Bool) → ltb a b ≡ x → (y : Bool) → ltb b a ≡ y → Tri a b
    go true e y d = less (ltb-true a b e)
    go false e true d = more (ltb-true b a d)
    go false e false d = same (omega (arith, ltb-false a b e, ltb-false b a d))

module _ (f : ℕ → ℕ) where
  pub put-nil : (k : ℕ) → put f k [] ≡ k ∷ []
  unfolding put
  put-nil k = refl

  pub put-less : (k j : ℕ) (l : List ℕ) → f k < f j → put f k (j ∷ l) ≡ k ∷ j ∷ l
  unfolding put
  put-less k j l h = simp (lt-ltb (f k) (f j))

  pub put-more : (k j : ℕ) (l : List ℕ) → f j < f k → put f k (j ∷ l) ≡ j ∷ put f k l
  unfolding put
  put-more k j l h = let g : f j ≤ f k = omega arith in simp (le-ltb (f k) (f j), lt-ltb (f j) (f k))

  pub put_same : (k j : ℕ) (l : List ℕ) → f k ≡ f j → put f k (j ∷ l) ≡ j ∷ l
  unfolding put
  put_same k j l e =
      let g : f j ≤ f k = omega arith in let h : f k ≤ f j = omega arith in simp (le-ltb (f k) (f j), le-ltb (f j) (f k))

  pub put-twice : (k : ℕ) (l : List ℕ) → put f k (put f k l) ≡ put f k l
  put-twice k [] = rw put-nil (put_same k k [] refl)
  put-twice k (j ∷ l) = go (tri (f k) (f j)) (put-twice k l)
    where
      go : Tri (f k) (f j) → put f k (put f k l) ≡ put f k l → put f k (put f k (j ∷ l)) ≡ put f k (j ∷ l)
      go (less h) ih = let e : f k ≡ f k = refl in simp (put-less, put_same)
      go (same e) ih = simp put_same
      go (more h) ih = simp (put-more, ih)

  put-swap : (a b : ℕ) (l : List ℕ) → f a < f b → put f a (put f b l) ≡ put f b (put f a l)
  put-swap a b [] h = simp (put-nil, put-less, put-more)
  put-swap a b (y ∷ l) h = go (tri (f b) (f y)) (tri (f a) (f y)) (put-swap a b l h)
    where
      go : Tri (f b) (f y) → Tri (f a) (f y) → put f a (put f b l) ≡ put f b (put f a l) → put f a (put f b (y ∷ l)) ≡ put f b (put f a (y ∷ l))
      go (less u) v ih = let w : f a < f y = omega arith in simp (put-less, put-more)
      go (same u) v ih = let w : f a < f y = omega arith in simp (put_same b y l, put-less, put-more)
      go (more u) (less v) ih = simp (put-less, put-more)
      go (more u) (same v) ih = simp (put_same, put-more)
      go (more u) (more v) ih = simp (put-more, ih)

  pub put-comm : (a b : ℕ) (l : List ℕ) → (f a ≡ f b → a ≡ b) → put f a (put f b l) ≡ put f b (put f a l)
  put-comm a b l apart = go (tri (f a) (f b))
    where
      go : Tri (f a) (f b) → put f a (put f b l) ≡ put f b (put f a l)
      go (less h) = put-swap a b l h
      go (same e) = let d : a ≡ b = apart e in rw d
      go (more h) = sym (put-swap b a l h)

  -- the first n after k is put in go by the first n before
  pub take_put : (n k : ℕ) (l : List ℕ) → take n (put f k l) ≡ take n (put f k (take n l))
  take_put zero k l = refl
  take_put (suc n) k [] = refl
  take_put (suc n) k (j ∷ l) = go (tri (f k) (f j)) (take_put n k l)
    where
      shorter : n ≤ suc n
      shorter = omega arith

      go : Tri (f k) (f j) → take n (put f k l) ≡ take n (put f k (take n l)) → take (suc n) (put f k (j ∷ l)) ≡ take (suc n) (put f k (j ∷ take n l))
      go (less h) ih = simp put-less (ap (λ (t : List ℕ). k ∷ t) (sym (take-take n (suc n) (j ∷ l) shorter)))
      go (same e) ih = simp put_same (ap (λ (t : List ℕ). j ∷ t) (sym (take-take n n l (omega arith))))
      go (more h) ih = simp put-more (ap (λ (t : List ℕ). j ∷ t) ih)

  -- a key that is not among the first n after it is put in has not changed them
  pub take_beyond : (n k : ℕ) (l : List ℕ) → ¬ (k ∈ take n (put f k l)) → take n (put f k l) ≡ take n l
  take_beyond zero k l out = refl
  take_beyond (suc n) k [] out = absurd (rw put-nil at out (inl refl))
  take_beyond (suc n) k (j ∷ l) out = go (tri (f k) (f j)) (take_beyond n k l)
    where
      go : Tri (f k) (f j) → (¬ (k ∈ take n (put f k l)) → take n (put f k l) ≡ take n l) → take (suc n) (put f k (j ∷ l)) ≡ take (suc n) (j ∷ l)
      go (less h) ih = absurd ((rw (put-less k j l) at out) (inl refl))
      go (same e) ih = rw put_same
      go (more h) ih = rw put-more (ap (λ (t : List ℕ). j ∷ t) (ih (λ m. (rw (put-more k j l) at out) (inr m))))

  -- below all of the list, a key comes first
  pub put_front : (k : ℕ) (l : List ℕ) → Rising f (suc (f k)) l → put f k l ≡ k ∷ l
  put_front k [] r = put-nil k
  put_front k (j ∷ l) r = put-less k j l r.0
