-- The list rises by its keys, from whatever the records of both caches rise from. Assumes nothing.
use mathlib.Core.Path.{◌≡◌, refl, sym, ap, ap₂, ◌∙◌}
use mathlib.Core.Logic.{inl, inr}
use mathlib.Core.List.{List, [], ◌∷◌, map}
use Prim.Native.Nat.{ℕ, suc, ◌≤◌}
use native.Mathlib.Omega.{arith}
use Rattle.record.specs.Record.{key_of}
use Rattle.kept.specs.Keys.{◌∈◌, Rising, plain}
use Rattle.kept.proofs.ListLaws.{rising-from}
use Rattle.cache.specs.Form.{keys_of}
use Rattle.changed.specs.Changes.{Change, gone, new, other, key_in}
use Rattle.changed.proofs.StepLaws.{Above}

abbrev pub Rises : List (List ℕ) → List (List ℕ) → List Change → Type 0
Rises a b l = (low : ℕ) → Rising plain low (keys_of a) → Rising plain low (keys_of b) → Rising plain low (map key_in l)

pub rises_gone : (p : List ℕ) (a b : List (List ℕ)) (l : List Change) → Above (key_of p) a → Above (key_of p) b → Rises a b l → Rises (p ∷ a) b (gone (key_of p) ∷ l)
rises_gone p a b l ra rb r low sa sb = (sa.0, r (suc (key_of p)) ra rb)

pub rises_new : (q : List ℕ) (a b : List (List ℕ)) (l : List Change) → Above (key_of q) a → Above (key_of q) b → Rises a b l → Rises a (q ∷ b) (new q ∷ l)
rises_new q a b l ra rb r low sa sb = (sb.0, r (suc (key_of q)) ra rb)

pub rises-same : (p : List ℕ) (a b : List (List ℕ)) (l : List Change) → Above (key_of p) a → Above (key_of p) b → Rises a b l → Rises (p ∷ a) (p ∷ b) l
rises-same p a b l ra rb r low sa sb = rising-from plain low (suc (key_of p)) (map key_in l) (omega (arith, sa.0)) (r (suc (key_of p)) ra rb)

pub rises_other : (p q : List ℕ) (a b : List (List ℕ)) (l : List Change) → Above (key_of q) a → Above (key_of q) b → Rises a b l → Rises (p ∷ a) (q ∷ b) (other q ∷ l)
rises_other p q a b l ra rb r low sa sb = (sb.0, r (suc (key_of q)) ra rb)

-- ---- two lists that rise by a measure and have the same members are equal

module _ {A : Type 0} (f : A → ℕ) where
  rise-at : (b : ℕ) (x : A) (xs : List A) → Rising plain b (map f xs) → x ∈ xs → b ≤ f x
  rise-at b x [] r m = absurd m
  rise-at b x (y ∷ xs) r (inl e) = let q = ap f e in omega (arith, r.0)
  rise-at b x (y ∷ xs) r (inr m) = let h : suc (f y) ≤ f x = rise-at (suc (f y)) x xs r.1 m in omega (arith, r.0)

  pub rise-ext : (a b : ℕ) (l m : List A) → Rising plain a (map f l) → Rising plain b (map f m)
      → ((k : A) → k ∈ l → k ∈ m) → ((k : A) → k ∈ m → k ∈ l) → l ≡ m
  rise-ext a b [] [] r q to from = refl
  rise-ext a b [] (j ∷ m) r q to from = absurd (from j (inl refl))
  rise-ext a b (i ∷ l) [] r q to from = absurd (to i (inl refl))
  rise-ext a b (i ∷ l) (j ∷ m) r q to from =
      let e : i ≡ j = heads (to i (inl refl)) (from j (inl refl)) in
      ap₂ (λ (x : A) (t : List A). x ∷ t) e
      (rise-ext (suc (f i)) (suc (f j)) l m r.1 q.1 (λ k t. right k t e (to k (inr t))) (λ k t. left k t e (from k (inr t))))
    where
      heads : i ∈ (j ∷ m) → j ∈ (i ∷ l) → i ≡ j
      heads (inl e) t = e
      heads (inr s) (inl e) = sym e
      heads (inr s) (inr t) = absurd (omega (arith, rise-at (suc (f j)) i m q.1 s, rise-at (suc (f i)) j l r.1 t))

      right : (k : A) → k ∈ l → i ≡ j → k ∈ (j ∷ m) → k ∈ m
      right k t e (inl d) = absurd (omega (arith, rise-at (suc (f i)) k l r.1 t, ap f (d ∙ sym e)))
      right k t e (inr s) = s

      left : (k : A) → k ∈ m → i ≡ j → k ∈ (i ∷ l) → k ∈ l
      left k t e (inl d) = absurd (omega (arith, rise-at (suc (f j)) k m q.1 t, ap f (d ∙ e)))
      left k t e (inr s) = s
