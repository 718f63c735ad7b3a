-- What happens to the keys of a list of records is what the definitions on keys say; and a record held after learning is the one learned, or one that was
-- held and has another key.
-- Assumes nothing.
use mathlib.Core.Path.{◌≡◌, refl, sym, ◌∙◌, ap}
use mathlib.Core.Logic.{◌⊎◌, inl, inr}
use mathlib.Core.List.{List, [], ◌∷◌, map}
use Prim.Native.Nat.{ℕ, suc, ◌≤◌, ◌<◌}
use lib.Dec.{ltb, eqb}
use lib.ListN.{length, length-map}
use native.Mathlib.Omega.{arith}
use borrow.Author.Tests.{ltb-false, lt-ltb, le-ltb, eqb-false}
use Rattle.kept.specs.Keys.{◌∈◌, Rising, plain, put, without}
use Rattle.kept.specs.History.{learn_with, trimmed}
use Rattle.kept.specs.Records.{put_by, without_by, learn_by}
use Rattle.kept.proofs.PutLaws.{Tri, less, same, more, tri}
use Rattle.kept.proofs.ListLaws.{Test, pass, fail, test, rising-at}

module _ {A : Type 0} (key : A → ℕ) where
  pub keys-put : (r : A) (l : List A) → map key (put_by key r l) ≡ put plain (key r) (map key l)
  unfolding put put_by
  keys-put r [] = refl
  keys-put r (q ∷ l) = go (test (ltb (key r) (key q))) (test (ltb (key q) (key r))) (keys-put r l)
    where
      go : Test (ltb (key r) (key q)) → Test (ltb (key q) (key r)) → map key (put_by key r l) ≡ put plain (key r) (map key l)
          → map key (put_by key r (q ∷ l)) ≡ put plain (key r) (key q ∷ map key l)
      go (pass e) t ih = rw e
      go (fail e) (pass t) ih = rw (e, t) (ap (λ (x : List ℕ). key q ∷ x) ih)
      go (fail e) (fail t) ih =
          let d : key r ≡ key q = omega (arith, ltb-false (key r) (key q) e, ltb-false (key q) (key r) t) in
          rw (e, t) (ap (λ (x : ℕ). x ∷ map key l) d)

  pub keys-without : (k : ℕ) (l : List A) → map key (without_by key k l) ≡ without k (map key l)
  unfolding without without_by
  keys-without k [] = refl
  keys-without k (q ∷ l) = go (test (eqb k (key q))) (keys-without k l)
    where
      go : Test (eqb k (key q)) → map key (without_by key k l) ≡ without k (map key l) → map key (without_by key k (q ∷ l)) ≡ without k (key q ∷ map key l)
      go (pass e) ih = rw e ih
      go (fail e) ih = rw e (ap (λ (x : List ℕ). key q ∷ x) ih)

  pub keys-learn : (drops : List ℕ → ℕ) (C : ℕ) (l : List A) (r : A) → map key (learn_by key drops C l r) ≡ learn_with drops C (map key l) (key r)
  unfolding learn_with trimmed learn_by
  keys-learn drops C l r = go (test (ltb C (length (put_by key r l))))
    where
      more : map key (put_by key r l) ≡ put plain (key r) (map key l)
      more = keys-put r l

      size : length (put_by key r l) ≡ length (put plain (key r) (map key l))
      size = sym (length-map (put_by key r l) key) ∙ ap length more

      go : Test (ltb C (length (put_by key r l))) → map key (learn_by key drops C l r) ≡ learn_with drops C (map key l) (key r)
      go (pass e) = rw (e, (rw size at e)) (keys-without (drops (map key (put_by key r l))) (put_by key r l) ∙ rw more)
      go (fail e) = rw (e, (rw size at e)) more

  -- ---- which records are held then

  mem-keys : (q : A) (l : List A) → q ∈ l → key q ∈ map key l
  mem-keys q [] m = absurd m
  mem-keys q (x ∷ l) (inl e) = inl (ap key e)
  mem-keys q (x ∷ l) (inr m) = inr (mem-keys q l m)

  above-all : (b : ℕ) (q : A) (l : List A) → Rising plain b (map key l) → q ∈ l → b ≤ key q
  above-all b q l r m = rising-at plain b (key q) (map key l) r (mem-keys q l m)

  pub mem-put-by : (b : ℕ) (r q : A) (l : List A) → Rising plain b (map key l) → q ∈ put_by key r l → (q ≡ r) ⊎ ((q ∈ l) × (¬ (key q ≡ key r)))
  unfolding put_by
  mem-put-by b r q [] rise (inl e) = inl e
  mem-put-by b r q [] rise (inr m) = absurd m
  mem-put-by b r q (x ∷ l) rise m = go (tri (key r) (key x)) m (mem-put-by (suc (key x)) r q l rise.1)
    where
      front : key r < key x → q ∈ (r ∷ x ∷ l) → (q ≡ r) ⊎ ((q ∈ (x ∷ l)) × (¬ (key q ≡ key r)))
      front h (inl e) = inl e
      front h (inr n) = inr (n, λ e. absurd (omega (arith, above-all (key x) q (x ∷ l) (omega arith, rise.1) n, e)))

      here : key r ≡ key x → q ∈ (r ∷ l) → (q ≡ r) ⊎ ((q ∈ (x ∷ l)) × (¬ (key q ≡ key r)))
      here d (inl e) = inl e
      here d (inr n) = inr (inr n, λ e. absurd (omega (arith, above-all (suc (key x)) q l rise.1 n, e, d)))

      later : (q ≡ r) ⊎ ((q ∈ l) × (¬ (key q ≡ key r))) → (q ≡ r) ⊎ ((q ∈ (x ∷ l)) × (¬ (key q ≡ key r)))
      later (inl e) = inl e
      later (inr n) = inr (inr n.0, n.1)

      past : key x < key r → (q ∈ put_by key r l → (q ≡ r) ⊎ ((q ∈ l) × (¬ (key q ≡ key r)))) → q ∈ (x ∷ put_by key r l)
          → (q ≡ r) ⊎ ((q ∈ (x ∷ l)) × (¬ (key q ≡ key r)))
      past h ih (inl e) = inr (inl e, λ d. absurd (omega (arith, ap key e, d)))
      past h ih (inr n) = later (ih n)

      go : Tri (key r) (key x) → q ∈ put_by key r (x ∷ l) → (q ∈ put_by key r l → (q ≡ r) ⊎ ((q ∈ l) × (¬ (key q ≡ key r))))
          → (q ≡ r) ⊎ ((q ∈ (x ∷ l)) × (¬ (key q ≡ key r)))
      go (less h) n ih = front h (rw (lt-ltb (key r) (key x) h) at n)
      go (same d) n ih = here d (rw (le-ltb (key r) (key x) (omega arith), le-ltb (key x) (key r) (omega arith)) at n)
      go (more h) n ih = past h ih (rw (le-ltb (key r) (key x) (omega arith), lt-ltb (key x) (key r) h) at n)

  pub mem-without-by : (k : ℕ) (q : A) (l : List A) → q ∈ without_by key k l → (q ∈ l) × (¬ (k ≡ key q))
  unfolding without_by
  mem-without-by k q [] m = absurd m
  mem-without-by k q (x ∷ l) m = go (test (eqb k (key x))) m (mem-without-by k q l)
    where
      past : ¬ (k ≡ key x) → (q ∈ without_by key k l → (q ∈ l) × (¬ (k ≡ key q))) → q ∈ (x ∷ without_by key k l) → (q ∈ (x ∷ l)) × (¬ (k ≡ key q))
      past h ih (inl e) = (inl e, λ d. h (d ∙ ap key e))
      past h ih (inr n) = (inr (ih n).0, (ih n).1)

      go : Test (eqb k (key x)) → q ∈ without_by key k (x ∷ l) → (q ∈ without_by key k l → (q ∈ l) × (¬ (k ≡ key q))) → (q ∈ (x ∷ l)) × (¬ (k ≡ key q))
      go (pass e) n ih = let w = ih (rw e at n) in (inr w.0, w.1)
      go (fail e) n ih = past (eqb-false k (key x) e) ih (rw e at n)

  -- whatever is dropped: the record learned, or one held before that has another key
  pub mem-learn-by : (drops : List ℕ → ℕ) (C : ℕ) (r q : A) (l : List A) → Rising plain 0 (map key l) → q ∈ learn_by key drops C l r
      → (q ≡ r) ⊎ ((q ∈ l) × (¬ (key q ≡ key r)))
  unfolding learn_by
  mem-learn-by drops C r q l rise m = go (test (ltb C (length (put_by key r l)))) m
    where
      go : Test (ltb C (length (put_by key r l))) → q ∈ learn_by key drops C l r → (q ≡ r) ⊎ ((q ∈ l) × (¬ (key q ≡ key r)))
      go (pass e) n = mem-put-by 0 r q l rise (mem-without-by (drops (map key (put_by key r l))) q (put_by key r l) (rw e at n)).0
      go (fail e) n = mem-put-by 0 r q l rise (rw e at n)
