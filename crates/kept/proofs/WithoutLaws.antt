-- Laws of `without`: a key taken out of a list, and put in again.
-- Assumes nothing.
use mathlib.Core.Path.{◌≡◌, refl, ◌∙◌, ap}
use mathlib.Core.Logic.{◌⊎◌, inl, inr}
use mathlib.Core.List.{List, [], ◌∷◌}
use Prim.Native.Nat.{ℕ, suc, ◌≤◌, ◌<◌}
use native.Mathlib.Omega.{arith}
use lib.ListN.{length}
use borrow.Author.Tests.{eq-eqb, ne_eqb}
use Rattle.kept.specs.Keys.{◌∈◌, Every, Rising, plain, put, without}
use Rattle.kept.proofs.PutLaws.{Tri, less, same, more, tri, put-more, put_front}
use Rattle.kept.proofs.ListLaws.{rising-at, rising-from}

pub without_other : (d j : ℕ) (l : List ℕ) → ¬ (d ≡ j) → without d (j ∷ l) ≡ j ∷ without d l
unfolding without
without_other d j l h = rw (ne_eqb d j h)

pub without_this : (d j : ℕ) (l : List ℕ) → d ≡ j → without d (j ∷ l) ≡ without d l
unfolding without
without_this d j l e = rw (eq-eqb d j e)

pub eq_or : (a b : ℕ) → (a ≡ b) ⊎ (¬ (a ≡ b))
eq_or a b = go (tri a b)
  where
    go : Tri a b → (a ≡ b) ⊎ (¬ (a ≡ b))
    go (less h) = inr (omega arith)
    go (same e) = inl e
    go (more h) = inr (omega arith)

pub without_absent : (d : ℕ) (l : List ℕ) → ¬ (d ∈ l) → without d l ≡ l
unfolding without
without_absent d [] out = refl
without_absent d (j ∷ l) out = without_other d j l (λ e. out (inl e)) ∙ ap (λ (t : List ℕ). j ∷ t) (without_absent d l (λ m. out (inr m)))

pub every_without : (P : ℕ → Type 0) (d : ℕ) (l : List ℕ) → Every P l → Every P (without d l)
unfolding without
every_without P d [] a = tt
every_without P d (j ∷ l) a = go (eq_or d j) (every_without P d l a.1)
  where
    go : (d ≡ j) ⊎ (¬ (d ≡ j)) → Every P (without d l) → Every P (without d (j ∷ l))
    go (inl e) ih = rw without_this ih
    go (inr h) ih = rw without_other (a.0, ih)

pub rising_without : (f : ℕ → ℕ) (b d : ℕ) (l : List ℕ) → Rising f b l → Rising f b (without d l)
unfolding without
rising_without f b d [] r = tt
rising_without f b d (j ∷ l) r = go (eq_or d j) (rising_without f (suc (f j)) d l r.1)
  where
    go : (d ≡ j) ⊎ (¬ (d ≡ j)) → Rising f (suc (f j)) (without d l) → Rising f b (without d (j ∷ l))
    go (inl e) ih = rw without_this (rising-from f b (suc (f j)) (without d l) (omega (arith, r.0)) ih)
    go (inr h) ih = rw without_other (r.0, ih)

pub length_without : (d : ℕ) (l : List ℕ) → length (without d l) ≤ length l
unfolding without
length_without d [] = omega arith
length_without d (j ∷ l) = go (eq_or d j) (length_without d l)
  where
    go : (d ≡ j) ⊎ (¬ (d ≡ j)) → length (without d l) ≤ length l → length (without d (j ∷ l)) ≤ suc (length l)
    go (inl e) ih = rw without_this (omega arith)
    go (inr h) ih = rw without_other (omega arith)

pub shorter_without : (d : ℕ) (l : List ℕ) → d ∈ l → length (without d l) < length l
shorter_without d [] m = absurd m
shorter_without d (j ∷ l) (inl e) = rw without_this (omega (arith, length_without d l))
shorter_without d (j ∷ l) (inr m) = go (eq_or d j) (shorter_without d l m)
  where
    go : (d ≡ j) ⊎ (¬ (d ≡ j)) → length (without d l) < length l → length (without d (j ∷ l)) < suc (length l)
    go (inl e) ih = rw without_this (omega arith)
    go (inr h) ih = rw without_other (omega arith)

-- a key taken out of a rising list and put in again
pub put-without : (b d : ℕ) (l : List ℕ) → Rising plain b l → d ∈ l → put plain d (without d l) ≡ l
put-without b d [] r m = absurd m
put-without b d (j ∷ l) r (inl e) =
    let out : ¬ (d ∈ l) = λ m. absurd (omega (arith, rising-at plain (suc j) d l r.1 m, e)) in
    rw (without_this d j l e, without_absent d l out) (put_front plain d l (rw (← e) at r.1) ∙ ap (λ (t : ℕ). t ∷ l) e)
put-without b d (j ∷ l) r (inr m) =
    let h : j < d = rising-at plain (suc j) d l r.1 m in
    let n : ¬ (d ≡ j) = omega arith in
    rw (without_other d j l n, put-more plain d j (without d l) h) (ap (λ (t : List ℕ). j ∷ t) (put-without (suc j) d l r.1 m))
