-- How many keys begin with a byte: in a list with one key more, and with one less. Assumes nothing.
use mathlib.Core.Path.{◌≡◌, refl, sym, ap, subst, ◌∙◌}
use mathlib.Core.Logic.{◌⊎◌, inl, inr}
use mathlib.Core.Bool.{cond}
use mathlib.Core.List.{List, [], ◌∷◌, ◌++◌}
use Prim.Native.Nat.{ℕ, ◌+◌, ◌≤◌}
use native.Mathlib.Omega.{arith}
use lib.Dec.{eqb}
use lib.ListN.{length}
use borrow.Author.Tests.{eq-eqb, ne_eqb}
use Rattle.kept.specs.Keys.{◌∈◌, Rising, plain, put, without, among}
use Rattle.kept.proofs.PutLaws.{Tri, less, same, more, tri, put-nil, put-less, put-more}
use Rattle.kept.proofs.WithoutLaws.{eq_or, without_this, without_other, put-without}
use Rattle.firsts.specs.Firsts.{first_byte, count}

-- of one key
one : ℕ → ℕ → ℕ
one b k = cond (eqb (first_byte k) b) 1 0

module _ (b : ℕ) where
  count-cons : (k : ℕ) (l : List ℕ) → count b (k ∷ l) ≡ one b k + count b l
  unfolding count one among
  count-cons k l = go (eq_or (first_byte k) b)
    where
      go : (first_byte k ≡ b) ⊎ (¬ (first_byte k ≡ b)) → count b (k ∷ l) ≡ one b k + count b l
      go (inl e) = rw (eq-eqb (first_byte k) b e) (omega arith)
      go (inr h) = rw (ne_eqb (first_byte k) b h) (omega arith)

  one-few : (k : ℕ) → one b k ≤ 1
  unfolding one
  one-few k = go (eq_or (first_byte k) b)
    where
      go : (first_byte k ≡ b) ⊎ (¬ (first_byte k ≡ b)) → one b k ≤ 1
      go (inl e) = rw (eq-eqb (first_byte k) b e) (omega arith)
      go (inr h) = rw (ne_eqb (first_byte k) b h) (omega arith)

  count-nil : count b [] ≡ 0
  unfolding count among
  count-nil = refl

  pub count-few : (l : List ℕ) → count b l ≤ length l
  count-few [] = omega (arith, count-nil)
  count-few (k ∷ l) = omega (arith, count-cons k l, one-few k, count-few l)

  count-put : (k : ℕ) (l : List ℕ) → ¬ (k ∈ l) → count b (put plain k l) ≡ one b k + count b l
  count-put k [] out = ap (count b) (put-nil plain k) ∙ count-cons k []
  count-put k (j ∷ l) out = go (tri k j) (count-put k l (λ m. out (inr m)))
    where
      go : Tri k j → count b (put plain k l) ≡ one b k + count b l → count b (put plain k (j ∷ l)) ≡ one b k + count b (j ∷ l)
      go (less h) ih = ap (count b) (put-less plain k j l h) ∙ count-cons k (j ∷ l)
      go (same e) ih = absurd (out (inl e))
      go (more h) ih =
          let e : one b j + count b (put plain k l) ≡ one b k + count b (j ∷ l) = omega (arith, ih, count-cons j l) in
          ap (count b) (put-more plain k j l h) ∙ count-cons j (put plain k l) ∙ e

  count-snoc : (k : ℕ) (l : List ℕ) → count b (l ++ (k ∷ [])) ≡ one b k + count b l
  count-snoc k [] = count-cons k []
  count-snoc k (j ∷ l) =
      let e : one b j + count b (l ++ (k ∷ [])) ≡ one b k + count b (j ∷ l) = omega (arith, count-snoc k l, count-cons j l) in
      count-cons j (l ++ (k ∷ [])) ∙ e

-- ---- one key more: its byte's count is one more, each other is the same

pub record OneMore (b : ℕ) (l m : List ℕ) : Type 0 where
  pub here : count b m ≡ count b l + 1
  pub elsewhere : (i : ℕ) → ¬ (i ≡ b) → count i m ≡ count i l

module _ (k b : ℕ) (begins : first_byte k ≡ b) where
  one-here : one b k ≡ 1
  unfolding one
  one-here = rw (eq-eqb (first_byte k) b begins) refl

  one-else : (i : ℕ) → ¬ (i ≡ b) → one i k ≡ 0
  unfolding one
  one-else i h = rw (ne_eqb (first_byte k) i (λ e. h (sym e ∙ begins))) refl

  more_by : (l m : List ℕ) → ((i : ℕ) → count i m ≡ one i k + count i l) → OneMore b l m
  more_by l m e = record {
    here = omega (arith, e b, one-here);
    elsewhere = λ i h. omega (arith, e i, one-else i h);
  }

  pub more-put : (l : List ℕ) → ¬ (k ∈ l) → OneMore b l (put plain k l)
  more-put l out = more_by l (put plain k l) (λ i. count-put i k l out)

  pub more-snoc : (l : List ℕ) → OneMore b l (l ++ (k ∷ []))
  more-snoc l = more_by l (l ++ (k ∷ [])) (λ i. count-snoc i k l)

  absent : (l : List ℕ) → ¬ (k ∈ without k l)
  unfolding without
  absent [] m = m
  absent (j ∷ l) m = go (eq_or k j) (absent l)
    where
      nor : ¬ (k ≡ j) → ¬ (k ∈ without k l) → ¬ (k ∈ (j ∷ without k l))
      nor h ih (inl e) = h e
      nor h ih (inr n) = ih n

      go : (k ≡ j) ⊎ (¬ (k ≡ j)) → ¬ (k ∈ without k l) → ⊥
      go (inl e) ih = ih (subst (λ (t : List ℕ). k ∈ t) (without_this k j l e) m)
      go (inr h) ih = nor h ih (subst (λ (t : List ℕ). k ∈ t) (without_other k j l h) m)

  pub less-without : (low : ℕ) (l : List ℕ) → Rising plain low l → k ∈ l → OneMore b (without k l) l
  less-without low l r m =
      more_by (without k l) l (λ i. ap (count i) (sym (put-without low k l r m)) ∙ count-put i k (without k l) (absent l))
