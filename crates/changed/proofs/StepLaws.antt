-- What stands first in the list, by how the first two keys stand; and what follows from it for every list of changes. Assumes nothing.
use mathlib.Core.Path.{◌≡◌, refl, sym, ◌∙◌, ap, subst}
use mathlib.Core.Bool.{true, false}
use mathlib.Core.List.{List, [], ◌∷◌}
use Prim.Native.Nat.{ℕ, suc, ◌<◌}
use native.Mathlib.Omega.{arith}
use borrow.Author.Tests.{lt-ltb, le-ltb}
use Rattle.octet.specs.Part as bytes
use Rattle.octet.proofs.TestLaws.{same-eq, same_refl}
use Rattle.record.specs.Record.{key_of}
use Rattle.kept.specs.Keys.{Rising, plain}
use Rattle.kept.proofs.PutLaws.{Tri, less, same, more, tri}
use Rattle.kept.proofs.ListLaws.{Test, pass, fail, test}
use Rattle.cache.specs.Form.{keys_of}
use Rattle.changed.specs.Changes.{Change, gone, new, other, changes}

module _ (p q : List ℕ) (a b : List (List ℕ)) where
  pub first-gone : key_of p < key_of q → changes (p ∷ a) (q ∷ b) ≡ gone (key_of p) ∷ changes a (q ∷ b)
  unfolding changes
  first-gone h = rw (lt-ltb (key_of p) (key_of q) h) refl

  pub first-new : key_of q < key_of p → changes (p ∷ a) (q ∷ b) ≡ new q ∷ changes (p ∷ a) b
  unfolding changes
  first-new h = rw (le-ltb (key_of p) (key_of q) (omega arith), lt-ltb (key_of q) (key_of p) h) refl

  pub first_same : key_of p ≡ key_of q → bytes.same p q ≡ true → changes (p ∷ a) (q ∷ b) ≡ changes a b
  unfolding changes
  first_same h e = rw (le-ltb (key_of p) (key_of q) (omega arith), le-ltb (key_of q) (key_of p) (omega arith), e) refl

  pub first-other : key_of p ≡ key_of q → bytes.same p q ≡ false → changes (p ∷ a) (q ∷ b) ≡ other q ∷ changes a b
  unfolding changes
  first-other h e = rw (le-ltb (key_of p) (key_of q) (omega arith), le-ltb (key_of q) (key_of p) (omega arith), e) refl

-- ---- by what stands first

not_same : (p q : List ℕ) → bytes.same p q ≡ false → ¬ (p ≡ q)
not_same p q t d =
    let e : bytes.same p q ≡ true = ap (bytes.same p) (sym d) ∙ same_refl p in
    let z : ◌≡◌ {A = ℕ} 0 1 = cc in
    absurd (omega arith)

-- records whose keys are above k
abbrev pub Above : ℕ → List (List ℕ) → Type 0
Above k a = Rising plain (suc k) (keys_of a)

-- what is kept from each rest to the whole is so of any records in order
module _
    (P : List (List ℕ) → List (List ℕ) → List Change → Type 0)
    (none : P [] [] [])
    (goes : (p : List ℕ) (a b : List (List ℕ)) (l : List Change) → Above (key_of p) a → Above (key_of p) b → P a b l → P (p ∷ a) b (gone (key_of p) ∷ l))
    (comes : (q : List ℕ) (a b : List (List ℕ)) (l : List Change) → Above (key_of q) a → Above (key_of q) b → P a b l → P a (q ∷ b) (new q ∷ l))
    (stays : (p : List ℕ) (a b : List (List ℕ)) (l : List Change) → Above (key_of p) a → Above (key_of p) b → P a b l → P (p ∷ a) (p ∷ b) l)
    (turns : (p q : List ℕ) (a b : List (List ℕ)) (l : List Change) → key_of p ≡ key_of q → ¬ (p ≡ q) → Above (key_of q) a → Above (key_of q) b → P a b l
    → P (p ∷ a) (q ∷ b) (other q ∷ l))
  where
    abbrev Known : List (List ℕ) → List (List ℕ) → Type 0
    Known a b = (low : ℕ) → Rising plain low (keys_of a) → Rising plain low (keys_of b) → P a b (changes a b)

    module _ (p q : List ℕ) (a b : List (List ℕ)) (low : ℕ) (ra : Rising plain low (keys_of (p ∷ a))) (rb : Rising plain low (keys_of (q ∷ b))) where
      one_key_lem : key_of p ≡ key_of q → Test (bytes.same p q) → Known a b → P (p ∷ a) (q ∷ b) (changes (p ∷ a) (q ∷ b))
      one_key_lem e (pass t) ih =
          let above : Above (key_of p) b = subst (λ (k : ℕ). Above k b) (sym e) rb.1 in
          rw (first_same p q a b e t)
          (subst (λ (x : List ℕ). P (p ∷ a) (x ∷ b) (changes a b)) (same-eq p q t) (stays p a b _ ra.1 above (ih (suc (key_of p)) ra.1 above)))
      one_key_lem e (fail t) ih =
          let above : Above (key_of q) a = subst (λ (k : ℕ). Above k a) e ra.1 in
          rw (first-other p q a b e t) (turns p q a b _ e (not_same p q t) above rb.1 (ih (suc (key_of q)) above rb.1))

      by_first : Tri (key_of p) (key_of q) → Known a (q ∷ b) → Known (p ∷ a) b → Known a b → P (p ∷ a) (q ∷ b) (changes (p ∷ a) (q ∷ b))
      by_first (less h) ih jh kh = rw (first-gone p q a b h) (goes p a (q ∷ b) _ ra.1 (h, rb.1) (ih (suc (key_of p)) ra.1 (h, rb.1)))
      by_first (more h) ih jh kh = rw (first-new p q a b h) (comes q (p ∷ a) b _ (h, ra.1) rb.1 (jh (suc (key_of q)) (h, ra.1) rb.1))
      by_first (same e) ih jh kh = one_key_lem e (test (bytes.same p q)) kh

    pub by_order : (a b : List (List ℕ)) → Known a b
    unfolding changes
    by_order [] [] low ra rb = none
    by_order [] (q ∷ b) low ra rb = comes q [] b _ tt rb.1 (by_order [] b (suc (key_of q)) tt rb.1)
    by_order (p ∷ a) [] low ra rb = goes p a [] _ ra.1 tt (by_order a [] (suc (key_of p)) ra.1 tt)
    by_order (p ∷ a) (q ∷ b) low ra rb = by_first p q a b low ra rb (tri (key_of p) (key_of q)) (by_order a (q ∷ b)) (by_order (p ∷ a) b) (by_order a b)
