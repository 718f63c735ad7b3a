-- Laws of places passed over: the first number at which a test fails, and a turn of the walk to it. Assumes nothing.
use mathlib.Core.Path.{◌≡◌, refl, sym, ap, ◌∙◌}
use mathlib.Core.Bool.{Bool, true, false, cond}
use Prim.Native.Nat.{ℕ, zero, suc, ◌+◌, ◌-◌, ◌≤◌, ◌<◌}
use native.Mathlib.Numerals.{add-one}
use native.Mathlib.Omega.{arith}
use lib.Dec.{eqb}
use borrow.Author.Tests.{eqb-true, eqb-false}
use Rattle.round.specs.Over.{pass_over}

module _ (f : ℕ → Bool) where
  pub over-le : (i n : ℕ) → pass_over f i n ≤ i + n
  unfolding pass_over
  over-le i zero = omega arith
  over-le i (suc n) = go (f i) (over-le (suc i) n)
    where
      go : (b : Bool) → pass_over f (suc i) n ≤ suc i + n → cond b (pass_over f (suc i) n) i ≤ i + suc n
      go true h = omega arith
      go false h = omega arith

  pub over-before : (i n j : ℕ) → i ≤ j → j < pass_over f i n → f j ≡ true
  unfolding pass_over
  over-before i zero j h l = absurd (omega arith)
  over-before i (suc n) j h l = go (f i) refl l (over-before (suc i) n j)
    where
      later : (i ≡ j → ⊥) → suc i ≤ j
      later d = omega arith

      go : (b : Bool) → f i ≡ b → j < cond b (pass_over f (suc i) n) i → (suc i ≤ j → j < pass_over f (suc i) n → f j ≡ true) → f j ≡ true
      go false e l ih = absurd (omega arith)
      go true e l ih = by (eqb i j) refl
        where
          by : (b : Bool) → eqb i j ≡ b → f j ≡ true
          by true d = ap f (sym (eqb-true i j d)) ∙ e
          by false d = ih (later (eqb-false i j d)) l

  pub over-at : (i n : ℕ) → pass_over f i n < i + n → f (pass_over f i n) ≡ false
  unfolding pass_over
  over-at i zero h = absurd (omega arith)
  over-at i (suc n) h = go (f i) refl h (over-at (suc i) n)
    where
      go : (b : Bool) → f i ≡ b → cond b (pass_over f (suc i) n) i < i + suc n → (pass_over f (suc i) n < suc i + n → f (pass_over f (suc i) n) ≡ false)
          → f (cond b (pass_over f (suc i) n) i) ≡ false
      go true e l ih = ih (omega arith)
      go false e l ih = e

  -- a turn of a walk over n of them, at number i
  module _ (n i : ℕ) where
    pub over-on : i < n → f i ≡ true → pass_over f i (n - i) ≡ pass_over f (i + 1) (n - (i + 1))
    unfolding pass_over
    over-on h e =
        let m : n - i ≡ suc (n - (i + 1)) = omega arith in
        ap (pass_over f i) m ∙ rw e (ap (λ (j : ℕ). pass_over f j (n - (i + 1))) (sym (add-one i)))

    pub over-here : i < n → f i ≡ false → pass_over f i (n - i) ≡ i
    unfolding pass_over
    over-here h e =
        let m : n - i ≡ suc (n - (i + 1)) = omega arith in
        ap (pass_over f i) m ∙ rw e refl

    pub over-end : n ≤ i → pass_over f i (n - i) ≡ i
    unfolding pass_over
    over-end h = let m : n - i ≡ 0 = omega arith in ap (pass_over f i) m
