-- Laws of the rows that stand against a place to open: the number by the tests that the code makes; what follows these rows in a plan. Assumes nothing.
use mathlib.Core.Path.{◌≡◌, refl, sym, subst, ◌∙◌}
use mathlib.Core.Bool.{Bool, true, false, ◌&&◌}
use mathlib.Core.List.{List, ◌++◌}
use Prim.Native.Nat.{ℕ, ◌<◌}
use native.Mathlib.Omega.{arith}
use borrow.Author.Tests.{eq-eqb, ne_eqb}
use Rattle.refusal.specs.Table.{Refusal, first_of, or_refuse, by_number}
use Rattle.refusal.proofs.TableLaws.{AllFail, all_fail}
use Rattle.refusal.proofs.CallLaws.{or_refuses, or_append, all_pass}
use Rattle.table.specs.Rows.{any_of}
use Rattle.waiting.specs.Seek.{has_id}
use Rattle.gauge_plan.specs.Opening.{open_rows}

-- ---- the number by the tests that the code makes

module _ (ps : List (List ℕ)) (used id : ℕ) where
  pub open_none : (opens : Bool) → opens ≡ false → first_of (open_rows opens ps used id) ≡ 0
  unfolding first_of
  open_none opens e = rw e refl

  module _ (opens : Bool) (must : opens ≡ true) where
    pub open-waits : any_of (has_id id) ps ≡ true → first_of (open_rows opens ps used id) ≡ 13
    unfolding first_of
    open-waits e = rw (must, e) refl

    module _ (new : any_of (has_id id) ps ≡ false) where
      pub open_full : used ≡ 16 → first_of (open_rows opens ps used id) ≡ 14
      unfolding first_of
      open_full e = rw (must, new, eq-eqb used 16 e) refl

      pub open_free : (used ≡ 16 → ⊥) → first_of (open_rows opens ps used id) ≡ 0
      unfolding first_of
      open_free e = rw (must, new, ne_eqb used 16 e) refl

-- ---- what follows these rows

module _ {A : Type 0} (refuse : ℕ → A) (opens : Bool) (ps : List (List ℕ)) (used id : ℕ) (rest : List Refusal) (done : A)
    {n : ℕ} (is : n ≡ first_of (open_rows opens ps used id)) where
  pub open-refuses : 0 < n → or_refuse refuse (open_rows opens ps used id ++ rest) done ≡ refuse n
  open-refuses p =
      or_append refuse (open_rows opens ps used id) rest done
      ∙ or_refuses refuse (open_rows opens ps used id) _ (omega (arith, is))
      ∙ subst (λ (k : ℕ). refuse k ≡ refuse n) is refl

  pub open-passes : n ≡ 0 → or_refuse refuse (open_rows opens ps used id ++ rest) done ≡ or_refuse refuse rest done
  open-passes z =
      let rows = open_rows opens ps used id in
      let fails : AllFail rows = all_fail by_number rows 0 (omega arith, omega arith, (omega arith, omega arith, tt)) (sym is ∙ z) in
      or_append refuse rows rest done ∙ all_pass refuse rows (or_refuse refuse rest done) fails

-- of a row that fails where a place must be opened
pub second_fails : (a b : Bool) → a && b ≡ false → a ≡ true → b ≡ false
second_fails true b e h = e
second_fails false b e h = let z : ◌≡◌ {A = ℕ} 0 1 = cc in absurd (omega arith)
