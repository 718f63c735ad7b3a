-- What a record does. In this order: a step, by its tests; a record taken, by its kind. Assumes nothing.
use mathlib.Core.Path.{◌≡◌, refl, ap, ◌∙◌}
use mathlib.Core.Bool.{not}
use mathlib.Core.List.{List}
use Prim.Native.Nat.{ℕ, ◌<◌}
use lib.ListN.{length}
use borrow.Author.Tests.{eq-eqb, ne_eqb}
use Rattle.refusal.specs.Table.{first_of, or_refuse}
use Rattle.refusal.proofs.TableLaws.{all_fail}
use Rattle.refusal.proofs.CallLaws.{all_pass, row_passes, or_refuses}
use Rattle.trace.specs.Trace.{kind_of, body_of}
use Rattle.trace.specs.Fault.{faults}
use Rattle.night.specs.Step.{Night, night, stepped, called, call_of, taken, step_of}
use Rattle.trace.proofs.FaultLaws.{in_order}

-- ---- a step

module _ (at : ℕ) (n : Night) (r : List ℕ) where
  module _ (fit : length n.opening ≡ 102) where
    passes : step_of at n r ≡ or_refuse (λ (k : ℕ). stepped k n) (faults at r) (taken n r)
    unfolding step_of
    passes = row_passes (λ (k : ℕ). stepped k n) 1 _ (faults at r) (taken n r) (ap not (eq-eqb _ _ fit))

    pub step-bad : 0 < first_of (faults at r) → step_of at n r ≡ stepped (first_of (faults at r)) n
    step-bad p = passes ∙ or_refuses (λ (k : ℕ). stepped k n) (faults at r) (taken n r) p

    pub step-good : first_of (faults at r) ≡ 0 → step_of at n r ≡ taken n r
    step-good e = passes ∙ all_pass (λ (k : ℕ). stepped k n) (faults at r) (taken n r) (all_fail _ (faults at r) 16 (in_order at r) e)

  -- ---- taken

  pub taken-opens : kind_of r ≡ 4 → taken n r ≡ stepped 0 (night (body_of r) n.memory)
  taken-opens e = simp (eq-eqb _ _ e) refl

  pub taken-calls : (kind_of r ≡ 4 → ⊥) → taken n r ≡ called n (call_of n.opening (kind_of r) (body_of r))
  taken-calls u = simp (ne_eqb _ _ u) refl
