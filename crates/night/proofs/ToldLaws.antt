-- A record told whole. In this order: its number and night are the step's; by its tests; as the code has it. Assumes nothing.
use mathlib.Core.Path.{◌≡◌, refl, sym, ap, ap₂, ◌∙◌}
use mathlib.Core.Bool.{Bool, true, false, not, cond}
use mathlib.Core.List.{List, [], ◌∷◌}
use Prim.Native.Nat.{ℕ, ◌-◌, ◌≤◌, ◌<◌}
use native.Mathlib.Omega.{arith}
use lib.Dec.{eqb}
use lib.ListN.{length, take, drop, replicate, length-drop, length-replicate}
use lib.Seq.{take_all}
use borrow.Author.Tests.{eq-eqb, ne_eqb}
use Rattle.octet.specs.Part.{splice}
use Rattle.octet.proofs.PartLaws.{splice_whole}
use Rattle.refusal.specs.Table.{when, first_of, or_refuse}
use Rattle.refusal.proofs.TableLaws.{all_fail}
use Rattle.refusal.proofs.CallLaws.{all_pass, row_applies, row_passes, or_refuses, or_under}
use Rattle.gauge_plan.specs.Lent.{Call}
use Rattle.gauge_commit.specs.declared.Answer.{Answer}
use Rattle.gauge_commit.specs.Sending.{answer}
use Rattle.trace.specs.Trace.{kind_of, body_of, body_fits}
use Rattle.trace.specs.Fault.{faults}
use Rattle.night.specs.Step.{Night, night, Stepped, stepped, called, call_of, taken, step_of}
use Rattle.night.specs.Told.{Told, told, number_alone, called_told, taken_told, step_told}
use Rattle.night.specs.Statements.{ToldSame}
use Rattle.trace.proofs.FaultLaws.{in_order, good-record, fits_4}

-- ---- the same step

abbrev seen : Told → Stepped
seen t = stepped t.answer.number t.night

called_same : (n : Night) (c : Call) → seen (called_told n c) ≡ called n c
unfolding called called_told
called_same n c = refl

by_kind : (b : Bool) (o : Night) (x : Told) (y : Stepped) → seen x ≡ y → seen (cond b (number_alone 2464 0 o) x) ≡ cond b (stepped 0 o) y
by_kind true o x y e = refl
by_kind false o x y e = e

taken-same : (n : Night) (r : List ℕ) → seen (taken_told 2464 n r) ≡ taken n r
taken-same n r =
    by_kind (eqb (kind_of r) 4) (night (body_of r) n.memory) (called_told n (call_of n.opening (kind_of r) (body_of r)))
    (called n (call_of n.opening (kind_of r) (body_of r))) (called_same n (call_of n.opening (kind_of r) (body_of r)))

pub told_same : ToldSame
unfolding step_of step_told or_refuse
told_same at n r =
    or_under seen (λ (k : ℕ). number_alone 2464 k n)
    (when 1 (not (eqb (length n.opening) 102)) ∷ when 1 (not (eqb 2464 2464)) ∷ faults at r) (taken_told 2464 n r)
    ∙ ap (cond (not (eqb (length n.opening) 102)) (stepped 1 n))
    (row_passes (λ (k : ℕ). stepped k n) 1 _ (faults at r) _ (ap not (eq-eqb 2464 2464 refl))
    ∙ ap (or_refuse (λ (k : ℕ). stepped k n) (faults at r)) (taken-same n r))

-- ---- by its tests

module _ (at : ℕ) (n : Night) (r : List ℕ) (room : ℕ) where
  abbrev alone : ℕ → Told
  alone k = number_alone room k n

  told-unfit : (length n.opening ≡ 102 → ⊥) → step_told at n r room ≡ alone 1
  unfolding step_told
  told-unfit u = row_applies alone 1 _ _ (taken_told room n r) (ap not (ne_eqb _ _ u))

  module _ (fit : length n.opening ≡ 102) where
    told-cramped : (room ≡ 2464 → ⊥) → step_told at n r room ≡ alone 1
    unfolding step_told
    told-cramped u =
        row_passes alone 1 _ _ (taken_told room n r) (ap not (eq-eqb _ _ fit))
        ∙ row_applies alone 1 _ (faults at r) (taken_told room n r) (ap not (ne_eqb _ _ u))

    module _ (wide : room ≡ 2464) where
      passes : step_told at n r room ≡ or_refuse alone (faults at r) (taken_told room n r)
      unfolding step_told
      passes =
          row_passes alone 1 _ _ (taken_told room n r) (ap not (eq-eqb _ _ fit))
          ∙ row_passes alone 1 _ (faults at r) (taken_told room n r) (ap not (eq-eqb _ _ wide))

      told-bad : 0 < first_of (faults at r) → step_told at n r room ≡ alone (first_of (faults at r))
      told-bad p = passes ∙ or_refuses alone (faults at r) (taken_told room n r) p

      module _ (clean : first_of (faults at r) ≡ 0) where
        told-good : step_told at n r room ≡ taken_told room n r
        told-good = passes ∙ all_pass alone (faults at r) (taken_told room n r) (all_fail _ (faults at r) 16 (in_order at r) clean)

        told-opens : kind_of r ≡ 4 → step_told at n r room ≡ number_alone room 0 (night (body_of r) n.memory)
        told-opens e = told-good ∙ simp (eq-eqb _ _ e) refl

        told-calls : (kind_of r ≡ 4 → ⊥) → step_told at n r room ≡ called_told n (call_of n.opening (kind_of r) (body_of r))
        told-calls u = told-good ∙ simp (ne_eqb _ _ u) refl

-- ---- as the code has it

-- the part that is handed on is the body, of its kind's length
module _ (at : ℕ) (r : List ℕ) (clean : first_of (faults at r) ≡ 0) where
  body_is : take (length r - 4) (drop 4 r) ≡ body_of r
  body_is = take_all (length r - 4) (drop 4 r) (omega (arith, length-drop 4 r))

  module _ (kind : ℕ) (known : kind ≡ kind_of r) where
    pub body-fits : body_fits kind (length (take (length r - 4) (drop 4 r))) ≡ true
    body-fits = rw (known, body_is) (good-record at r clean).1

    pub opening-length : kind ≡ 4 → length (take (length r - 4) (drop 4 r)) ≡ 102
    opening-length e = fits_4 kind (length (take (length r - 4) (drop 4 r))) e body-fits

-- an output that was cleared, with the number alone or for a call
module _ (lent out : List ℕ) (cleared : out ≡ splice 0 (replicate (length lent) 0) lent) where
  zeros : out ≡ replicate (length lent) 0
  zeros = cleared ∙ splice_whole (replicate (length lent) 0) lent (length-replicate {A = ℕ} (length lent) 0)

  pub zeros-enough : length lent ≡ 2464 → out ≡ replicate 2464 0
  zeros-enough wide = zeros ∙ ap (λ (k : ℕ). replicate k 0) wide

  module _ (at : ℕ) (n : Night) (r : List ℕ) (a : Answer) where
    said : (k : ℕ) (left : Night) → a ≡ answer k 0 0 → told a left out ≡ number_alone (length lent) k left
    said k left e = ap₂ (λ (x : Answer) (o : List ℕ). told x left o) e zeros

    pub refuses-state : a ≡ answer 1 0 0 → (length n.opening ≡ 102 → ⊥) → told a n out ≡ step_told at n r (length lent)
    refuses-state e u = said 1 n e ∙ sym (told-unfit at n r (length lent) u)

    module _ (fit : length n.opening ≡ 102) where
      pub refuses-output : a ≡ answer 1 0 0 → (length lent ≡ 2464 → ⊥) → told a n out ≡ step_told at n r (length lent)
      refuses-output e u = said 1 n e ∙ sym (told-cramped at n r (length lent) fit u)

      module _ (wide : length lent ≡ 2464) where
        pub refuses-record : (k : ℕ) → a ≡ answer k 0 0 → k ≡ first_of (faults at r) → (k ≡ 0 → ⊥) → told a n out ≡ step_told at n r (length lent)
        refuses-record k e f u =
            said k n e ∙ ap (λ (j : ℕ). number_alone (length lent) j n) f ∙ sym (told-bad at n r (length lent) fit wide (omega (arith, f, u)))

        module _ (clean : first_of (faults at r) ≡ 0) (kind : ℕ) (known : kind ≡ kind_of r) where
          pub opens : a ≡ answer 0 0 0 → kind ≡ 4 → (left : Night) → left ≡ night (take (length r - 4) (drop 4 r)) n.memory
              → told a left out ≡ step_told at n r (length lent)
          opens e four left w =
              said 0 left e ∙ ap (number_alone (length lent) 0) (w ∙ ap (λ (o : List ℕ). night o n.memory) (body_is at r clean))
              ∙ sym (told-opens at n r (length lent) fit wide clean (sym known ∙ four))

-- a call
module _ (at : ℕ) (n : Night) (r : List ℕ) (room : ℕ) (fit : length n.opening ≡ 102) (wide : room ≡ 2464)
    (clean : first_of (faults at r) ≡ 0) (kind : ℕ) (known : kind ≡ kind_of r) where
  pub makes : (kind ≡ 4 → ⊥) → (t : Told) → t ≡ called_told n (call_of n.opening kind (take (length r - 4) (drop 4 r))) → t ≡ step_told at n r room
  makes u t e =
      (e ∙ ap₂ (λ (k : ℕ) (b : List ℕ). called_told n (call_of n.opening k b)) known (body_is at r clean))
      ∙ sym (told-calls at n r room fit wide clean (λ q. u (known ∙ q)))

-- the step, with an output of its own
pub step_is : (at : ℕ) (n : Night) (r : List ℕ) (a : Answer) (left : Night) (out : List ℕ) {room : ℕ} → room ≡ 2464 → told a left out ≡ step_told at n r room
    → stepped a.number left ≡ step_of at n r
step_is at n r a left out wide e = ap seen e ∙ ap (λ (k : ℕ). seen (step_told at n r k)) wide ∙ told_same at n r
