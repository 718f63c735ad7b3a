-- A reading from plain numbers. In this order: a depth; by the kind; there and back. Assumes nothing.
use mathlib.Core.Path.{◌≡◌, refl, sym, ◌∙◌}
use mathlib.Core.Bool.{Bool, true, false, not, cond}
use Prim.Native.Nat.{ℕ, ◌≤◌, ◌<◌}
use native.Mathlib.Omega.{arith}
use lib.Ieee.{Float, binary32, of_bits, to_bits}
use lib.Ieee.Bits.{of_bits-to_bits}
use borrow.Author.Tests.{ne_eqb, lt-ltb, le-ltb}
use Rattle.std.specs.Prelude.{Some, None, Result, Ok, Err}
use Rattle.refusal.specs.Table.{or_refuse}
use Rattle.readings.specs.Depth.{allowed, metres_of}
use Rattle.readings.specs.Reading.{reading, depth_of, fault_of, kind_of, measure_of, fine, MeasuredFits}
use Rattle.readings.specs.Numbers.{number_refusals, reading_of, depth_reading}
use Rattle.readings.specs.Statements.{NumbersBack}
use Rattle.readings.specs.declared.Measured.{Measured}
use Rattle.readings.specs.declared.Measured.TheVariants.{Depth, Fault}
use Rattle.readings.specs.declared.Reading.{Reading}

module _ (bits i o : ℕ) where
  outside-by : (b : Bool) (d : Float) → cond b (Some d) None ≡ None
      → ◌≡◌ {A = Result Reading ℕ} (Err 3) (cond (not b) (Err 3) (Ok (depth_of d i o)))
  outside-by true d e = let z : ◌≡◌ {A = ℕ} 0 1 = cc in absurd (omega arith)
  outside-by false d e = refl

  within_by : (b : Bool) (d x : Float) → cond b (Some d) None ≡ Some x
      → ◌≡◌ {A = Result Reading ℕ} (Ok (depth_of x i o)) (cond (not b) (Err 3) (Ok (depth_of d i o)))
  within_by true d x e = cc
  within_by false d x e = let z : ◌≡◌ {A = ℕ} 0 1 = cc in absurd (omega arith)

  pub depth-outside : metres_of bits ≡ None → Err 3 ≡ depth_reading bits i o
  unfolding metres_of depth_reading or_refuse
  depth-outside e = outside-by (allowed (of_bits binary32 bits)) (of_bits binary32 bits) e

  pub depth-within : (d : Float) → metres_of bits ≡ Some d → Ok (depth_of d i o) ≡ depth_reading bits i o
  unfolding metres_of depth_reading or_refuse
  depth-within d e = within_by (allowed (of_bits binary32 bits)) (of_bits binary32 bits) d e

module _ (kind measure i o : ℕ) where
  pub number-depth : kind ≡ 1 → depth_reading measure i o ≡ reading_of kind measure i o
  unfolding reading_of number_refusals depth_reading or_refuse
  number-depth k = simp k refl

  pub number-unknown : (kind ≡ 1 → ⊥) → (kind ≡ 2 → ⊥) → Err 2 ≡ reading_of kind measure i o
  unfolding reading_of number_refusals or_refuse
  number-unknown a b = simp (ne_eqb _ _ a, ne_eqb _ _ b) refl

  pub number-large : kind ≡ 2 → 65535 < measure → Err 1 ≡ reading_of kind measure i o
  unfolding reading_of number_refusals or_refuse
  number-large k h = simp (k, lt-ltb _ _ h) refl

  pub number-fault : kind ≡ 2 → measure ≤ 65535 → Ok (fault_of measure i o) ≡ reading_of kind measure i o
  unfolding reading_of number_refusals or_refuse
  number-fault k h = simp (k, le-ltb _ _ h) refl

-- ---- there and back

module _ (i o : ℕ) where
  again : (m : Measured) → MeasuredFits m → fine m ≡ true → reading_of (kind_of m) (measure_of m) i o ≡ Ok (reading m i o)
  unfolding depth_reading or_refuse
  again (Depth d) t good = sym (number-depth 1 (to_bits binary32 d) i o refl) ∙ simp (of_bits-to_bits binary32 d t, good) refl
  again (Fault n) t good = sym (number-fault 2 n i o refl (omega (arith, t)))

pub numbers_back : NumbersBack
numbers_back r t good = again r.inflow r.outflow r.measured t.0 good
