-- What bytes are read as, by the tests of the code. In this order: refused for the length; by the kind; of kind 1, and 2. Assumes nothing.
use mathlib.Core.Path.{◌≡◌, refl}
use mathlib.Core.List.{List}
use Prim.Native.Nat.{ℕ, ◌+◌, ◌≤◌, ◌<◌}
use lib.ListN.{length}
use borrow.Author.Tests.{eq-eqb, ne_eqb, lt-ltb, le-ltb}
use Rattle.std.specs.Prelude.{Ok, Err}
use Rattle.refusal.specs.Table.{or_refuse}
use Rattle.readings.specs.Reading.{fault_of}
use Rattle.readings.specs.Unpack.{number_at, told_in, kind_in, length_fits, unpack_refusals, reading_in, unpack_of}
use Rattle.readings.specs.Numbers.{depth_reading}
use Rattle.readings.specs.Kinds.{depth_in, fault_in}

module _ (s : List ℕ) where
  pub unpack-short : length s < 4 → Err 1 ≡ unpack_of s
  unfolding unpack_of unpack_refusals or_refuse
  unpack-short h = simp (lt-ltb _ _ h) refl

  pub unpack-cut : 4 ≤ length s → (length s ≡ 2 + told_in s → ⊥) → Err 1 ≡ unpack_of s
  unfolding unpack_of unpack_refusals or_refuse
  unpack-cut h n = simp (le-ltb _ _ h, ne_eqb _ _ n) refl

  module _ (kinded : 4 ≤ length s) (whole : length s ≡ 2 + told_in s) where
    pub unpack-depth : kind_in s ≡ 1 → depth_in s ≡ unpack_of s
    unfolding unpack_of unpack_refusals or_refuse length_fits reading_in depth_in depth_reading
    unpack-depth k = simp (le-ltb _ _ kinded, eq-eqb _ _ whole, k) refl

    pub unpack-fault : kind_in s ≡ 2 → fault_in s ≡ unpack_of s
    unfolding unpack_of unpack_refusals or_refuse length_fits reading_in fault_in
    unpack-fault k = simp (le-ltb _ _ kinded, eq-eqb _ _ whole, k) refl

    pub unpack-unknown : (kind_in s ≡ 1 → ⊥) → (kind_in s ≡ 2 → ⊥) → Err 2 ≡ unpack_of s
    unfolding unpack_of unpack_refusals or_refuse length_fits
    unpack-unknown a b = simp (le-ltb _ _ kinded, eq-eqb _ _ whole, ne_eqb _ _ a, ne_eqb _ _ b) refl

  pub depth-length : (length s ≡ 16 → ⊥) → Err 1 ≡ depth_in s
  unfolding depth_in or_refuse
  depth-length n = simp (ne_eqb _ _ n) refl

  pub depth-whole : length s ≡ 16 → depth_reading (number_at 4 4 s) (number_at 8 4 s) (number_at 12 4 s) ≡ depth_in s
  unfolding depth_in or_refuse
  depth-whole l = simp (eq-eqb _ _ l) refl

  pub fault-length : (length s ≡ 14 → ⊥) → Err 1 ≡ fault_in s
  unfolding fault_in or_refuse
  fault-length n = simp (ne_eqb _ _ n) refl

  pub fault-whole : length s ≡ 14 → Ok (fault_of (number_at 4 2 s) (number_at 6 4 s) (number_at 10 4 s)) ≡ fault_in s
  unfolding fault_in or_refuse
  fault-whole l = simp (eq-eqb _ _ l) refl
