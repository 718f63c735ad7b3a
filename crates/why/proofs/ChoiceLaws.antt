-- What is known of the records of a choice: their lengths. Assumes nothing.
use mathlib.Core.Path.{◌≡◌, sym}
use mathlib.Core.Bool.{false}
use mathlib.Core.List.{List}
use Prim.Native.Nat.{ℕ, ◌*◌, ◌≤◌}
use native.Mathlib.Omega.{arith}
use lib.ListN.{length}
use Rattle.std.specs.Prelude.{Option, Some, None}
use Rattle.octet.proofs.PartLaws.{length_part}
use Rattle.reason.specs.declared.Reason.{Reason}
use Rattle.reason.specs.declared.Reason.TheVariants.{Only, Target, Tied, Nearest}
use Rattle.neighbours.specs.declared.nearest.Spot.{Spot}
use Rattle.neighbours.specs.declared.nearest.Spot.TheVariants.{Own, Held}
use Rattle.named.specs.Spots.{record_at, is_nowhere, Inside, Shows}
use Rattle.why.specs.Puts.{HasKey}

module _ (own cache : List ℕ) where
  pub record_long : (x : Option Spot) → Inside own cache x → is_nowhere x ≡ false → length (record_at own cache x) ≡ 100
  record_long None i e = let z : ◌≡◌ {A = ℕ} 0 1 = cc in absurd (omega arith)
  record_long (Some (Own n)) i e = length_part (100 * n) 100 own i
  record_long (Some (Held n)) i e = length_part (100 * n) 100 cache i

  pub has_key : (r : Reason) (x : Option Spot) → Inside own cache x → Shows r x → HasKey r (record_at own cache x)
  has_key Only x i s = tt
  has_key Target x i s = tt
  has_key Tied x i s = omega (arith, record_long x i s)
  has_key Nearest x i s = omega (arith, record_long x i s)
