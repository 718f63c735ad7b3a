-- Helps the code. Text that is put at a place of a slice, behind what stands there. Assumes nothing.
use Rattle.std.specs.Prelude.{ℕ, ◌+◌, ◌≤◌, ◌≡◌, List, ◌++◌, length, take}
use Rattle.reason.specs.declared.Reason.{Reason}
use Rattle.reason.specs.declared.Reason.TheVariants.{Only, Target, Tied, Nearest}

-- from a place on, and where it ends
pub record Puts (at : ℕ) (text out : List ℕ) (end : ℕ) (left : List ℕ) : Type 0 where
  pub ends : end ≡ at + length text
  pub stands : take end left ≡ take at out ++ text

-- where a key goes with the reason, there are bytes of one
abbrev pub HasKey : Reason → List ℕ → Type 0
HasKey Only r = Unit {0}
HasKey Target r = Unit {0}
HasKey Tied r = 32 ≤ length r
HasKey Nearest r = 32 ≤ length r
