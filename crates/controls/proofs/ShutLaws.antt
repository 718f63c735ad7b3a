-- A gauge that differs from ours in one call does not meet the sentences; and what the calls of the controls are. Assumes nothing.
use Prim.Native.Nat.{ℕ, zero, suc, ◌<◌}
use mathlib.Core.Bool.{Bool, true, ◌&&◌}
use mathlib.Core.List.{List, [], ◌∷◌}
use mathlib.Core.Path.{◌≡◌, refl, ap}
use native.Mathlib.Omega.{arith}
use lib.Dec.{ltb}
use borrow.Author.Tests.{ltb-true}
use Rattle.octet.specs.Number.{Bytes}
use Rattle.octet.proofs.TestLaws.{both_true}
use Rattle.gauge_plan.specs.Lent.{Memory, Call}
use Rattle.gauge_commit.specs.Sending.{Handed}
use Rattle.gauge.specs.Words.{Gauge, Typed}
use Rattle.gauge.specs.Ours.{ours}
use Rattle.sentences.specs.Meets.{MeetsSentences}
use Rattle.sentences.proofs.Theorems.{acts}

-- ---- bytes that are written out

unfoldable pub fits : List ℕ → Bool
fits [] = true
fits (x ∷ xs) = ltb x 256 && fits xs

pub fits_bytes : (xs : List ℕ) → fits xs ≡ true → Bytes xs
unfolding fits
fits_bytes [] e i = omega arith
fits_bytes (x ∷ xs) e zero = ltb-true x 256 (both_true (ltb x 256) (fits xs) e).0
fits_bytes (x ∷ xs) e (suc i) = fits_bytes xs (both_true (ltb x 256) (fits xs) e).1 i

-- ---- a call in which it differs, by some number

pub shut : (g : Gauge) (m : Memory) (c : Call) (f : Handed → ℕ) → Typed c → ¬ (f (g m c) ≡ f (ours m c)) → ¬ MeetsSentences g
shut g m c f ty d p = d (ap f (acts g p m c ty))
