-- Helps the code. One step through the records of two caches: what stands next, and what it writes. Tied to the list by `step-list` (proofs/StepLaws).
-- Assumes nothing.
use Rattle.std.specs.Prelude.{ℕ, zero, suc, ◌*◌, cond, List, [], ◌∷◌, ◌++◌, replicate}
use Rattle.octet.specs.Part.{part, same}
use Rattle.key.specs.Number.{order_of}
use Rattle.std.specs.declared.cmp.Ordering.{Ordering}
use Rattle.std.specs.declared.cmp.Ordering.TheVariants.{Less, Equal, Greater}
use Rattle.record.specs.Record.{key_of}
use Rattle.merged.specs.declared.merge.Next.{Next}

abbrev pub step : ℕ → ℕ → ℕ → ℕ → Next
step kind old new entries = record { kind = kind; old = old; new = new; entries = entries }

abbrev pub one_key : List ℕ → List ℕ → Next
one_key p q = cond (same p q) (step 0 1 1 0) (step 3 1 1 1)

abbrev pub by_order : Ordering → List ℕ → List ℕ → Next
by_order Less p q = step 1 1 0 1
by_order Equal p q = one_key p q
by_order Greater p q = step 2 0 1 1

abbrev pub step_of : List (List ℕ) → List (List ℕ) → Next
step_of [] b = step 2 0 1 1
step_of (p ∷ a) [] = step 1 1 0 1
step_of (p ∷ a) (q ∷ b) = by_order (order_of (key_of p) (key_of q)) p q

-- what an entry writes: of the record at place i of one cache, of the record at place j of the other; by its kind
abbrev pub gone_bytes : List ℕ → ℕ → List ℕ
gone_bytes s i = 1 ∷ (part (100 * i) 32 s ++ replicate 68 0)

abbrev pub held_bytes : ℕ → List ℕ → ℕ → List ℕ
held_bytes kind t j = kind ∷ part (100 * j) 100 t

abbrev pub step_bytes : ℕ → List ℕ → ℕ → List ℕ → ℕ → List ℕ
step_bytes zero s i t j = []
step_bytes (suc zero) s i t j = gone_bytes s i
step_bytes (suc (suc k)) s i t j = held_bytes (suc (suc k)) t j
