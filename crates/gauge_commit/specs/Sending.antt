-- To believe. What a call hands back, and what an accepted one answers and leaves: "the lengths of up to two datagrams to send are returned, in the order written, 0 for one not there";
-- the datagrams stand one after the other at the output's start. Assumes nothing.
use Rattle.std.specs.Prelude.{ℕ, ◌≤◌, List, [], length, get_or, drop, ◌≡◌}
use Rattle.octet.specs.Part.{splice}
use Rattle.table.specs.Rows.{joined}
use Rattle.gauge_plan.specs.Lent.{Memory}
use Rattle.gauge_commit.specs.declared.Answer.{Answer}

abbrev pub answer : ℕ → ℕ → ℕ → Answer
answer n first second = record { number = n; first = first; second = second }

-- all that a call hands back: number and counts, the memory, the output
pub record Handed : Type 0 where
  pub answer : Answer
  pub memory : Memory
  pub output : List ℕ

abbrev pub handed : Answer → Memory → List ℕ → Handed
handed a m output = record { answer = a; memory = m; output = output }

-- datagrams sent: their lengths, and the output with them at its start, one after the other
abbrev pub lengths : List (List ℕ) → Answer
lengths ds = answer 0 (length (get_or ds 0 [])) (length (get_or ds 1 []))

abbrev pub sending : List (List ℕ) → List ℕ → List ℕ
sending ds output = splice 0 (joined ds) output

-- "On acceptance the output changes only in its first bytes, as many as returned." So it is with a refusal, which returns none.
abbrev pub OnlyFirst : ℕ → List ℕ → List ℕ → Type 0
OnlyFirst n lent left = (n ≤ length lent) × (length left ≡ length lent) × (drop n left ≡ drop n lent)
