-- To believe. What is signed of a gauge: document 01's table and its sentences. They leave one gauge, and it is ours (proofs/Theorems). Assumes nothing.
use Rattle.std.specs.Prelude.{ℕ, ◌<◌, ◌↔◌, ◌≡◌}
use Rattle.refusal.specs.Table.{Before}
use Rattle.gauge_commit.specs.Sending.{answer, handed}
use Rattle.gauge_plan.specs.Lent.{Memory, Call, output_of}
use Rattle.gauge.specs.Words.{Gauge, Typed}
use Rattle.sentences.specs.Sentences.{Does}
use Rattle.sentences.specs.Numbers.{Applies}

-- the table "What comes back"
pub record MeetsTable (g : Gauge) : Type 0 where
  -- "The lowest number that applies is given": one before which none of the order applies; 0 where none does
  pub number : (m : Memory) (c : Call) → Typed c → (n : ℕ) → 0 < n
      → ((g m c).answer.number ≡ n) ↔ (Applies m c n × ((i : ℕ) → Before i n → ¬ Applies m c i))
  pub accepted : (m : Memory) (c : Call) → Typed c → ((g m c).answer.number ≡ 0) ↔ ((i : ℕ) → ¬ Applies m c i)
  -- "With any refusal the counts returned are 0 .. and every writable byte stays as lent"
  pub keeps : (m : Memory) (c : Call) → 0 < (g m c).answer.number → g m c ≡ handed (answer (g m c).answer.number 0 0) m (output_of c)

-- the table, and "What each call does": accepted, a call does what its sentence says
pub record MeetsSentences (g : Gauge) : Type 0 where
  pub table : MeetsTable g
  pub does : (m : Memory) (c : Call) → Typed c → (g m c).answer.number ≡ 0 → Does m c (g m c)

-- "Show that any two results allowed by it coincide": two gauges that meet the sentences hand back the same, every number and every byte
abbrev pub OneGauge : Type 0
OneGauge = (g h : Gauge) → MeetsSentences g → MeetsSentences h → (m : Memory) (c : Call) → Typed c → g m c ≡ h m c
