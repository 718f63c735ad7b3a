-- To believe. "A count kept by first byte" (02, Wish 12), of any gauge that meets the sentences. Theorems of these names stand in proofs/FirstsLaws.antt. Assumes nothing.
use Rattle.std.specs.Prelude.{List, ◌≡◌}
use Rattle.own.specs.Own.{Own, own_keys}
use Rattle.gauge_plan.specs.Lent.{Memory, Counted, Receive, Call, receives, own_of}
use Rattle.gauge.specs.Words.{Gauge, Typed, left, Proper}
use Rattle.gauge_laws.specs.Touched.{Touched}
use Rattle.sentences.specs.Meets.{MeetsSentences}

-- "After any accepted call they equal those counted afresh": a datagram that is accepted; and any call, lent the counts or not, for which they were so before
abbrev pub CountedAfresh : Type 0
CountedAfresh =
    (g : Gauge) → MeetsSentences g → (m : Memory) (l : Receive) → Typed (receives l) → (g m (receives l)).answer.number ≡ 0
    → Counted (own_keys l.own) (g m (receives l)).memory

abbrev pub StaysCounted : Type 0
StaysCounted =
    (g : Gauge) → MeetsSentences g → (m : Memory) (c : Call) → Typed c → Counted (own_keys (own_of c)) m → Counted (own_keys (own_of c)) (g m c).memory

-- and so after any calls with the same own keys, in memory that only they change
abbrev pub AlwaysCounted : Type 0
AlwaysCounted =
    (g : Gauge) → MeetsSentences g → (own : Own) (m : Memory) → Counted own m → (calls : List Call) → Proper own calls → Counted own (left g m calls)

-- "and one learned, dropped or removed key touches only its own byte's count", whatever the call is and whether it is accepted
abbrev pub TouchesItsOwn : Type 0
TouchesItsOwn =
    (g : Gauge) → MeetsSentences g → (m : Memory) (c : Call) → Typed c → Counted (own_keys (own_of c)) m → Touched (own_keys (own_of c)) m (g m c).memory

-- "Counts lent that disagree with the cache are refused with 1", whatever else is wrong
abbrev pub DisagreeRefused : Type 0
DisagreeRefused =
    (g : Gauge) → MeetsSentences g → (m : Memory) (l : Receive) → Typed (receives l) → ¬ Counted (own_keys l.own) m
    → (g m (receives l)).answer.number ≡ 1
