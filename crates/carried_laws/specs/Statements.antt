-- Beside the demands. A reading changes nothing that the gauge does: "A second layer above, knowing only what the first promises". A theorem of each name stands in
-- proofs/Theorems.antt. Assumes nothing.
use Rattle.std.specs.Prelude.{ℕ, List, ◌≡◌, take}
use Rattle.readings.specs.Numbers.{reading_of}
use Rattle.carried.specs.Carry.{CarryHanded, carry_call}
use Rattle.gauge_plan.specs.Lent.{Memory, Receive, hearing, receives}
use Rattle.gauge.specs.Words.{Gauge, Typed}
use Rattle.gauge.specs.Ours.{ours}
use Rattle.sentences.specs.Meets.{MeetsSentences}

-- what an accepted call to carry has written: the first bytes of the output, as many as it says
abbrev pub written_by : CarryHanded → List ℕ
written_by h = take h.given.length h.output

-- the gauge receives it as it would receive the AUTHORITY without the reading: the same number and counts, the same memory, the same output, byte for byte,
-- whatever else is handed in. The host's verdict is the same argument: the CPA that it judges is the same
abbrev pub ActsAlike : Gauge → Type 0
ActsAlike g =
    (l : Receive) → Typed (receives l) → (kind measure litresIn litresOut : ℕ) (old : List ℕ)
    → (let h = carry_call l.major l.datagram (reading_of kind measure litresIn litresOut) old in
    h.given.number ≡ 0 → h.given.reading ≡ 0 → (m : Memory) → g m (receives l) ≡ g m (receives (hearing (written_by h) l)))

-- ours
abbrev pub CarriedActs : Type 0
CarriedActs = ActsAlike ours

-- and every gauge that does what document 01 says
abbrev pub CarriedActsAny : Type 0
CarriedActsAny = (g : Gauge) → MeetsSentences g → ActsAlike g
