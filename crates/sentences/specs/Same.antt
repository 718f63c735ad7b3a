-- Beside the demands. Of any gauge that meets the sentences: what it hands back hangs on what a datagram says, and on nothing else in it. A theorem of the name
-- stands in proofs/SameLaws.antt. Assumes nothing.
use Rattle.std.specs.Prelude.{ℕ, ◌^◌, ◌<◌, List, ◌≡◌}
use Rattle.octet.specs.Number.{Bytes}
use Rattle.gauge_plan.specs.Lent.{Memory, Receive, hearing, receives}
use Rattle.gauge.specs.Words.{Gauge}
use Rattle.sentences.specs.Heard.{Heard, Hears}
use Rattle.sentences.specs.Meets.{MeetsSentences}

-- two datagrams that say the same: the same number, the same counts, and every byte
abbrev pub SameHeard : Type 0
SameHeard =
    (g : Gauge) → MeetsSentences g → (m : Memory) (l : Receive) (d d' : List ℕ) → l.id < 2 ^ 32 → Bytes d → Bytes d'
    → (x : Heard) → Hears d l.major x → Hears d' l.major x → g m (receives (hearing d l)) ≡ g m (receives (hearing d' l))
