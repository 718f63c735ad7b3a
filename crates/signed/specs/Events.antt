-- To believe. What the accepted calls do to the keys, told by the log alone: "The kept keys follow from the accepted calls alone." Assumes nothing.
use Rattle.std.specs.Prelude.{ℕ, Bool, cond, ◌&&◌, List, [], ◌∷◌, ◌++◌, ◌⊎◌, ◌≡◌, eqb}
use Rattle.std.proofs.Math.Option.{Option, some, none}
use Rattle.key.specs.Number.{key_at}
use Rattle.kept.specs.History.{Event, learned, removed}
use Rattle.gauge_plan.specs.Lent.{Call, receives, sends, ticks, lists}
use Rattle.gauge.specs.Words.{Entry}
use Rattle.sentences.specs.Heard.{Heard, entry, revoke, inquire, authority, ack, lookup, other, Hears}

-- whom a call sent a FLOOD with the ID to, if it did: the neighbour's key, not the record's; else what is known from before
abbrev pub sent_by : ℕ → Call → ℕ → Option ℕ → Option ℕ
sent_by id (receives l) n earlier = earlier
sent_by id (sends l) n earlier = cond (eqb n 0 && eqb l.id id) (some (key_at 0 l.neighbour)) earlier
sent_by id (ticks l) n earlier = earlier
sent_by id (lists l) n earlier = earlier

-- whom the latest such FLOOD went to, of a log with the latest call first
unfoldable pub sent_to : ℕ → List Entry → Option ℕ
sent_to id [] = none
sent_to id (e ∷ es) = sent_by id e.call e.number (sent_to id es)

abbrev pub removed_if : Option ℕ → List Event
removed_if none = []
removed_if (some k) = removed k ∷ []

-- what a message does when it is accepted; k is the verdict's key. An AUTHORITY learns it, a revocation removes it, and an ACK with N the key that the FLOOD
-- went to
abbrev pub told_by : List Entry → ℕ → Heard → List Event
told_by earlier k (entry id silent validate r) = []
told_by earlier k (revoke id silent validate) = removed k ∷ []
told_by earlier k (inquire id validate) = []
told_by earlier k (authority acked cpa) = learned k ∷ []
told_by earlier k (ack acked n) = cond n (removed_if (sent_to acked earlier)) []
told_by earlier k (lookup id target path e) = []
told_by earlier k other = []

-- what a call does when it is accepted
abbrev pub Tells : List Entry → Call → List Event → Type 0
Tells earlier (receives l) now = (x : Heard) × Hears l.datagram l.major x × (now ≡ told_by earlier (key_at 0 l.key) x)
Tells earlier (sends l) now = now ≡ []
Tells earlier (ticks l) now = now ≡ []
Tells earlier (lists l) now = now ≡ []

-- these are the events of a log; `earlier` are the calls before it, the latest first. A call that was given another number than 0 has none
abbrev pub Happened : List Entry → List Entry → List Event → Type 0
Happened earlier [] history = history ≡ []
Happened earlier (e ∷ es) history =
    (now later : List Event) × (((e.number ≡ 0) × Tells earlier e.call now) ⊎ ((¬ (e.number ≡ 0)) × (now ≡ [])))
    × Happened (e ∷ earlier) es later × (history ≡ now ++ later)
