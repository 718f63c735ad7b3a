-- Beside the demands. Document 01's Tick, of any gauge that meets the sentences and over calls one after the other: "its place opens with two tries left", "Each
-- place with tries left loses one and its ID is listed, increasing; one with none is freed". So a place that nobody answers is listed at the next two accepted
-- ticks and gone after the third; and any place is gone by then. Theorems of these names stand in proofs/ListedLaws.antt and GoneLaws.antt. Assumes nothing.
use Rattle.std.specs.Prelude.{ℕ, zero, suc, ◌+◌, ◌*◌, ◌≤◌, ◌<◌, Bool, true, false, cond, ◌&&◌, ◌⊎◌, List, [], ◌∷◌, ◌≡◌, eqb, length, take}
use Rattle.octet.specs.Number.{Bytes, value_le}
use Rattle.octet.specs.Part.{part}
use Rattle.key.specs.Number.{key_at}
use Rattle.kept.specs.Keys.{Every}
use Rattle.waiting.specs.Place.{id_of, tries_of}
use Rattle.gauge_plan.specs.Lent.{Memory, Tick, tick, Call, receives, sends, ticks, lists}
use Rattle.gauge_commit.specs.Sending.{Handed}
use Rattle.gauge.specs.Words.{Gauge, left, Typed}
use Rattle.sentences.specs.Heard.{revoke, authority, ack, Hears}
use Rattle.sentences.specs.Sentences.{Waits, Inquiry}
use Rattle.sentences.specs.Meets.{MeetsSentences}

-- the call answers the place, or is a tick. It is answered by an AUTHORITY or an ACK with its ID, and an inquiry by a revocation of its key
abbrev pub Concerns : List ℕ → Call → Type 0
Concerns p (receives l) =
    ((cpa : Bool) × Hears l.datagram l.major (authority (id_of p) cpa))
    ⊎ ((n : Bool) × Hears l.datagram l.major (ack (id_of p) n))
    ⊎ ((i : ℕ) × (silent : Bool) × (validate : ℕ) × Hears l.datagram l.major (revoke i silent validate)
    × Inquiry (key_at 0 l.key) p)
Concerns p (sends l) = ⊥
Concerns p (ticks l) = Unit {0}
Concerns p (lists l) = ⊥

-- of calls one after the other no accepted one concerns the place; a refused one may be any
abbrev pub NoneConcerns : Gauge → List ℕ → Memory → List Call → Type 0
NoneConcerns g p m [] = Unit {0}
NoneConcerns g p m (c ∷ cs) = Typed c × ((g m c).answer.number ≡ 0 → ¬ Concerns p c) × NoneConcerns g p (g m c).memory cs

-- calls, and a tick after them
pub record Round : Type 0 where
  pub calls : List Call
  pub tick : Tick

abbrev pub tick_of : Gauge → Memory → Round → Handed
tick_of g m r = g (left g m r.calls) (ticks r.tick)

-- none of the calls concerns the place, and the tick is accepted
abbrev pub Passes : Gauge → List ℕ → Memory → Round → Type 0
Passes g p m r = NoneConcerns g p m r.calls × ((tick_of g m r).answer.number ≡ 0)

-- the ID is one of the numbers that a tick's output begins with, as many as counted
abbrev pub Listed : ℕ → Handed → Type 0
Listed id h = (i : ℕ) × (i < h.answer.first) × (value_le 256 (part (4 * i) 4 h.output) ≡ id)

-- no place with the ID waits
abbrev pub Gone : ℕ → Memory → Type 0
Gone id m = (q : List ℕ) → Waits m q → ¬ (id_of q ≡ id)

-- listed at the next n accepted ticks; not at the one after them, which frees it
abbrev pub ListedFor : Gauge → List ℕ → ℕ → Memory → Type 0
ListedFor g p zero m = (r : Round) → Passes g p m r → (¬ Listed (id_of p) (tick_of g m r)) × Gone (id_of p) (tick_of g m r).memory
ListedFor g p (suc n) m = (r : Round) → Passes g p m r → Listed (id_of p) (tick_of g m r) × ListedFor g p n (tick_of g m r).memory

abbrev pub ListedTwice : Type 0
ListedTwice =
    (g : Gauge) → MeetsSentences g → (m : Memory) → Bytes m.waiting → (p : List ℕ) → Waits m p → tries_of p ≡ 2 → ListedFor g p 2 m

-- how many of calls one after the other are accepted ticks
abbrev pub is_tick : Call → Bool
is_tick (receives l) = false
is_tick (sends l) = false
is_tick (ticks l) = true
is_tick (lists l) = false

abbrev pub tick_count : Gauge → Memory → List Call → ℕ
tick_count g m [] = 0
tick_count g m (c ∷ cs) = cond (is_tick c && eqb (g m c).answer.number 0) 1 0 + tick_count g (g m c).memory cs

-- "A place is gone after three accepted ticks at the latest", whatever calls are made: of calls with three accepted ticks there is one after which no place
-- with the ID waits
abbrev pub GoneByThird : Type 0
GoneByThird =
    (g : Gauge) → MeetsSentences g → (id : ℕ) (m : Memory) (cs : List Call) → Every Typed cs → 3 ≤ tick_count g m cs
    → (n : ℕ) × (0 < n) × (n ≤ length cs) × Gone id (left g m (take n cs))
