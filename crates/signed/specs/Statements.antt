-- To believe. The demands, of any gauge, and the three together. A theorem of each name, of ours, stands in proofs/Theorems.antt. Assumes nothing.
use Rattle.std.specs.Prelude.{ℕ, ◌*◌, ◌≤◌, true, List, [], ◌≡◌, length}
use Rattle.key.specs.Number.{key_at}
use Rattle.own.specs.Own.{Own, own_form, own_keys, IsOwn}
use Rattle.kept.specs.History.{Event, NoRemoval, learned_all}
use Rattle.kept.specs.Plain.{drops, kept}
use Rattle.wire.specs.Statements.{AtMostOne, WrittenReads, ReadWritten}
use Rattle.gauge_commit.specs.Sending.{OnlyFirst}
use Rattle.gauge_plan.specs.Lent.{Memory, InForm, empty, Listing, Call, lists, own_of, output_of}
use Rattle.gauge.specs.Words.{Gauge, returned, Typed, left, log, Proper}
use Rattle.sentences.specs.Sentences.{NeighbourList}
use Rattle.sentences.specs.Meets.{MeetsTable, MeetsSentences}
use Rattle.sentences.specs.Back.{SentReads, FloodReads}
use Rattle.signed.specs.Events.{Happened}

-- ---- demand 1

-- "Each call tests what it is lent. A refusal gives its number from document 01 in that document's order, and cache, waiting table and output keep their bytes."
-- That no input makes the gauge read outside its memory, wrap a sum unmeant or run on is that the calls are functions of all inputs: the exported ones have
-- contracts with no `requires`, and each hands back what our gauge gives (sentences/Contracts).
pub record MeetsDemand1 (g : Gauge) : Type 0 where
  -- a number is given exactly when it applies and no lower one does, 0 when none does; with a refusal the counts are 0 and every byte is as lent
  pub table : MeetsTable g
  -- the output changes only in its first bytes, as many as returned
  pub first : (m : Memory) (c : Call) → Typed c → OnlyFirst (returned c (g m c).answer) (output_of c) (g m c).output
  -- a call leaves memory in form
  pub form : (m : Memory) (c : Call) → Typed c → InForm (own_keys (own_of c)) m → InForm (own_keys (own_of c)) (g m c).memory

-- ---- demand 2

-- "Messages are read and written as the public DRT document lays them out. What we write reads back as the same message; what we read, written again, gives the
-- same bytes with the ignored bits zero. Every message is accepted, refused and acted on exactly as document 01 says."
-- The first three say so of the layout, for every datagram and every message of the eight types; the code's reader and writer, on which no sentence rests, are
-- tied to it in wire/Code. The last sentence is `sentences`: document 01's own, which leave no second gauge (sentences/Meets, OneGauge).
pub record MeetsDemand2 (g : Gauge) : Type 0 where
  pub one-message : AtMostOne
  pub written_reads : WrittenReads
  pub read_written : ReadWritten
  pub sent_reads : SentReads × FloodReads
  pub sentences : MeetsSentences g

-- ---- demand 3

-- the neighbour call for the key k, with any own records of our keys and any output of 320 bytes or more, is given 0 and the list of these keys
abbrev pub ListsThese : Gauge → Memory → Own → ℕ → List ℕ → Type 0
ListsThese g m own k keys =
    (l : Listing) → own_form l.own ≡ true → own_keys l.own ≡ own → length l.key ≡ 32 → key_at 0 l.key ≡ k → 320 ≤ length l.output
    → NeighbourList k keys l.output (g m (lists l))

-- "From an empty cache and waiting table .., with one own key, one C and memory that only our calls change: after any sequence of calls the neighbour list is
-- exactly the five nearest kept keys below our own and the five nearest above, all of them where a side has fewer, each once, nearest first. The kept keys
-- follow from the accepted calls alone. Until the first removal the same list is right among all keys ever learned, dropped ones included."
-- `happened`: what was learned and removed, by the log alone. With several own keys it holds of each (02, Wish 11): k is any of them, and the kept keys are those
-- of all their lists.
pub record Demand3 (g : Gauge) (own : Own) (C : ℕ) (calls : List Call) : Type 0 where
  pub history : List Event
  pub happened : Happened [] (log g (empty C) calls) history
  pub listed : (k : ℕ) → IsOwn own k → ListsThese g (left g (empty C) calls) own k (kept own C history)
  pub among-all : NoRemoval (drops own) C [] history → (k : ℕ) → IsOwn own k → ListsThese g (left g (empty C) calls) own k (learned_all history)

abbrev pub MeetsDemand3 : Gauge → Type 0
MeetsDemand3 g = (own : Own) (C : ℕ) → (10 ≤ C) × (10 * length own ≤ C) → C ≤ 256 → (calls : List Call) → Proper own calls → Demand3 g own C calls

-- ---- all three

-- Each alone is met by some gauge that is wrong (one that refuses all but the list meets demand 3), so they are signed together.
pub record Signed (g : Gauge) : Type 0 where
  pub demand1 : MeetsDemand1 g
  pub demand2 : MeetsDemand2 g
  pub demand3 : MeetsDemand3 g
