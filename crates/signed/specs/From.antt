-- Beside the demands. Demand 3 from any cache in form and an empty waiting table: a host that starts again with the cache that it saved. Of any gauge; that ours
-- meets it, and every gauge that meets the sentences, stands in proofs/FromLaws.antt. Assumes nothing.
use Rattle.std.specs.Prelude.{ℕ, ◌*◌, ◌≤◌, true, List, [], ◌++◌, map, ◌≡◌, length, replicate}
use Rattle.own.specs.Own.{Own, IsOwn}
use Rattle.kept.specs.History.{Event, learned, NoRemoval, learned_all}
use Rattle.kept.specs.Plain.{drops, kept}
use Rattle.cache.specs.Form.{keys_of, held_of, cache_form}
use Rattle.firsts.specs.Firsts.{firsts_of}
use Rattle.gauge_plan.specs.Lent.{Memory, memory, empty, Counted, Call}
use Rattle.gauge.specs.Words.{Gauge, left, log, Proper}
use Rattle.sentences.specs.Meets.{MeetsSentences}
use Rattle.signed.specs.Events.{Happened}
use Rattle.signed.specs.Statements.{ListsThese, MeetsDemand3, Signed}

-- the cache as saved, the counts of its keys (02, Wish 12), and an empty waiting table
abbrev pub restarted : Own → List ℕ → Memory
restarted own cache = memory cache (firsts_of (keys_of (held_of own cache))) (replicate 2240 0)

-- the keys held at the start count as learned before the first call, one after the other
abbrev pub held_before : Own → List ℕ → List Event
held_before own cache = map learned (keys_of (held_of own cache))

-- that drops none of them: the keys kept at the start are those held
abbrev pub HeldKept : Type 0
HeldKept =
    (own : Own) (C : ℕ) (cache : List ℕ) → cache_form own cache ≡ true → length cache ≡ 100 * C
    → kept own C (held_before own cache) ≡ keys_of (held_of own cache)

-- as Demand3 (Statements), with the keys that were held in front of what happened
pub record Demand3From (g : Gauge) (own : Own) (C : ℕ) (cache : List ℕ) (calls : List Call) : Type 0 where
  pub later : List Event
  pub happened : Happened [] (log g (restarted own cache) calls) later
  pub listed : (k : ℕ) → IsOwn own k → ListsThese g (left g (restarted own cache) calls) own k (kept own C (held_before own cache ++ later))
  pub among-all : NoRemoval (drops own) C [] (held_before own cache ++ later)
      → (k : ℕ) → IsOwn own k → ListsThese g (left g (restarted own cache) calls) own k (learned_all (held_before own cache ++ later))

abbrev pub MeetsDemand3From : Gauge → Type 0
MeetsDemand3From g =
    (own : Own) (C : ℕ) (cache : List ℕ) → cache_form own cache ≡ true → length cache ≡ 100 * C → (calls : List Call) → Proper own calls
    → Demand3From g own C cache calls

-- "After any accepted call they equal those counted afresh" (02, Wish 12), from an empty cache on and from one saved with its counts
abbrev pub CountedFrom : Type 0
CountedFrom =
    (g : Gauge) → MeetsSentences g → (own : Own) (calls : List Call) → Proper own calls
    → ((C : ℕ) → (10 ≤ C) × (10 * length own ≤ C) → C ≤ 256 → Counted own (left g (empty C) calls))
    × ((cache : List ℕ) → Counted own (left g (restarted own cache) calls))

-- with an empty cache it is demand 3
abbrev pub FromEmpty : Type 0
FromEmpty = (g : Gauge) → MeetsDemand3From g → MeetsDemand3 g

-- every gauge that meets the sentences has it, and with it all that is signed: demands 1 and 3 follow from document 01's sentences
abbrev pub Restarts : Type 0
Restarts = (g : Gauge) → MeetsSentences g → MeetsDemand3From g

abbrev pub Enough : Type 0
Enough = (g : Gauge) → MeetsSentences g → Signed g
