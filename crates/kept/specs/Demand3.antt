-- Beside the demands. Demand 3 on lists of keys, as statements, by which signed's is proved. proofs/Demand3Laws.antt proves them.
-- Everything that is handed in stands in front: `ok` (which numbers may be kept), `side` and `near` (the order round our own key), `drops`
-- (the drop rule) and C. The last two statements hand in ours: the order round the ring (02, Wish 4) from one of our own keys, the key in none of their lists
-- that is the farthest from the first (02, Wish 11), C at least ten times their number.
-- Assumes nothing.
use Rattle.std.specs.Prelude.{◌≡◌, List, [], ℕ, ◌*◌, ◌≤◌, length}
use Rattle.kept.specs.Keys.{◌∈◌, Every, Rising, plain}
use Rattle.key.specs.Around.{Side, side_of, nearness}
use Rattle.kept.specs.Neighbours.{neighbours_by, IsNeighbours}
use Rattle.kept.specs.History.{Event, kept_by, learned_all, Learns, NoRemoval}
use Rattle.kept.specs.Rules.{Order, DropRule}
use Rattle.kept.specs.Plain as Plain
use Rattle.kept.specs.Plain.{NotOwn}

-- what holds after the events, from an empty cache
pub record KeysDemand3 (ok : ℕ → Type 0) (side : ℕ → Side) (near : ℕ → ℕ) (drops : List ℕ → ℕ) (C : ℕ) (events : List Event) : Type 0 where
  -- the kept keys: strictly increasing, each one that may be kept, at most C
  pub increasing : Rising plain 0 (kept_by drops C events)
  pub allowed : Every ok (kept_by drops C events)
  pub fit : length (kept_by drops C events) ≤ C
  -- the neighbour list of each side is the nearest five of the kept keys there, or all, nearest first, each once; and no other list is
  pub right : (s : Side) → IsNeighbours side near s (kept_by drops C events) (neighbours_by side near s (kept_by drops C events))
  pub only : (s : Side) (l : List ℕ) → IsNeighbours side near s (kept_by drops C events) l → l ≡ neighbours_by side near s (kept_by drops C events)
  -- all the keys learned, dropped ones included
  pub all-of-them : (k : ℕ) → Learns k events → k ∈ learned_all events
  pub no-others : (k : ℕ) → k ∈ learned_all events → Learns k events
  -- until the first removal, the same list is right among all of them
  pub among-all : NoRemoval drops C [] events → (s : Side) → IsNeighbours side near s (learned_all events) (neighbours_by side near s (kept_by drops C events))

-- two sequences learn the same set of keys
pub record SameKeys (es ds : List Event) : Type 0 where
  pub to : (k : ℕ) → Learns k es → Learns k ds
  pub from : (k : ℕ) → Learns k ds → Learns k es

-- the general statements ----------------------------------------------------------------------------------------------------------

abbrev pub Demand3Holds : Type 1
Demand3Holds =
    (ok : ℕ → Type 0) (side : ℕ → Side) (near : ℕ → ℕ) (drops : List ℕ → ℕ) (C : ℕ) → Order ok side near → DropRule ok side near drops C
    → (events : List Event) → ((k : ℕ) → Learns k events → ok k) → KeysDemand3 ok side near drops C events

abbrev pub SameKeysSameNeighbours : Type 1
SameKeysSameNeighbours =
    (ok : ℕ → Type 0) (side : ℕ → Side) (near : ℕ → ℕ) → Order ok side near
    → (drops drops' : List ℕ → ℕ) (C C' : ℕ) → DropRule ok side near drops C → DropRule ok side near drops' C'
    → (es ds : List Event) → ((k : ℕ) → Learns k es → ok k) → SameKeys es ds → NoRemoval drops C [] es → NoRemoval drops' C' [] ds
    → (s : Side) → neighbours_by side near s (kept_by drops C es) ≡ neighbours_by side near s (kept_by drops' C' ds)

-- ours ------------------------------------------------------------------------------------------------------------------------------

abbrev pub PlainDemand3 : Type 0
PlainDemand3 =
    (own : List ℕ) (C : ℕ) → 10 * length own ≤ C → (events : List Event) → ((k : ℕ) → Learns k events → NotOwn own k)
    → (k : ℕ) → k ∈ own → KeysDemand3 (NotOwn own) (side_of k) (nearness k) (Plain.drops own) C events

abbrev pub PlainSameKeysSameNeighbours : Type 0
PlainSameKeysSameNeighbours =
    (own : List ℕ) (C C' : ℕ) → 10 * length own ≤ C → 10 * length own ≤ C'
    → (es ds : List Event) → ((k : ℕ) → Learns k es → NotOwn own k) → SameKeys es ds
    → NoRemoval (Plain.drops own) C [] es → NoRemoval (Plain.drops own) C' [] ds
    → (k : ℕ) → k ∈ own → (s : Side) → Plain.neighbours k s (Plain.kept own C es) ≡ Plain.neighbours k s (Plain.kept own C' ds)
