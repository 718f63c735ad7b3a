-- To believe. What we go by: the neighbour list of each of our own keys, and the key that is dropped in favour of all these lists. Our keys are a list, the
-- first of them first (02, Wish 11). Assumes nothing.
use Rattle.std.specs.Prelude.{List, ℕ, get_or}
use Rattle.kept.specs.Keys.{◌∈◌}
use Rattle.kept.specs.History as H
use Rattle.kept.specs.History.{Event}
use Rattle.kept.specs.Ponds.{drops_of}
pub use Rattle.kept.specs.Listed.{count_below, neighbours, neighbour_list}

-- which numbers may be kept: none of our own keys is ever learned
abbrev pub NotOwn : List ℕ → ℕ → Type 0
NotOwn own k = ¬ (k ∈ own)

-- the first of our keys
abbrev pub first_of : List ℕ → ℕ
first_of own = get_or own 0 0

abbrev pub drops : List ℕ → List ℕ → ℕ
drops own keys = drops_of (first_of own) own keys

abbrev pub learn : List ℕ → ℕ → List ℕ → ℕ → List ℕ
learn own C keys k = H.learn_with (drops own) C keys k

abbrev pub kept : List ℕ → ℕ → List Event → List ℕ
kept own C events = H.kept_by (drops own) C events
