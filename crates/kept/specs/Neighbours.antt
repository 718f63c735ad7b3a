-- To believe. "Up to five keys below, then up to five above, nearest first", as a definition and as a property. Which side a key is on and how near it is
-- there are handed in: ours are in Listed.
-- Assumes nothing.
use Rattle.std.specs.Prelude.{◌≡◌, Bool, true, false, List, ℕ, min, ◌<◌, length, take}
use Rattle.key.specs.Around.{Side, below, above}
use Rattle.kept.specs.Keys.{◌∈◌, Rising, among, in_order}

abbrev pub is : Side → Side → Bool
is below below = true
is below above = false
is above below = false
is above above = true

-- the keys on side s
abbrev pub on_side : (ℕ → Side) → Side → List ℕ → List ℕ
on_side side s keys = among (λ (k : ℕ). is s (side k)) keys

-- the keys on side s, nearest first
abbrev pub nearest_first : (ℕ → Side) → (ℕ → ℕ) → Side → List ℕ → List ℕ
nearest_first side near s keys = in_order near (on_side side s keys)

-- the neighbour list of side s: the first five of them
abbrev pub neighbours_by : (ℕ → Side) → (ℕ → ℕ) → Side → List ℕ → List ℕ
neighbours_by side near s keys = take 5 (nearest_first side near s keys)

-- what a list must be, to be the neighbour list of side s among the keys
pub record IsNeighbours (side : ℕ → Side) (near : ℕ → ℕ) (s : Side) (keys list : List ℕ) : Type 0 where
  -- nearest first, each once
  pub ordered : Rising near 0 list
  -- five, or all where there are fewer
  pub many : length list ≡ min 5 (length (on_side side s keys))
  -- only keys that are there, and on that side
  pub there : (k : ℕ) → k ∈ list → k ∈ keys
  pub sided : (k : ℕ) → k ∈ list → side k ≡ s
  -- none of that side is left out that is as near as one listed
  pub nearest : (j k : ℕ) → j ∈ list → k ∈ keys → side k ≡ s → ¬ (k ∈ list) → near j < near k
