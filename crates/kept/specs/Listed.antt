-- To believe. The neighbour list of one key, an own one: the order around it is the one that key's Around gives. "Dropping and the neighbour list follow this"
-- (02, Wish 4). Assumes nothing.
use Rattle.std.specs.Prelude.{List, ◌++◌, ℕ, length}
use Rattle.key.specs.Around.{Side, below, above, side_of, nearness}
use Rattle.kept.specs.Neighbours as N

-- how many of the keys are below it
abbrev pub count_below : ℕ → List ℕ → ℕ
count_below own keys = length (N.on_side (side_of own) below keys)

abbrev pub neighbours : ℕ → Side → List ℕ → List ℕ
neighbours own s keys = N.neighbours_by (side_of own) (nearness own) s keys

-- the list that document 01 asks for: those below, then those above. Its two counts are the lengths of the two
abbrev pub neighbour_list : ℕ → List ℕ → List ℕ
neighbour_list own keys = neighbours own below keys ++ neighbours own above keys
