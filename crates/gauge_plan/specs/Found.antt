-- Helps the code. Whether a search found something, and where. Tied to document 01 by `ours-meets` (sentences/Theorems). Assumes nothing.
use Rattle.std.specs.Prelude.{ℕ, Bool, true, false, Option, Some, None}

abbrev pub is_nothing : Option ℕ → Bool
is_nothing (Some i) = false
is_nothing None = true

-- the number of the place found
abbrev pub place_of : Option ℕ → ℕ
place_of (Some i) = i
place_of None = 0
