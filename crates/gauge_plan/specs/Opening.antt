-- Helps the code. A place must be opened, by a FLOOD received that is inquired about or by one to send: "13: a place must be opened and its ID is waiting
-- already"; "14: a place must be opened and all 16 are used". Tied to document 01 by `ours-meets` (sentences/Theorems). Assumes nothing.
use Rattle.std.specs.Prelude.{ℕ, Bool, ◌&&◌, List, [], ◌∷◌, eqb}
use Rattle.refusal.specs.Table.{Refusal, when}
use Rattle.table.specs.Rows.{any_of}
use Rattle.waiting.specs.Seek.{has_id}

-- the places that wait, how many they are, and the ID of the one to open, if one must be
abbrev pub open_rows : Bool → List (List ℕ) → ℕ → ℕ → List Refusal
open_rows opens ps used id = when 13 (opens && any_of (has_id id) ps) ∷ when 14 (opens && eqb used 16) ∷ []
