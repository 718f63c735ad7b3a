-- Helps the code. The places after a tick, and the IDs that it lists, by recursion. Tied to document 01 by `ours-meets` (sentences/Theorems). Assumes nothing.
use Rattle.std.specs.Prelude.{ℕ, Bool, cond, List, [], ◌∷◌, eqb}
use Rattle.waiting.specs.Place.{id_of, tries_of}
use Rattle.waiting.specs.Tick.{one_less}

-- has the place no try left?
abbrev pub spent : List ℕ → Bool
spent p = eqb (tries_of p) 0

-- the places after a tick
unfoldable pub ticked : List (List ℕ) → List (List ℕ)
ticked [] = []
ticked (p ∷ ps) = cond (spent p) (ticked ps) (one_less p ∷ ticked ps)

-- the IDs that a tick lists
unfoldable pub listed : List (List ℕ) → List ℕ
listed [] = []
listed (p ∷ ps) = cond (spent p) (listed ps) (id_of p ∷ listed ps)
