-- Helps the code. Where a place with an ID is opened: `opened` is an insertion at this place. Assumes nothing.
use Rattle.std.specs.Prelude.{ℕ, zero, suc, cond, List, [], ◌∷◌, leb}
use Rattle.waiting.specs.Place.{id_of}

-- how many places stand before the first whose ID is not lower
unfoldable pub slot_in : ℕ → List (List ℕ) → ℕ
slot_in id [] = zero
slot_in id (p ∷ ps) = cond (leb id (id_of p)) zero (suc (slot_in id ps))
