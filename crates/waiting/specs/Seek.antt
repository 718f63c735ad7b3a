-- Helps the code. What is looked for among the places: one with an ID and a kind ("acked ID is no waiting flood", "no waiting inquiry"), one with an ID ("its ID
-- is waiting already"). Tied to document 01 by `ours-meets` (sentences/Theorems). Assumes nothing.
use Rattle.std.specs.Prelude.{ℕ, Bool, ◌&&◌, List, eqb}
use Rattle.waiting.specs.Place.{id_of, kind_of}

abbrev pub is_at : ℕ → ℕ → List ℕ → Bool
is_at id kind p = eqb (id_of p) id && eqb (kind_of p) kind

abbrev pub has_id : ℕ → List ℕ → Bool
has_id id p = eqb (id_of p) id
