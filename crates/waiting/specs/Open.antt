-- Helps the code. A place opened where its ID belongs, and a place freed. Tied to document 01 by `ours-meets` (sentences/Theorems). Assumes nothing.
use Rattle.std.specs.Prelude.{ℕ, zero, suc, cond, List, [], ◌∷◌, leb}
use Rattle.waiting.specs.Place.{id_of}

-- the places with one more, before the first whose ID is not lower
unfoldable pub opened : List ℕ → List (List ℕ) → List (List ℕ)
opened p [] = p ∷ []
opened p (q ∷ ps) = cond (leb (id_of p) (id_of q)) (p ∷ q ∷ ps) (q ∷ opened p ps)

-- the places without number at
unfoldable pub freed : ℕ → List (List ℕ) → List (List ℕ)
freed at [] = []
freed zero (p ∷ ps) = ps
freed (suc at) (p ∷ ps) = p ∷ freed at ps
