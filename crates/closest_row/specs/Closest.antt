-- Helps the code. Of records the closest to a target: "closeness to a target is the shorter way round; at equal distance take the key reached by going down from
-- the target" (02, Wish 4): key's Around has which of two keys is closer. Tied to document 01 by `ours-meets` (sentences/Theorems). Assumes nothing.
use Rattle.std.specs.Prelude.{ℕ, ◌+◌, cond, List, [], ◌∷◌}
use Rattle.key.specs.Around.{closer}
use Rattle.record.specs.Record.{key_of}

-- the closest to t of r and the records of the list
unfoldable pub closest_from : ℕ → List ℕ → List (List ℕ) → List ℕ
closest_from t r [] = r
closest_from t r (x ∷ xs) = closest_from t (cond (closer t (key_of x) (key_of r)) x r) xs

-- the closest to t of the records, and nothing where there are none
unfoldable pub closest_of : ℕ → List (List ℕ) → List ℕ
closest_of t [] = []
closest_of t (r ∷ rs) = closest_from t r rs

-- its place: r stands at place b, and the records of the list from place i on
unfoldable pub place_from : ℕ → ℕ → List ℕ → ℕ → List (List ℕ) → ℕ
place_from t b r i [] = b
place_from t b r i (x ∷ xs) = let c = closer t (key_of x) (key_of r) in place_from t (cond c i b) (cond c x r) (i + 1) xs

-- the place of the closest to t of the records, the first of those equally close
unfoldable pub closest_place : ℕ → List (List ℕ) → ℕ
closest_place t [] = 0
closest_place t (r ∷ rs) = place_from t 0 r 1 rs
