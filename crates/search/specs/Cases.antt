-- Worked cases. How many keys are compared, as the definition gives it: of none, of one, of five, and of 256, where 9 is the most and 1 the
-- least; and how many binary digits a number has. Assumes nothing.
use Rattle.std.specs.Prelude.{ℕ, zero, suc, ◌≡◌, List, [], ◌∷◌, map}
use Rattle.search.specs.Halving.{halvings, digits}

abbrev pub five : List ℕ
five = 10 ∷ 20 ∷ 30 ∷ 40 ∷ 50 ∷ []

-- n keys, each one more than the one before
unfoldable pub keys_from : ℕ → ℕ → List ℕ
keys_from first zero = []
keys_from first (suc n) = first ∷ keys_from (suc first) n

-- held: the one in the middle first
abbrev pub FiveHeld : Type 0
FiveHeld = map (halvings five) (30 ∷ 20 ∷ 50 ∷ 10 ∷ 40 ∷ []) ≡ 1 ∷ 2 ∷ 2 ∷ 3 ∷ 3 ∷ []

abbrev pub FiveNot : Type 0
FiveNot = map (halvings five) (5 ∷ 25 ∷ 35 ∷ 45 ∷ 55 ∷ []) ≡ 3 ∷ 2 ∷ 3 ∷ 3 ∷ 2 ∷ []

abbrev pub Few : Type 0
Few = (halvings [] 7 ≡ 0) × (map (halvings (7 ∷ [])) (6 ∷ 7 ∷ 8 ∷ []) ≡ 1 ∷ 1 ∷ 1 ∷ [])

-- of 256 the one at 128 is compared first; 0, the first, is the ninth, and 255, the last, the eighth
abbrev pub Full : Type 0
Full = map (halvings (keys_from 0 256)) (128 ∷ 64 ∷ 0 ∷ 255 ∷ 256 ∷ []) ≡ 1 ∷ 2 ∷ 9 ∷ 8 ∷ 8 ∷ []

abbrev pub Digits : Type 0
Digits = map digits (0 ∷ 1 ∷ 2 ∷ 3 ∷ 4 ∷ 255 ∷ 256 ∷ []) ≡ 0 ∷ 1 ∷ 2 ∷ 2 ∷ 3 ∷ 8 ∷ 9 ∷ []
