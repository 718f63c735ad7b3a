-- To believe. What is dropped of too many keys, where one to four keys are our own: "of the keys in no neighbour list, drop the one farthest round
-- the ring from the first own key, the lower on a tie" (02, Wish 11). Keys are in plain number order: of those equally far the first is the lower.
-- Assumes nothing.
use Rattle.std.specs.Prelude.{Bool, false, not, cond, ◌||◌, List, [], ◌∷◌, ℕ, ltb}
use Rattle.key.specs.Around.{apart}
use Rattle.kept.specs.Keys.{has, among}
use Rattle.kept.specs.Listed.{neighbour_list}

-- is the key k in the neighbour list of one of our own keys?
unfoldable pub is_listed : List ℕ → List ℕ → ℕ → Bool
is_listed [] keys k = false
is_listed (own ∷ owns) keys k = has k (neighbour_list own keys) || is_listed owns keys k

-- the keys in none
abbrev pub spare : List ℕ → List ℕ → List ℕ
spare owns keys = among (λ (k : ℕ). not (is_listed owns keys k)) keys

-- of j and the keys of the list the farthest from our own, the first of those equally far
unfoldable pub farthest_from : ℕ → ℕ → List ℕ → ℕ
farthest_from own j [] = j
farthest_from own j (k ∷ ks) = farthest_from own (cond (ltb (apart own j) (apart own k)) k j) ks

-- the key that goes; our own, than which each other is farther, where each is in a list
unfoldable pub drops_of : ℕ → List ℕ → List ℕ → ℕ
drops_of first owns keys = farthest_from first first (spare owns keys)
