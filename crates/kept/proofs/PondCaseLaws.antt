-- The drop rule of several own keys on worked cases, computed: cases 3, 4 and 5 of document 01, and two more. Assumes nothing.
use mathlib.Core.Path.{◌≡◌, refl}
use mathlib.Core.List.{[], ◌∷◌}
use Prim.Native.Nat.{◌-◌, ◌^◌}
use Rattle.key.specs.Number.{distance}
use Rattle.key.specs.Around.{ring, half, are_keys, up, is_above, nearness, apart}
use Rattle.kept.specs.Keys.{has, put, among, in_order}
use Rattle.kept.specs.Ponds.{is_listed, farthest_from, drops_of}

unfoldable computed : Unit {0}
unfolding distance ring half are_keys up is_above nearness apart has put among in_order is_listed farthest_from drops_of
computed = tt

-- "Case 5 now drops 94" (02, Wish 11); 3 and 4 drop what they did
case_three : drops_of 100 (100 ∷ []) (90 ∷ 91 ∷ 92 ∷ 93 ∷ 94 ∷ 95 ∷ 96 ∷ 97 ∷ 98 ∷ 99 ∷ 101 ∷ []) ≡ 90
unfolding computed
case_three = refl

case_four : drops_of 100 (100 ∷ []) (89 ∷ 90 ∷ 91 ∷ 92 ∷ 93 ∷ 94 ∷ 95 ∷ 96 ∷ 97 ∷ 98 ∷ 99 ∷ []) ≡ 89
unfolding computed
case_four = refl

case_five : drops_of 100 (100 ∷ []) (94 ∷ 95 ∷ 96 ∷ 97 ∷ 98 ∷ 99 ∷ 101 ∷ 102 ∷ 103 ∷ 104 ∷ 105 ∷ 106 ∷ []) ≡ 94
unfolding computed
case_five = refl

-- two own keys: what lies between and is in no list
case_between : drops_of 100 (100 ∷ 200 ∷ [])
    (95 ∷ 96 ∷ 97 ∷ 98 ∷ 99 ∷ 101 ∷ 102 ∷ 103 ∷ 104 ∷ 105 ∷ 150 ∷ 195 ∷ 196 ∷ 197 ∷ 198 ∷ 199 ∷ 201 ∷ 202 ∷ 203 ∷ 204 ∷ 205 ∷ []) ≡ 150
unfolding computed
case_between = refl

-- a tie round the ring: the lower number goes, which is above
case_tie : drops_of 0 (0 ∷ [])
    (1 ∷ 2 ∷ 3 ∷ 4 ∷ 5 ∷ 6 ∷ (2 ^ 256 - 6) ∷ (2 ^ 256 - 5) ∷ (2 ^ 256 - 4) ∷ (2 ^ 256 - 3) ∷ (2 ^ 256 - 2) ∷ (2 ^ 256 - 1) ∷ []) ≡ 6
unfolding computed
case_tie = refl
