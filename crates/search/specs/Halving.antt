-- To believe. "The number of keys compared: it equals the steps of halving as defined on the key list (of n keys the one at n/2 rounded down,
-- from 0, three-way), and is at most the number of binary digits of the records used: 0 for none, 9 for 256" (02, Wish 8). Assumes nothing.
use Rattle.std.specs.Prelude.{◌≡◌, ℕ, zero, suc, ◌+◌, ◌/◌, ◌≤◌, ◌<◌, cond, List, [], ◌∷◌, ltb, eqb, length, take, drop, get_or}

-- how many keys a search for k compares: of none, none; else the one in the middle, and, unless that is k, those of the half where k would stand.
-- `most` only makes the recursion end, and is never used up: `halvings-some` (HalvingLaws) is the same without it
unfoldable pub halving : ℕ → List ℕ → ℕ → ℕ
halving zero keys k = 0
halving (suc most) [] k = 0
halving (suc most) (j ∷ js) k =
    let keys = j ∷ js in
    let m = length keys / 2 in
    let middle = get_or keys m 0 in
    suc (cond (eqb k middle) 0 (cond (ltb k middle) (halving most (take m keys) k) (halving most (drop (m + 1) keys) k)))

abbrev pub halvings : List ℕ → ℕ → ℕ
halvings keys k = halving (length keys) keys k

-- how many binary digits a number has; 0 has none
unfoldable pub binary : ℕ → ℕ → ℕ
binary zero n = 0
binary (suc most) zero = 0
binary (suc most) (suc n) = suc (binary most (suc n / 2))

abbrev pub digits : ℕ → ℕ
digits n = binary n n

-- ---- what is said of them

-- whatever the keys are, and whatever is looked for
abbrev pub AtMostDigits : Type 0
AtMostDigits = (keys : List ℕ) (k : ℕ) → halvings keys k ≤ digits (length keys)

-- and so many are compared where k is less than each of them
abbrev pub DigitsMet : Type 0
DigitsMet = (keys : List ℕ) (k : ℕ) → ((i : ℕ) → i < length keys → k < get_or keys i 0) → halvings keys k ≡ digits (length keys)
