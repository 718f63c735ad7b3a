-- To believe. Numbers in decimal and bytes in hexadecimal, as text. Assumes nothing.
use Rattle.std.specs.Prelude.{ℕ, zero, suc, ◌/◌, ◌%◌, ◌+◌, cond, List, [], ◌∷◌, ◌++◌, ltb}

-- a number in decimal, of so many digits and one at most; `0` is 48 in ASCII
unfoldable pub decimal_up_to : ℕ → ℕ → List ℕ
decimal_up_to zero n = (48 + n) ∷ []
decimal_up_to (suc more) n = cond (ltb n 10) ((48 + n) ∷ []) (decimal_up_to more (n / 10) ++ ((48 + n % 10) ∷ []))

-- 20 digits are enough for 64 bits
abbrev pub decimal : ℕ → List ℕ
decimal n = decimal_up_to 19 n

-- a digit from 0 to 15, from 10 on a lower case letter; `a` is 97
abbrev pub hex_digit : ℕ → ℕ
hex_digit n = cond (ltb n 10) (48 + n) (87 + n)

-- bytes, two digits each
unfoldable pub hex_of : List ℕ → List ℕ
hex_of [] = []
hex_of (b ∷ bs) = hex_digit (b / 16) ∷ hex_digit (b % 16) ∷ hex_of bs
