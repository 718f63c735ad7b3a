-- To believe. What a field is made of, in numbers and lists only: "Numbers on the wire are big-endian"; "Padding of 0 to 3 bytes, up to a multiple
-- of 4 from the start, stands exactly where 000 names it. Padding and reserved bits are written zero and ignored on reading." Assumes nothing.
use Rattle.std.specs.Prelude.{ℕ, ◌+◌, ◌-◌, ◌*◌, ◌%◌, ◌/◌, List, [], ◌∷◌, Bool, cond}
use Rattle.octet.specs.Number.{value_be}
use Rattle.octet.specs.Part.{part}

-- the number in the w bytes at a place
abbrev pub number_at : ℕ → ℕ → List ℕ → ℕ
number_at at w s = value_be 256 (part at w s)

-- how many bytes of padding follow the place e, where a field is padded
abbrev pub gap : Bool → ℕ → ℕ
gap padded e = cond padded ((4 - e % 4) % 4) 0

-- the bits of a byte that are kept, by their weights
abbrev pub bits : List ℕ → ℕ → ℕ
bits [] b = 0
bits (w ∷ ws) b = b / w % 2 * w + bits ws b

-- contents with the ignored bits zero: a table has for each byte the weights of the bits that are kept; what stands past the table is kept whole
abbrev pub keep : List (List ℕ) → List ℕ → List ℕ
keep [] v = v
keep (m ∷ ms) [] = []
keep (m ∷ ms) (b ∷ v) = bits m b ∷ keep ms v
