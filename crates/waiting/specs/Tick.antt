-- To believe. "Tick. Each place with tries left loses one and its ID is listed, increasing; one with none is freed. The list needs room for 16 numbers of
-- 32 bits": they are written least significant byte first. Assumes nothing.
use Rattle.std.specs.Prelude.{ℕ, ◌-◌, List, [], ◌∷◌, ◌++◌, set}
use Rattle.octet.specs.Number.{digits_le}
use Rattle.waiting.specs.Place.{tries_of}

-- the place with one try less
abbrev pub one_less : List ℕ → List ℕ
one_less p = set p 5 (tries_of p - 1)

-- numbers of 32 bits, one after the other
unfoldable pub id_bytes : List ℕ → List ℕ
id_bytes [] = []
id_bytes (id ∷ ids) = digits_le 256 4 id ++ id_bytes ids
