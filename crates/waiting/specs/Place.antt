-- To believe. "The waiting table: 16 places of 140 bytes: message ID 4 (little-endian), kind 1 (1 flood, 2 inquiry, 0 free), tries left 1 (0 to 2),
-- two zero bytes, key 32, record 100." A place is its bytes; its fields are parts of them. Assumes nothing.
use Rattle.std.specs.Prelude.{ℕ, List, [], ◌∷◌, ◌++◌, get_or, replicate}
use Rattle.octet.specs.Number.{value_le, digits_le}
use Rattle.octet.specs.Part.{part}
use Rattle.key.specs.Number.{key_at}

abbrev pub id_of : List ℕ → ℕ
id_of p = value_le 256 (part 0 4 p)

abbrev pub kind_of : List ℕ → ℕ
kind_of p = get_or p 4 0

abbrev pub tries_of : List ℕ → ℕ
tries_of p = get_or p 5 0

abbrev pub place_key : List ℕ → ℕ
place_key p = key_at 8 p

abbrev pub place_record : List ℕ → List ℕ
place_record p = part 40 100 p

-- the place of these fields: ID, kind, tries left, the bytes of the key and of the record
unfoldable pub new_place : ℕ → ℕ → ℕ → List ℕ → List ℕ → List ℕ
new_place id kind tries key held = digits_le 256 4 id ++ (kind ∷ tries ∷ 0 ∷ 0 ∷ []) ++ key ++ held

-- "its place opens with two tries left": the place of an inquiry for a record's key, and of a flood to a neighbour
abbrev pub inquiry_place : ℕ → List ℕ → List ℕ
inquiry_place id r = new_place id 2 2 (part 0 32 r) r

abbrev pub flood_place : ℕ → List ℕ → List ℕ
flood_place id key = new_place id 1 2 key (replicate 100 0)
