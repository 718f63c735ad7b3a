-- Worked cases. Calls on lent bytes: keys 1, 2, 3 against 2, 3, 4, the 3 with another port; equal caches; none held against ten, and ten against none; an
-- output that is a byte too short; caches of 10 and of 11 places. Assumes nothing.
use Rattle.std.specs.Prelude.{ℕ, ◌*◌, ◌≡◌, List, [], ◌∷◌, ◌++◌, map, replicate}
use Rattle.octet.specs.Number.{digits_be}
use Rattle.table.specs.Rows.{joined, bytes_of}
use Rattle.gauge_commit.specs.Sending.{answer}
use Rattle.changes.specs.Listed.{Listed, listed, list_call}

-- ---- on which bytes

-- a record with the key k, the port and one address, all zero
abbrev pub record_with : ℕ → ℕ → List ℕ
record_with port k = digits_be 256 32 k ++ digits_be 256 2 port ++ (1 ∷ 0 ∷ []) ++ replicate 64 0

-- a cache of C places with these records
abbrev pub cache_with : ℕ → List (List ℕ) → List ℕ
cache_with C records = bytes_of (100 * C) records

-- the gauge with key 9 compares two such caches, with an output of so many bytes, each 7
abbrev pub compared : ℕ → List ℕ → List ℕ → Listed
compared room first second = list_call (record_with 0 9) first second (replicate room 7)

abbrev pub three : List (List ℕ)
three = record_with 0 1 ∷ record_with 0 2 ∷ record_with 0 3 ∷ []

abbrev pub others : List (List ℕ)
others = record_with 0 2 ∷ record_with 5 3 ∷ record_with 0 4 ∷ []

abbrev pub ten : List (List ℕ)
ten = map (record_with 0) (11 ∷ 12 ∷ 13 ∷ 14 ∷ 15 ∷ 16 ∷ 17 ∷ 18 ∷ 19 ∷ 20 ∷ [])

-- ---- what is listed

abbrev pub gone_entry : ℕ → List ℕ
gone_entry k = 1 ∷ (digits_be 256 32 k ++ replicate 68 0)

-- gone 1, changed 3, new 4: 303 bytes, and of 304 the last stays
abbrev pub ThreeChanges : Type 0
ThreeChanges =
    compared 304 (cache_with 10 three) (cache_with 10 others)
    ≡ listed (answer 0 3 303) (gone_entry 1 ++ (3 ∷ record_with 5 3) ++ (2 ∷ record_with 0 4) ++ (7 ∷ []))

abbrev pub ByteShort : Type 0
ByteShort = compared 302 (cache_with 10 three) (cache_with 10 others) ≡ listed (answer 15 0 0) (replicate 302 7)

abbrev pub NothingChanged : Type 0
NothingChanged = compared 1 (cache_with 10 three) (cache_with 10 three) ≡ listed (answer 0 0 0) (7 ∷ [])

abbrev pub TenNew : Type 0
TenNew = compared 1010 (cache_with 10 []) (cache_with 10 ten) ≡ listed (answer 0 10 1010) (joined (map (λ (r : List ℕ). 2 ∷ r) ten))

abbrev pub TenGone : Type 0
TenGone =
    compared 1010 (cache_with 10 ten) (cache_with 10 [])
    ≡ listed (answer 0 10 1010) (joined (map gone_entry (11 ∷ 12 ∷ 13 ∷ 14 ∷ 15 ∷ 16 ∷ 17 ∷ 18 ∷ 19 ∷ 20 ∷ [])))

abbrev pub UnequalPlaces : Type 0
UnequalPlaces = compared 1 (cache_with 10 three) (cache_with 11 three) ≡ listed (answer 1 0 0) (7 ∷ [])
