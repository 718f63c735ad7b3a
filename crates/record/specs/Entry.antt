-- To believe. A route entry's contents on the wire (000 section 2.2.1, document 01): key 32, versions 2, port 2, flags 1, address count 1 (1 to 4),
-- the addresses of 16 bytes; the record that it names, and the entry that carries a record. Versions and flags are no part of the record,
-- and of the addresses the first only (document 02, request 13).
-- Assumes nothing.
use Rattle.std.specs.Prelude.{ℕ, ◌+◌, ◌*◌, Bool, ◌&&◌, List, [], ◌∷◌, ◌++◌, eqb, leb, length, get_or, replicate}
use Rattle.octet.specs.Part.{part}
use Rattle.record.specs.Record.{count_of, addresses_of}

-- how many addresses an entry has
abbrev pub entry_count : List ℕ → ℕ
entry_count v = get_or v 37 0

-- are these the contents of a route entry?
unfoldable pub entry_form : List ℕ → Bool
entry_form v = leb 1 (entry_count v) && leb (entry_count v) 4 && eqb (length v) (38 + 16 * entry_count v)

-- the record that an entry names: "keep the first only, with the port"
unfoldable pub record_of : List ℕ → List ℕ
record_of v =
    part 0 32 v ++ part 34 2 v ++ (1 ∷ 0 ∷ []) ++ part 38 16 v ++ replicate 48 0

-- the entry of the given versions that carries a record, its flags clear
unfoldable pub entry_of : ℕ → ℕ → List ℕ → List ℕ
entry_of major minor r =
    part 0 32 r ++ (major ∷ minor ∷ []) ++ part 32 2 r ++ (0 ∷ count_of r ∷ []) ++ addresses_of r
