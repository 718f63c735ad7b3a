-- To believe. The list as bytes: an entry has 101, its kind and then a record; of a key gone its key alone, in the record's place. Assumes nothing.
use Rattle.std.specs.Prelude.{ℕ, List, ◌∷◌, ◌++◌, map, replicate}
use Rattle.octet.specs.Number.{digits_be}
use Rattle.table.specs.Rows.{joined}
use Rattle.changed.specs.Changes.{Change, gone, new, other}

-- 1 gone, with the key and 68 zero bytes; 2 new and 3 held with another record, each with the second cache's record
abbrev pub entry_bytes : Change → List ℕ
entry_bytes (gone k) = 1 ∷ (digits_be 256 32 k ++ replicate 68 0)
entry_bytes (new r) = 2 ∷ r
entry_bytes (other r) = 3 ∷ r

abbrev pub list_bytes : List Change → List ℕ
list_bytes l = joined (map entry_bytes l)
