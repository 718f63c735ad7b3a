-- To believe. The neighbour list in lent bytes: its keys of 32 bytes, most significant first, at the output's start, and how many are of each side. Which keys
-- they are is in kept. Assumes nothing.
use Rattle.std.specs.Prelude.{ℕ, List, [], ◌∷◌, ◌++◌, length}
use Rattle.octet.specs.Number.{digits_be}
use Rattle.octet.specs.Part.{splice}
use Rattle.key.specs.Around.{below, above}
use Rattle.kept.specs.Plain.{neighbours, neighbour_list}
use Rattle.cache.specs.Form.{keys_of}
use Rattle.neighbours.specs.declared.listing.Counts.{Counts}

-- the keys, 32 bytes each
unfoldable pub key_bytes : List ℕ → List ℕ
key_bytes [] = []
key_bytes (k ∷ ks) = digits_be 256 32 k ++ key_bytes ks

-- the neighbour list of an own key at the output's start, and its two counts
abbrev pub after_list : ℕ → List (List ℕ) → List ℕ → List ℕ
after_list own recs out = splice 0 (key_bytes (neighbour_list own (keys_of recs))) out

abbrev pub counts_of : ℕ → List (List ℕ) → Counts
counts_of own recs = record {
  below = length (neighbours own below (keys_of recs));
  above = length (neighbours own above (keys_of recs));
}
