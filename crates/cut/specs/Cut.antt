-- To believe. "The count 1 and the other addresses zero": what a conversion makes of a record, and of a waiting place. Assumes nothing.
use Rattle.std.specs.Prelude.{ℕ, cond, List, [], ◌∷◌, eqb, replicate}
use Rattle.octet.specs.Part.{splice}
use Rattle.waiting.specs.Place.{kind_of, place_record}

-- a record with its first address: byte 34 is 1, bytes 52 to 99 are zero, the others as they are
unfoldable pub converted : List ℕ → List ℕ
converted r = splice 34 (1 ∷ []) (splice 52 (replicate 48 0) r)

-- a waiting place: an inquiry with its record converted, a flood, which has none, as it is
unfoldable pub converted_place : List ℕ → List ℕ
converted_place p = cond (eqb (kind_of p) 2) (splice 40 (converted (place_record p)) p) p
