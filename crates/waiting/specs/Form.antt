-- To believe. When the waiting table is in form: "Used places first, IDs strictly increasing; free places all zero. An inquiry's record is well formed
-- and has the place's key; no two inquiries have the same key, and none has the own key. A flood's record is all zero." No inquiry has any of our own keys
-- (02, Wish 11). Assumes nothing.
use Rattle.std.specs.Prelude.{ℕ, suc, ◌*◌, ◌≤◌, ◌≡◌, Bool, true, not, ◌&&◌, ◌||◌, cond, List, [], ◌∷◌, eqb, leb, length, drop, get_or}
use Rattle.octet.specs.Part.{all_zero}
use Rattle.record.specs.Record.{key_of, record_form}
use Rattle.own.specs.Own.{Own, is_own}
use Rattle.table.specs.Rows.{rows, bytes_of, Sized, any_of}
use Rattle.waiting.specs.Place.{id_of, kind_of, tries_of, place_key, place_record}

-- ---- a used place, for a gauge with our keys

abbrev pub flood_form : List ℕ → Bool
flood_form p = eqb (kind_of p) 1 && all_zero (place_record p)

-- what a record in form is, `record_form`, is handed in: the conversion asks the same of old records
abbrev pub inquiry_form : (List ℕ → Bool) → Own → List ℕ → Bool
inquiry_form formed own p =
    eqb (kind_of p) 2 && formed (place_record p) && eqb (key_of (place_record p)) (place_key p) && not (is_own own (place_key p))

unfoldable pub place_by : (List ℕ → Bool) → Own → List ℕ → Bool
place_by formed own p =
    leb (tries_of p) 2 && eqb (get_or p 6 0) 0 && eqb (get_or p 7 0) 0 && (flood_form p || inquiry_form formed own p)

abbrev pub place_form : Own → List ℕ → Bool
place_form own p = place_by record_form own p

-- ---- the used places

-- is the place an inquiry for the key?
abbrev pub is_inquiry : ℕ → List ℕ → Bool
is_inquiry k p = eqb (kind_of p) 2 && eqb (place_key p) k

-- is the place an inquiry, and one of those after it one for the same key?
abbrev pub again : List ℕ → List (List ℕ) → Bool
again p ps = eqb (kind_of p) 2 && any_of (is_inquiry (place_key p)) ps

-- is each in form, with an ID above those before it, the first's at least low, and no inquiry's key that of a later one?
unfoldable pub places_by : (List ℕ → Bool) → Own → ℕ → List (List ℕ) → Bool
places_by formed own low [] = true
places_by formed own low (p ∷ ps) = place_by formed own p && leb low (id_of p) && not (again p ps) && places_by formed own (suc (id_of p)) ps

abbrev pub places_form : Own → ℕ → List (List ℕ) → Bool
places_form own low ps = places_by record_form own low ps

-- ---- the table

-- how many places stand before the first free one
unfoldable pub used_in : List (List ℕ) → ℕ
used_in [] = 0
used_in (p ∷ ps) = cond (eqb (kind_of p) 0) 0 (suc (used_in ps))

unfoldable pub used_of : List ℕ → ℕ
used_of t = used_in (rows 140 16 t)

-- the used places
abbrev pub places_of : List ℕ → List (List ℕ)
places_of t = rows 140 (used_of t) t

unfoldable pub waiting_form : Own → List ℕ → Bool
waiting_form own t = eqb (length t) 2240 && all_zero (drop (140 * used_of t) t) && places_form own 0 (places_of t)

-- the same as a property of a list of places: the table is this list, and then zeros
pub record PlacesForm (own : Own) (t : List ℕ) (ps : List (List ℕ)) : Type 0 where
  pub bytes : t ≡ bytes_of 2240 ps
  pub sized : Sized 140 ps
  pub few : length ps ≤ 16
  pub places : places_form own 0 ps ≡ true
