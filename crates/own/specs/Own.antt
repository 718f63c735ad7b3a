-- To believe. Which keys are ours: "`own` holds one to four records of 100 bytes, keys strictly increasing" (02, Wish 11), lent for reading. What asks whether
-- a key is ours asks here. Assumes nothing.
use Rattle.std.specs.Prelude.{ℕ, suc, ◌*◌, ◌/◌, ◌%◌, Bool, true, ◌&&◌, cond, List, [], ◌∷◌, map, eqb, leb, length, get_or}
use Rattle.octet.specs.Part.{part}
use Rattle.record.specs.Record.{key_of, record_form}
use Rattle.table.specs.Rows.{rows}
use Rattle.kept.specs.Keys.{◌∈◌, has}

-- our keys, as forms and plans know them, in the order of their records
abbrev pub Own : Type 0
Own = List ℕ

-- of the own records as lent: they themselves, and our keys
abbrev pub own_records : List ℕ → List (List ℕ)
own_records own = rows 100 (length own / 100) own

abbrev pub own_keys : List ℕ → Own
own_keys own = map key_of (own_records own)

-- is each in form, with a key above those before it, the first's at least low? What a record in form is, `record_form`, is handed in: the conversion asks the
-- same of old records
unfoldable pub rising_by : (List ℕ → Bool) → ℕ → List (List ℕ) → Bool
rising_by formed low [] = true
rising_by formed low (r ∷ rs) = formed r && leb low (key_of r) && rising_by formed (suc (key_of r)) rs

-- are they one to four records in form?
unfoldable pub own_by : (List ℕ → Bool) → List ℕ → Bool
own_by formed own =
    eqb (length own % 100) 0
    && leb 100 (length own)
    && leb (length own) 400
    && rising_by formed 0 (own_records own)

abbrev pub own_form : List ℕ → Bool
own_form own = own_by record_form own

-- is the key one of ours? As a test, and as a property
abbrev pub is_own : Own → ℕ → Bool
is_own own k = has k own

abbrev pub IsOwn : Own → ℕ → Type 0
IsOwn own k = k ∈ own

-- how many keys are ours; the first of them; the place of one, 0 for the first; the record of a place
abbrev pub own_count : Own → ℕ
own_count own = length own

abbrev pub first_own : Own → ℕ
first_own own = get_or own 0 0

unfoldable pub own_place : Own → ℕ → ℕ
own_place [] k = 0
own_place (j ∷ own) k = cond (eqb k j) 0 (suc (own_place own k))

abbrev pub own_record : List ℕ → ℕ → List ℕ
own_record own i = part (100 * i) 100 own
