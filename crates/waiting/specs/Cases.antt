-- Worked cases. Tables in form and out of form, each out of it for one reason. Assumes nothing.
use Rattle.std.specs.Prelude.{◌≡◌, Bool, true, false, List, [], ◌∷◌, ◌++◌, ℕ, replicate}
use Rattle.table.specs.Rows.{bytes_of}
use Rattle.waiting.specs.Place.{new_place, inquiry_place, flood_place}
use Rattle.waiting.specs.Form.{waiting_form}

-- a key below 256, and a record of it with one address
abbrev pub case_key : ℕ → List ℕ
case_key k = replicate 31 0 ++ (k ∷ [])

abbrev pub record_bytes : ℕ → List ℕ
record_bytes k = case_key k ++ (0 ∷ 80 ∷ 1 ∷ 0 ∷ []) ++ replicate 64 0

abbrev pub flood : ℕ → ℕ → List ℕ
flood id k = flood_place id (case_key k)

abbrev pub inquiry : ℕ → ℕ → List ℕ
inquiry id k = inquiry_place id (record_bytes k)

-- a row: the first places of the table of a gauge with keys 9 and 11, and whether the table is in form
pub record FormRow : Type 0 where
  pub places : List (List ℕ)
  pub formed : Bool

abbrev pub row : List (List ℕ) → Bool → FormRow
row ps b = record { places = ps; formed = b }

-- in form: an empty table; ID 0, a flood to the own key, one to an inquiry's key. Out of form: equal IDs, falling IDs, three tries, kind 3, a byte that
-- is not zero, an inquiry whose record has another key, two inquiries for one key, one for each own key, a flood with a record, a used place after a free one
abbrev pub form_rows : List FormRow
form_rows =
    row [] true
    ∷ row (flood 0 9 ∷ inquiry 1 7 ∷ flood 2 7 ∷ inquiry 3 8 ∷ []) true
    ∷ row (flood 1 7 ∷ flood 1 8 ∷ []) false
    ∷ row (flood 2 7 ∷ flood 1 8 ∷ []) false
    ∷ row (new_place 1 1 3 (case_key 7) (replicate 100 0) ∷ []) false
    ∷ row (new_place 1 3 2 (case_key 7) (replicate 100 0) ∷ []) false
    ∷ row (((1 ∷ 0 ∷ 0 ∷ 0 ∷ 1 ∷ 2 ∷ 0 ∷ 5 ∷ []) ++ replicate 132 0) ∷ []) false
    ∷ row (new_place 1 2 2 (case_key 7) (record_bytes 8) ∷ []) false
    ∷ row (inquiry 1 7 ∷ inquiry 2 7 ∷ []) false
    ∷ row (inquiry 1 9 ∷ []) false
    ∷ row (inquiry 1 11 ∷ []) false
    ∷ row (new_place 1 1 2 (case_key 7) (record_bytes 7) ∷ []) false
    ∷ row (replicate 140 0 ∷ flood 1 7 ∷ []) false
    ∷ []

abbrev pub Hold : List FormRow → Type 0
Hold [] = Unit {0}
Hold (r ∷ rs) = (waiting_form (9 ∷ 11 ∷ []) (bytes_of 2240 r.places) ≡ r.formed) × Hold rs

abbrev pub FormCases : Type 0
FormCases = Hold form_rows
