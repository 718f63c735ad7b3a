-- To believe. "The cache: C records, C from 10 to 256, length exactly 100 x C. Used records first, keys strictly increasing, none equal to the own key; the
-- rest all zero." Own keys are several, and C is at least ten times their number (02, Wish 11). As a property of the cache with a list of records, and as the
-- test that refusal 1 asks. Assumes nothing.
use Rattle.std.specs.Prelude.{ℕ, suc, ◌*◌, ◌/◌, ◌%◌, ◌≤◌, ◌≡◌, Bool, true, not, cond, ◌&&◌, List, [], ◌∷◌, map, leb, eqb, length, drop}
use Rattle.octet.specs.Part.{all_zero}
use Rattle.record.specs.Record.{key_of, record_form}
use Rattle.own.specs.Own.{Own, is_own}
use Rattle.table.specs.Rows.{rows, bytes_of}
use Rattle.kept.specs.Keys.{Every, Rising, plain}
use Rattle.kept.specs.Plain.{NotOwn}

abbrev pub keys_of : List (List ℕ) → List ℕ
keys_of recs = map key_of recs

-- C, of a cache of so many bytes
abbrev pub places_in : ℕ → ℕ
places_in size = size / 100

-- a cache under our keys may have so many bytes
pub record Places (own : Own) (size : ℕ) : Type 0 where
  pub whole : size % 100 ≡ 0
  pub least : 1000 ≤ size
  pub most : size ≤ 25600
  pub enough : 1000 * length own ≤ size

-- records that it may hold
pub record HeldRecords (own : Own) (recs : List (List ℕ)) : Type 0 where
  pub formed : Every (λ (r : List ℕ). record_form r ≡ true) recs
  pub rising : Rising plain 0 (keys_of recs)
  pub others : Every (NotOwn own) (keys_of recs)

-- the cache holds these records
pub record Form (own : Own) (cache : List ℕ) (recs : List (List ℕ)) : Type 0 where
  pub places : Places own (length cache)
  pub bytes : cache ≡ bytes_of (length cache) recs
  pub held : HeldRecords own recs

-- ---- the test

-- may the row r stand after keys below low? What a record in form is, `record_form`, is handed in: the conversion asks the same of old records
unfoldable pub follows : (List ℕ → Bool) → Own → ℕ → List ℕ → Bool
follows formed own low r = formed r && leb low (key_of r) && not (is_own own (key_of r))

-- how many rows, from the first, may stand so one after the other
unfoldable pub leading : (List ℕ → Bool) → Own → ℕ → List (List ℕ) → ℕ
leading formed own low [] = 0
leading formed own low (r ∷ rs) = cond (follows formed own low r) (suc (leading formed own (suc (key_of r)) rs)) 0

-- how many records the cache holds, and which
unfoldable pub held_in : Own → List ℕ → ℕ
held_in own cache = leading record_form own 0 (rows 100 (places_in (length cache)) cache)

unfoldable pub held_of : Own → List ℕ → List (List ℕ)
held_of own cache = rows 100 (held_in own cache) cache

-- has a cache C places, and nothing behind the first n records?
abbrev pub holds : Own → ℕ → List ℕ → Bool
holds own n cache =
    eqb (length cache % 100) 0
    && leb 1000 (length cache)
    && leb (length cache) 25600
    && leb (1000 * length own) (length cache)
    && all_zero (drop (100 * n) cache)

-- is the cache in form?
unfoldable pub cache_form : Own → List ℕ → Bool
cache_form own cache = holds own (held_in own cache) cache
