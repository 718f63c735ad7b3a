-- Helps the code. Where a key stands among rising keys, or would; and the answers of the searches. Assumes nothing.
use Rattle.std.specs.Prelude.{ℕ, zero, suc, ◌*◌, ◌≡◌, Bool, true, false, cond, ◌&&◌, ◌||◌, List, [], ◌∷◌, leb, ltb, eqb, Option, Some, None, Result, Ok, Err}
use Rattle.octet.specs.Number.{value_be}
use Rattle.octet.specs.Part.{part}
use Rattle.record.specs.Record.{key_of, record_form}
use Rattle.own.specs.Own.{Own, is_own}
use Rattle.cache.specs.Form.{held_in, cache_form}

-- the test of the form, with how many records are held
unfoldable pub cache_formed : Own → List ℕ → Option ℕ
cache_formed own cache = cond (cache_form own cache) (Some (held_in own cache)) None

-- is the row r a record whose key is at least low, whosever it is?
unfoldable pub rises : ℕ → List ℕ → Bool
rises low r = record_form r && leb low (key_of r)

-- how many rows, from the first, are records with rising keys
unfoldable pub ordered : ℕ → List (List ℕ) → ℕ
ordered low [] = 0
ordered low (r ∷ rs) = cond (rises low r) (suc (ordered (suc (key_of r)) rs)) 0

-- is one of the keys ours?
unfoldable pub any_own : Own → List ℕ → Bool
any_own own [] = false
any_own own (k ∷ ks) = is_own own k || any_own own ks

-- the first word of the key before place i, which the loop over the places carries along; anything before the first
abbrev pub Carried : List ℕ → ℕ → ℕ → Type 0
Carried cache zero last = Unit {0}
Carried cache (suc i) last = last ≡ value_be 256 (part (100 * i) 8 cache)

-- one place further
abbrev pub further : Result ℕ ℕ → Result ℕ ℕ
further (Ok i) = Ok (suc i)
further (Err i) = Err (suc i)

-- at the place of k, or before that of the first key above it
unfoldable pub find_key : ℕ → List ℕ → Result ℕ ℕ
find_key k [] = Err 0
find_key k (j ∷ ks) = cond (ltb j k) (further (find_key k ks)) (cond (eqb j k) (Ok 0) (Err 0))
