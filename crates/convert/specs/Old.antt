-- To believe. The form that memory had while a record could have four addresses (document 01), which a conversion takes. Only what a record in form is
-- differs: places, order and keys are asked for as in the form of today, of own records too. Assumes nothing.
use Rattle.std.specs.Prelude.{ℕ, ◌+◌, ◌*◌, Bool, ◌&&◌, List, eqb, leb, length, drop, get_or}
use Rattle.octet.specs.Part.{all_zero}
use Rattle.record.specs.Record.{count_of}
use Rattle.own.specs.Own.{Own, own_by}
use Rattle.table.specs.Rows.{rows}
use Rattle.cache.specs.Form.{places_in, leading, holds}
use Rattle.waiting.specs.Form.{used_of, places_of, places_by}

-- "address count 1 (1 to 4), one zero byte, four addresses of 16 bytes, the unused ones zero"
unfoldable pub old_record_form : List ℕ → Bool
old_record_form r =
    eqb (length r) 100
    && leb 1 (count_of r)
    && leb (count_of r) 4
    && eqb (get_or r 35 0) 0
    && all_zero (drop (36 + 16 * count_of r) r)

-- are the own records such records?
abbrev pub old_own_form : List ℕ → Bool
old_own_form own = own_by old_record_form own

-- how many such records a cache holds, and which; is it in form?
unfoldable pub old_held_in : Own → List ℕ → ℕ
old_held_in own cache = leading old_record_form own 0 (rows 100 (places_in (length cache)) cache)

abbrev pub old_held_of : Own → List ℕ → List (List ℕ)
old_held_of own cache = rows 100 (old_held_in own cache) cache

unfoldable pub old_cache_form : Own → List ℕ → Bool
old_cache_form own cache = holds own (old_held_in own cache) cache

-- is the waiting table?
unfoldable pub old_waiting_form : Own → List ℕ → Bool
old_waiting_form own t = eqb (length t) 2240 && all_zero (drop (140 * used_of t) t) && places_by old_record_form own 0 (places_of t)
