-- Helps the code. The calls on lent memory that nobody has tested: refused with 1 where "lent memory is not as above" (a record to be learned is such memory
-- too, and not of our own key); then nothing changes. Tied to what is kept by `keys-learn` and `keys-without` (kept/RecordLaws). Assumes nothing.
use Rattle.std.specs.Prelude.{ℕ, not, List, [], ◌∷◌, eqb, length, Result, Ok, Err}
use Rattle.refusal.specs.Table.{Refusal, when, or_refuse}
use Rattle.key.specs.Number.{key_at}
use Rattle.record.specs.Record.{key_of, record_form}
use Rattle.own.specs.Own.{own_form, own_keys, is_own}
use Rattle.table.specs.Rows.{bytes_of}
use Rattle.cache.specs.Form.{held_of, cache_form}
use Rattle.cache.specs.Bytes.{after_learn, after_remove}

-- the refusals that every call has
abbrev pub memory_wrong : List ℕ → List ℕ → List Refusal → List Refusal
memory_wrong own cache more = when 1 (not (own_form own)) ∷ when 1 (not (cache_form (own_keys own) cache)) ∷ more

-- a key that is handed in
abbrev pub key_wrong : List ℕ → Refusal
key_wrong key = when 1 (not (eqb (length key) 32))

-- the records held by the cache that is lent with our own record
abbrev pub held_by : List ℕ → List ℕ → List (List ℕ)
held_by own cache = held_of (own_keys own) cache

-- what a call that writes the cache hands back: nothing, or the number that it is refused with, and the cache
pub record Changed : Type 0 where
  pub answer : Result (Unit {0}) ℕ
  pub cache : List ℕ

-- the number of an answer: 0 where it is not refused
abbrev pub change_number : Result (Unit {0}) ℕ → ℕ
change_number (Err n) = n
change_number (Ok x) = 0

abbrev pub cache_changed : Result (Unit {0}) ℕ → List ℕ → Changed
cache_changed a cache = record { answer = a; cache = cache }

abbrev pub learn_wrong : List ℕ → List ℕ → List ℕ → List Refusal
learn_wrong own cache r = memory_wrong own cache (when 1 (not (record_form r)) ∷ when 1 (is_own (own_keys own) (key_of r)) ∷ [])

unfoldable pub learn_call : List ℕ → List ℕ → List ℕ → Changed
learn_call own cache r =
    or_refuse (λ (n : ℕ). cache_changed (Err n) cache) (learn_wrong own cache r)
    (cache_changed (Ok tt) (bytes_of (length cache) (after_learn (own_keys own) (length cache) (held_by own cache) r)))

abbrev pub remove_wrong : List ℕ → List ℕ → List ℕ → List Refusal
remove_wrong own cache key = memory_wrong own cache (key_wrong key ∷ [])

unfoldable pub remove_call : List ℕ → List ℕ → List ℕ → Changed
remove_call own cache key =
    or_refuse (λ (n : ℕ). cache_changed (Err n) cache) (remove_wrong own cache key)
    (cache_changed (Ok tt) (bytes_of (length cache) (after_remove (key_at 0 key) (held_by own cache))))
