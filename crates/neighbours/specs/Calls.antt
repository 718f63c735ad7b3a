-- Helps the code. The two calls on lent memory that nobody has tested: refused with 1 where "lent memory is not as above" (a target is such memory too, and
-- a path, "1 if not whole ones", and the key whose list is asked for), with 12 where that key is not ours (02, Wish 11), with 15 where the output is "shorter than
-- 320 bytes"; then nothing changes, counts are 0 and no record is shown. Tied to document 01 by `ours-meets` (sentences/Theorems). Assumes nothing.
use Rattle.std.specs.Prelude.{ℕ, ◌+◌, ◌*◌, ◌≤◌, ◌<◌, not, List, [], ◌∷◌, ltb, length, Result, Ok, Err}
use Rattle.refusal.specs.Table.{Refusal, when, or_refuse}
use Rattle.key.specs.Number.{key_at}
use Rattle.own.specs.Own.{own_keys, own_records, is_own}
use Rattle.path.specs.Path.{path_form}
use Rattle.search.specs.Halving.{halvings}
use Rattle.cache.specs.Form.{keys_of}
use Rattle.cache.specs.Calls.{memory_wrong, key_wrong, held_by}
use Rattle.neighbours.specs.Listing.{after_list, counts_of}
use Rattle.neighbours.specs.Closest.{candidates, off_path, closest_of}
use Rattle.neighbours.specs.Where.{record_at}
use Rattle.neighbours.specs.declared.listing.Counts.{Counts}
use Rattle.neighbours.specs.declared.nearest.Spot.{Spot}
use Rattle.neighbours.specs.declared.nearest.Spot.TheVariants.{Own, Held}

-- what the neighbour list hands back: the counts, or the number that it is refused with, and the output
pub record Written : Type 0 where
  pub answer : Result Counts ℕ
  pub output : List ℕ

-- the number of an answer: 0 where it is not refused
abbrev pub list_number : Result Counts ℕ → ℕ
list_number (Err n) = n
list_number (Ok c) = 0

-- its counts: no keys where it is refused
abbrev pub list_counts : Result Counts ℕ → Counts
list_counts (Err n) = record { below = 0; above = 0 }
list_counts (Ok c) = c

abbrev pub list_written : Result Counts ℕ → List ℕ → Written
list_written a out = record { answer = a; output = out }

abbrev pub list_wrong : (own cache key out : List ℕ) → List Refusal
list_wrong own cache key out =
    memory_wrong own cache (key_wrong key ∷ when 12 (not (is_own (own_keys own) (key_at 0 key))) ∷ when 15 (ltb (length out) 320) ∷ [])

unfoldable pub list_call : (own cache key out : List ℕ) → Written
list_call own cache key out =
    or_refuse (λ (n : ℕ). list_written (Err n) out) (list_wrong own cache key out)
    (list_written (Ok (counts_of (key_at 0 key) (held_by own cache))) (after_list (key_at 0 key) (held_by own cache) out))

-- what the call for the closest record hands back: the number, and the record that is shown
pub record Shown : Type 0 where
  pub number : ℕ
  pub bytes : List ℕ

abbrev pub shown : ℕ → List ℕ → Shown
shown n r = record { number = n; bytes = r }

-- an answer, with the bytes of the record that it names
abbrev pub shown_by : List ℕ → List ℕ → Result Spot ℕ → Shown
shown_by own cache (Err n) = shown n []
shown_by own cache (Ok x) = shown 0 (record_at own cache x)

-- a place that it names is one of our records, or a used one, which lies within the cache
abbrev pub Inside : List ℕ → List ℕ → Result Spot ℕ → Type 0
Inside own cache (Err n) = Unit {0}
Inside own cache (Ok (Own i)) = i < length (own_records own)
Inside own cache (Ok (Held i)) = (i < length (held_by own cache)) × (100 * i + 100 ≤ length cache)

-- a path that is handed in
abbrev pub path_wrong : List ℕ → Refusal
path_wrong path = when 1 (not (path_form path))

abbrev pub closest_wrong : List ℕ → List ℕ → List ℕ → List ℕ → List Refusal
closest_wrong own cache path target = memory_wrong own cache (path_wrong path ∷ key_wrong target ∷ [])

unfoldable pub closest_call : (own cache path target : List ℕ) → Shown
closest_call own cache path target =
    or_refuse (λ (n : ℕ). shown n []) (closest_wrong own cache path target)
    (shown 0 (closest_of (key_at 0 target) (candidates (own_records own) (off_path path (held_by own cache)))))

-- how many of the keys held were compared with the target, those on the path too; none where it is refused (02, Wish 8)
unfoldable pub closest_compared : (own cache path target : List ℕ) → ℕ
closest_compared own cache path target =
    or_refuse (λ (n : ℕ). 0) (closest_wrong own cache path target) (halvings (keys_of (held_by own cache)) (key_at 0 target))
