-- Helps the code. Where the closest record stands: the first places on the two sides of the target whose records are not on the path, and which of one of our own and
-- those of two places it is. Assumes nothing.
use Rattle.std.specs.Prelude.{ℕ, ◌+◌, ◌-◌, ◌*◌, ◌≤◌, ◌<◌, Bool, cond, List, length}
use Rattle.octet.specs.Part.{part}
use Rattle.key.specs.Number.{key_at}
use Rattle.key.specs.Around.{closer}
use Rattle.own.specs.Own.{own_record}
use Rattle.kept.specs.Turned.{wrapped}
use Rattle.path.specs.Path.{on_path}
use Rattle.round.specs.Over.{pass_over}
use Rattle.neighbours.specs.declared.nearest.Spot.{Spot}
use Rattle.neighbours.specs.declared.nearest.Spot.TheVariants.{Own, Held}

-- of n places, the one i steps up from a place, counted round, and i steps down from before it
abbrev pub steps_up : ℕ → ℕ → ℕ → ℕ
steps_up n at i = wrapped n (at + i)

abbrev pub steps_down : ℕ → ℕ → ℕ → ℕ
steps_down n at i = wrapped n (at + (n - (i + 1)))

-- is the record of a place on the path?
abbrev pub skips_at : List ℕ → List ℕ → ℕ → Bool
skips_at path cache i = on_path (part (100 * i) 100 cache) path

-- how many records are on the path before the first that is not
abbrev pub skipped_up : List ℕ → List ℕ → ℕ → ℕ → ℕ
skipped_up path cache used at = pass_over (λ (i : ℕ). skips_at path cache (steps_up used at i)) 0 used

abbrev pub skipped_down : List ℕ → List ℕ → ℕ → ℕ → ℕ
skipped_down path cache used at = pass_over (λ (i : ℕ). skips_at path cache (steps_down used at i)) 0 used

-- a place among our own m records and the first n of the cache, and the record there
abbrev pub Within : ℕ → ℕ → Spot → Type 0
Within m n (Own i) = i < m
Within m n (Held i) = i < n

-- it lies within what is lent
abbrev pub Lies : List ℕ → List ℕ → Spot → Type 0
Lies own cache (Own i) = 100 * i + 100 ≤ length own
Lies own cache (Held i) = 100 * i + 100 ≤ length cache

abbrev pub record_at : List ℕ → List ℕ → Spot → List ℕ
record_at own cache (Own i) = own_record own i
record_at own cache (Held i) = part (100 * i) 100 cache

-- which of our own record of place i and those of two places is the closest to t
unfoldable pub nearest_of : ℕ → List ℕ → ℕ → List ℕ → ℕ → ℕ → Spot
nearest_of t own i cache up down =
    cond (closer t (key_at (100 * up) cache) (key_at (100 * down) cache))
    (cond (closer t (key_at (100 * up) cache) (key_at (100 * i) own)) (Held up) (Own i))
    (cond (closer t (key_at (100 * down) cache) (key_at (100 * i) own)) (Held down) (Own i))
