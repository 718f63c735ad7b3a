-- Helps the code. The walk over rows for the closest of the records that are looked for: not on the path, and without the one that is named where
-- the next is looked for. Assumes nothing.
use Rattle.std.specs.Prelude.{ℕ, ◌+◌, ◌*◌, Bool, true, not, cond, ◌&&◌, ◌||◌, List, [], ◌∷◌, eqb}
use Rattle.std.proofs.Math.Option.{Option, some, none}
use Rattle.octet.specs.Part.{part}
use Rattle.key.specs.Around.{closer}
use Rattle.record.specs.Record.{key_of}
use Rattle.table.specs.Rows.{rows}
use Rattle.path.specs.Path.{on_path}
use Rattle.reason.specs.Reason.{differs}

-- is the record kept where one of the key k is to be left out, or none?
abbrev pub kept : Bool → ℕ → List ℕ → Bool
kept leave k r = not leave || differs k r

-- is it looked for?
unfoldable pub wanted : List ℕ → Bool → ℕ → List ℕ → Bool
wanted path leave k r = not (on_path r path) && kept leave k r

-- the row of a place among the first n, if there is one there
abbrev pub row_at : ℕ → List ℕ → ℕ → Option (List ℕ)
row_at n s i = cond (eqb i n) none (some (part (100 * i) 100 s))

-- is the record taken in place of what was found before it?
abbrev pub takes_over : ℕ → List ℕ → Option (List ℕ) → Bool
takes_over t r none = true
takes_over t r (some x) = closer t (key_of r) (key_of x)

-- the place of the closest of the records that pass a test: what was found before, o, stands at place b, and those of the list stand from place i on
unfoldable pub place_from : ℕ → (List ℕ → Bool) → ℕ → Option (List ℕ) → ℕ → List (List ℕ) → ℕ
place_from t f b o i [] = b
place_from t f b o i (r ∷ rs) = let c = f r && takes_over t r o in place_from t f (cond c i b) (cond c (some r) o) (i + 1) rs

-- among the first n rows, the first of those equally close; n where none passes
abbrev pub place_among : ℕ → (List ℕ → Bool) → ℕ → List ℕ → ℕ
place_among t f n s = place_from t f n none 0 (rows 100 n s)

-- which of two that were found, the second only where it is closer
abbrev pub closer_of : ℕ → Option (List ℕ) → Option (List ℕ) → Option (List ℕ)
closer_of t none o = o
closer_of t (some r) none = some r
closer_of t (some r) (some x) = some (cond (closer t (key_of x) (key_of r)) x r)
