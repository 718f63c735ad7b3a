-- Helps the code. "The record closest to the target, the own record included"; "The closest record must skip any held record" on the LOOKUP's path, "The own
-- record is never skipped" (02, Wish 2). Own records are several (02, Wish 11). Tied to document 01 by `ours-meets` (sentences/Theorems). Assumes nothing.
use Rattle.std.specs.Prelude.{ℕ, cond, List, [], ◌∷◌, ◌++◌}
use Rattle.own.specs.Own.{own_records}
use Rattle.path.specs.Path.{on_path}
unfoldable pub use Rattle.closest_row.specs.Closest.{closest_from, closest_of}

-- the records that may be shown: our own, and of those held the ones given
abbrev pub candidates : List (List ℕ) → List (List ℕ) → List (List ℕ)
candidates own held = own ++ held

-- of the records held, those that are not on the path
unfoldable pub off_path : List ℕ → List (List ℕ) → List (List ℕ)
off_path path [] = []
off_path path (r ∷ rs) = cond (on_path r path) (off_path path rs) (r ∷ off_path path rs)

-- the record that is shown for a target t: the closest of our own and those held that are not on the path
abbrev pub closest_past : (own : List ℕ) (recs : List (List ℕ)) (path : List ℕ) (t : ℕ) → List ℕ
closest_past own recs path t = closest_of t (candidates (own_records own) (off_path path recs))
