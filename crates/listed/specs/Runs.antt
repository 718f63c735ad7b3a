-- Helps the code. Which places are in the neighbour list of one of our own keys, by runs of places. Tied to the lists by `listed-runs` (ListedLaws).
-- Assumes nothing.
use Rattle.std.specs.Prelude.{ℕ, ◌≤◌, Bool, ◌&&◌, ◌||◌, List, ltb, length, get_or}
use Rattle.kept.specs.Plain.{count_below}
use Rattle.kept.specs.Turned.{count_under, in_run}
use Rattle.listed.specs.declared.Run.{Run}
use Rattle.listed.specs.declared.Runs.{Runs}

-- an own key among the keys
abbrev pub run_of : ℕ → List ℕ → Run
run_of own keys = record { first = count_under own keys; below = count_below own keys }

-- own key i, or the first where there is no such key
abbrev pub run_at : List ℕ → List ℕ → ℕ → Run
run_at owns keys i = run_of (get_or owns i (get_or owns 0 0)) keys

abbrev pub runs_of : List ℕ → List ℕ → Runs
runs_of owns keys =
    record { count = length owns; a = run_at owns keys 0; b = run_at owns keys 1; c = run_at owns keys 2; d = run_at owns keys 3 }

-- is place x of n in the list of the run's own key?
abbrev pub in_one : ℕ → ℕ → Run → Bool
in_one n x r = in_run n x r.first r.below

-- in one of the lists?
unfoldable pub in_runs : ℕ → ℕ → Runs → Bool
in_runs n x r =
    in_one n x r.a || (ltb 1 r.count && (in_one n x r.b
    || (ltb 2 r.count && (in_one n x r.c || (ltb 3 r.count && in_one n x r.d)))))

-- the runs are among n places
abbrev pub Fit : ℕ → Run → Type 0
Fit n r = (r.first ≤ n) × (r.below ≤ n)

abbrev pub Fits : ℕ → Runs → Type 0
Fits n r = Fit n r.a × Fit n r.b × Fit n r.c × Fit n r.d
