-- `cache::shape::count_held` meets its contract: what is counted of all is i and what is counted from place i on. Assumes nothing.
use mathlib.Core.Path.{◌≡◌}
use mathlib.Core.List.{List}
use Prim.Native.Nat.{ℕ, ◌+◌, ◌-◌, ◌*◌, ◌/◌, ◌%◌, ◌≤◌}
use lib.ListN.{length, drop}
use Rattle.table.specs.Rows.{rows}
use Rattle.cache.specs.Place.{ordered, Carried}
use Rattle.own.specs.Low.{low_at}
use Rattle.cache.proofs.shape.count_held.Given as goal

-- place i and what is counted from it on
abbrev pub from : List ℕ → ℕ → ℕ
from cache i = i + ordered (low_at cache i) (drop i (rows 100 (length cache / 100) cache))

abbrev pub invariant-loop-at : goal.invariant-loop-at
invariant-loop-at l =
    (l.end ≡ 100 * (length l.cache / 100))
    × (l.at ≤ l.end)
    × (l.at % 100 ≡ 0)
    × (ordered 0 (rows 100 (length l.cache / 100) l.cache) ≡ from l.cache (l.at / 100))
    × Carried l.cache (l.at / 100) l.last

abbrev pub decreases-loop-at : goal.decreases-loop-at
decreases-loop-at l = l.end - l.at
