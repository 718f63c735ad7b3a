-- `path::on_path` meets its contract. Invariants: nothing is found yet, and what the whole path answers is what the endpoints from number k on answer; within an
-- endpoint, what its addresses from number i on or the endpoints behind it answer. Assumes nothing.
use mathlib.Core.Path.{◌≡◌}
use mathlib.Core.Bool.{false, ◌||◌}
use Prim.Native.Nat.{◌-◌, ◌≤◌}
use Rattle.octet.specs.Part.{part}
use Rattle.path.specs.Path.{on_path}
use Rattle.path.proofs.OnPathLaws.{leftFrom, addressesFrom}
use Rattle.path.proofs.on_path.Given as goal

abbrev pub invariant-loop-i : goal.invariant-loop-i
invariant-loop-i l =
    (l.found ≡ false) × (l.i ≤ l.count)
    × (on_path (part l.at 100 l.s) l.path ≡ addressesFrom (part l.at 100 l.s) l.path l.i (part l.start 18 l.path) || leftFrom (part l.at 100 l.s) l.path l.k)

abbrev pub decreases-loop-i : goal.decreases-loop-i
decreases-loop-i l = l.count - l.i

abbrev pub invariant-path : goal.invariant-path
invariant-path l =
    (l.found ≡ false) × (l.k ≤ l.endpoints) × (on_path (part l.at 100 l.s) l.path ≡ leftFrom (part l.at 100 l.s) l.path l.k)

abbrev pub decreases-path : goal.decreases-path
decreases-path l = l.endpoints - l.k
