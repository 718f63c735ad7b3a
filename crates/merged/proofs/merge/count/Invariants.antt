-- `merged::merge::count` meets its contract. The invariant: what is counted and what is listed from here on is the whole. Assumes nothing.
use mathlib.Core.Path.{◌≡◌}
use Prim.Native.Nat.{◌+◌, ◌-◌, ◌≤◌}
use lib.ListN.{length}
use Rattle.table.specs.Rows.{rows}
use Rattle.changed.specs.Changes.{changes}
use Rattle.merged.proofs.StepLaws.{Rest}
use Rattle.merged.proofs.merge.count.Given as goal

abbrev pub invariant-loop-i : goal.invariant-loop-i
invariant-loop-i l =
    (l.i ≤ l.used) × (l.j ≤ l.held) × (l.n ≤ l.i + l.j) × (l.n + length (Rest l.before l.used l.after l.held l.i l.j) ≡ length (changes (rows 100 l.used l.before) (rows 100 l.held l.after)))

abbrev pub decreases-loop-i : goal.decreases-loop-i
decreases-loop-i l = (l.used + l.held) - (l.i + l.j)
