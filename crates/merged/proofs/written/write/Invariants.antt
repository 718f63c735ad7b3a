-- `merged::written::write` meets its contract. The invariant: with what is left written from here on, the whole list stands there. Assumes nothing.
use mathlib.Core.Path.{◌≡◌}
use Prim.Native.Nat.{◌+◌, ◌-◌, ◌*◌, ◌≤◌}
use lib.ListN.{length}
use Rattle.octet.specs.Part.{splice}
use Rattle.table.specs.Rows.{rows}
use Rattle.changed.specs.Changes.{changes}
use Rattle.changed.specs.Entries.{list_bytes}
use Rattle.merged.proofs.StepLaws.{Rest}
use Rattle.merged.proofs.written.write.Given as goal

abbrev pub invariant-loop-i : goal.invariant-loop-i
invariant-loop-i l =
    (l.i ≤ l.used) × (l.j ≤ l.held) × (length l.output ≡ length l.initial.output) × (l.at ≤ 101 * (l.i + l.j)) × (l.at + 101 * length (Rest l.before l.used l.after l.held l.i l.j) ≤ length l.output)
    × (splice l.at (list_bytes (Rest l.before l.used l.after l.held l.i l.j)) l.output ≡ splice 0 (list_bytes (changes (rows 100 l.used l.before) (rows 100 l.held l.after))) l.initial.output)

abbrev pub decreases-loop-i : goal.decreases-loop-i
decreases-loop-i l = (l.used + l.held) - (l.i + l.j)
