-- `runs::shift` meets its contract. The invariant: the first i bytes are moved, and no more. Assumes nothing.
use mathlib.Core.Path.{◌≡◌}
use Rattle.octet.specs.Part.{part, splice}
use Rattle.runs.proofs.rows.shift.Given as goal

abbrev pub invariant-loop-i : goal.invariant-loop-i
invariant-loop-i g l = l.s ≡ splice 0 (part g.row.R l.i l.initial.s) l.initial.s
