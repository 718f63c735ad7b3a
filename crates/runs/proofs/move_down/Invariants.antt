-- `runs::move_down` meets its contract: by a known distance, or in a loop that has moved the first i bytes and no more. Assumes nothing.
use mathlib.Core.Path.{◌≡◌}
use Rattle.octet.specs.Part.{part, splice}
use Rattle.runs.proofs.move_down.Given as goal

abbrev pub invariant-loop-i : goal.invariant-loop-i
invariant-loop-i l = l.s ≡ splice l.to (part l.from l.i l.initial.s) l.initial.s
