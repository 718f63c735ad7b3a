-- `runs::clear` meets its contract. The invariant: the first i bytes from the place are cleared, and no more. Assumes nothing.
use mathlib.Core.Path.{◌≡◌}
use lib.ListN.{replicate}
use Rattle.octet.specs.Part.{splice}
use Rattle.runs.proofs.clear.Given as goal

abbrev pub invariant-loop-i : goal.invariant-loop-i
invariant-loop-i l = l.s ≡ splice l.at (replicate l.i 0) l.initial.s
