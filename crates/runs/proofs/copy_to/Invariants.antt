-- `runs::copy_to` meets its contract. The invariant: the first i bytes are copied, and no more. Assumes nothing.
use mathlib.Core.Path.{◌≡◌}
use lib.ListN.{take}
use Rattle.octet.specs.Part.{splice}
use Rattle.runs.proofs.copy_to.Given as goal

abbrev pub invariant-loop-i : goal.invariant-loop-i
invariant-loop-i l = l.dst ≡ splice l.at (take l.i l.src) l.initial.dst
