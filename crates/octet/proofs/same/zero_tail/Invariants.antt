-- `octet::zero_tail` meets its contract. The invariant: what is left decides. Assumes nothing.
use mathlib.Core.Path.{◌≡◌}
use lib.ListN.{drop}
use Rattle.octet.specs.Part.{all_zero}
use Rattle.octet.proofs.same.zero_tail.Given as goal

abbrev pub invariant-loop-i : goal.invariant-loop-i
invariant-loop-i l = all_zero (drop l.at l.s) ≡ all_zero (drop l.i l.s)
