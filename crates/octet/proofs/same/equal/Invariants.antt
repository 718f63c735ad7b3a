-- `octet::equal` meets its contract. The invariant: the flag and what is left to compare decide. Assumes nothing.
use mathlib.Core.Path.{◌≡◌}
use mathlib.Core.Bool.{◌&&◌}
use lib.ListN.{drop}
use Rattle.octet.specs.Part.{same}
use Rattle.octet.proofs.same.equal.Given as goal

abbrev pub invariant-loop-i : goal.invariant-loop-i
invariant-loop-i l = same l.a l.b ≡ l.same && same (drop l.i l.a) (drop l.i l.b)
