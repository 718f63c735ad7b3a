-- `digits::put_hex` meets its contract: what stands there is the digits of the first i bytes. Assumes nothing.
use mathlib.Core.Path.{◌≡◌}
use lib.ListN.{take}
use Rattle.octet.specs.Part.{splice}
use Rattle.digits.specs.Digits.{hex_of}
use Rattle.digits.proofs.put_hex.Given as goal

abbrev pub invariant-loop-i : goal.invariant-loop-i
invariant-loop-i l = l.out ≡ splice l.at (hex_of (take l.i l.s)) l.initial.out
