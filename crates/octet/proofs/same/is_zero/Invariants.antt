-- `octet::is_zero` meets its contract. The invariant: the blocks that are left decide. Assumes nothing.
use mathlib.Core.Path.{◌≡◌}
use Prim.Native.Nat.{◌*◌}
use lib.ListN.{drop}
use Rattle.octet.specs.Part.{all_zero}
use Rattle.octet.proofs.same.is_zero.Given as goal

abbrev pub invariant-loop-block : goal.invariant-loop-block
invariant-loop-block l = all_zero l.s ≡ all_zero (drop (64 * l.block) l.s)
