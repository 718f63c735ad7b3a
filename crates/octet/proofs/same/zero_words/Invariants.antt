-- `octet::zero_words` meets its contract. The invariant: the words that are left decide. Assumes nothing.
use mathlib.Core.Path.{◌≡◌}
use Prim.Native.Nat.{◌+◌, ◌-◌, ◌*◌}
use Rattle.octet.specs.Part.{part, all_zero}
use Rattle.octet.proofs.same.zero_words.Given as goal

abbrev pub invariant-loop-k : goal.invariant-loop-k
invariant-loop-k l = all_zero (part l.at (8 * l.n) l.s) ≡ all_zero (part (l.at + 8 * l.k) (8 * l.n - 8 * l.k) l.s)
