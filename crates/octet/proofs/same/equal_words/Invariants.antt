-- `octet::equal_words` meets its contract. The invariant: the words that are left decide. Assumes nothing.
use mathlib.Core.Path.{◌≡◌}
use Prim.Native.Nat.{◌*◌}
use Rattle.octet.specs.Part.{part, same}
use Rattle.octet.proofs.TestLaws.{same_from_lem}
use Rattle.octet.proofs.same.equal_words.Given as goal

abbrev pub invariant-loop-word : goal.invariant-loop-word
invariant-loop-word l = same (part l.a (8 * l.n) l.s) (part l.b (8 * l.n) l.t) ≡ same_from_lem l.word l.n l.a l.b l.s l.t
