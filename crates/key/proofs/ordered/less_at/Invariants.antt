-- `key::less_at` meets its contract. The invariant: the words that are left decide. Assumes nothing.
use Rattle.std.proofs.Common.{◌≡◌}
use Rattle.key.specs.Number.{key_at, order_of}
use Rattle.key.proofs.PlaceLaws.{order_from}
use Rattle.key.proofs.ordered.less_at.Given as goal

abbrev pub invariant-loop-word : goal.invariant-loop-word
invariant-loop-word l = order_of (key_at l.a l.s) (key_at l.b l.t) ≡ order_from l.word l.a l.b l.s l.t
