-- `key::order_at` meets its contract. The invariant: the words that are left decide. Assumes nothing.
use Rattle.std.proofs.Common.{◌≡◌}
use Rattle.octet.specs.Number.{value_be}
use Rattle.octet.specs.Part.{part}
use Rattle.key.specs.Number.{order_of}
use Rattle.key.proofs.PlaceLaws.{order_from}
use Rattle.key.proofs.ordered.order_at.Given as goal

abbrev pub invariant-loop-k : goal.invariant-loop-k
invariant-loop-k l = order_of (value_be 256 (part l.a 32 l.s)) (value_be 256 (part l.b 32 l.t)) ≡ order_from l.k l.a l.b l.s l.t
