-- `cache::shape::rest_above` meets its contract. The invariant: the words that are left decide. Assumes nothing.
use mathlib.Core.Path.{◌≡◌}
use Rattle.key.specs.Number.{key_at, order_of}
use Rattle.key.proofs.PlaceLaws.{order_from}
use Rattle.cache.proofs.shape.rest_above.Given as goal

abbrev pub invariant-loop-word : goal.invariant-loop-word
invariant-loop-word l =
    order_of (key_at l.before l.cache) (key_at l.at l.cache) ≡ order_from l.word l.before l.at l.cache l.cache
