-- `cache::shape::holds_own` meets its contract: whether one of all our keys is held is whether one of those from place i on is. Assumes nothing.
use mathlib.Core.Path.{◌≡◌}
use Prim.Native.Nat.{◌/◌}
use lib.ListN.{length, drop}
use Rattle.table.specs.Rows.{rows}
use Rattle.cache.specs.Form.{keys_of}
use Rattle.cache.specs.Place.{any_own}
use Rattle.cache.proofs.shape.holds_own.Given as goal

abbrev pub invariant-loop-i : goal.invariant-loop-i
invariant-loop-i l =
    (l.n ≡ length l.own / 100)
    × (any_own (keys_of (rows 100 l.n l.own)) (keys_of (rows 100 l.used l.cache)) ≡ any_own (keys_of (drop l.i (rows 100 l.n l.own))) (keys_of (rows 100 l.used l.cache)))
