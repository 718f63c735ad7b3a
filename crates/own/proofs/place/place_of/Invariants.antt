-- `own::place::place_of` meets its contract: the key's place among all is i and its place among those from place i on. Assumes nothing.
use mathlib.Core.Path.{◌≡◌}
use mathlib.Core.List.{map}
use Prim.Native.Nat.{◌+◌}
use lib.ListN.{drop}
use Rattle.key.specs.Number.{key_at}
use Rattle.record.specs.Record.{key_of}
use Rattle.table.specs.Rows.{rows}
use Rattle.kept.specs.Keys.{has}
use Rattle.own.specs.Own.{own_place}
use Rattle.own.proofs.place.place_of.Given as goal

abbrev pub invariant-loop-i : goal.invariant-loop-i
invariant-loop-i l =
    (has (key_at l.at l.s) (map key_of (rows 100 l.n l.own)) ≡ has (key_at l.at l.s) (map key_of (drop l.i (rows 100 l.n l.own))))
    × (own_place (map key_of (rows 100 l.n l.own)) (key_at l.at l.s) ≡ l.i + own_place (map key_of (drop l.i (rows 100 l.n l.own))) (key_at l.at l.s))
