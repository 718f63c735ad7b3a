-- `closest_row::place_of` meets its contract: the closest of all is the closest of the best so far and those from place i on. Assumes nothing.
use mathlib.Core.Path.{◌≡◌}
use Prim.Native.Nat.{◌*◌, ◌<◌}
use lib.ListN.{drop}
use Rattle.octet.specs.Part.{part}
use Rattle.key.specs.Number.{number}
use Rattle.table.specs.Rows.{rows}
use Rattle.closest_row.specs.Closest.{closest_from, closest_of, place_from, closest_place}
use Rattle.closest_row.proofs.place_of.Given as goal

abbrev pub invariant-loop-i : goal.invariant-loop-i
invariant-loop-i l =
    (l.best < l.n)
    × (closest_of (number l.target) (rows 100 l.n l.s) ≡ closest_from (number l.target) (part (100 * l.best) 100 l.s) (drop l.i (rows 100 l.n l.s)))
    × (closest_place (number l.target) (rows 100 l.n l.s) ≡ place_from (number l.target) l.best (part (100 * l.best) 100 l.s) l.i (drop l.i (rows 100 l.n l.s)))
