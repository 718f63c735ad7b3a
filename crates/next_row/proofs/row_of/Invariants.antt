-- `next_row::row_of` meets its contract: the place among all rows is that of the best so far and the rows from i on. Assumes nothing.
use mathlib.Core.Path.{◌≡◌}
use Prim.Native.Nat.{◌≤◌}
use Rattle.key.specs.Number.{number}
use Rattle.next_row.specs.Walk.{wanted, row_at, place_among}
use Rattle.next_row.proofs.WalkLaws.{placeAt}
use Rattle.next_row.proofs.row_of.Given as goal

abbrev pub invariant-loop-i : goal.invariant-loop-i
invariant-loop-i l =
    (l.best ≤ l.n)
    × (place_among (number l.target) (wanted l.path l.leave (number l.k)) l.n l.s
    ≡ placeAt (number l.target) (wanted l.path l.leave (number l.k)) l.n l.s l.best (row_at l.n l.s l.best) l.i)
