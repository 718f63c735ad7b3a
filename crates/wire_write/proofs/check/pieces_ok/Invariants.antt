-- `wire_write::check::pieces_ok` meets its contract: what is left to test is the test of the whole. Assumes nothing.
use mathlib.Core.Path.{◌≡◌}
use lib.ListN.{drop}
use Rattle.wire_write.specs.Pieces.{lent_of, rows_ok}
use Rattle.wire_write.proofs.check.pieces_ok.Given as goal

abbrev pub invariant-loop-i : goal.invariant-loop-i
invariant-loop-i l =
    rows_ok (lent_of l.spelled l.first l.second) (drop l.i l.rows) (drop l.i l.ps) ≡ rows_ok (lent_of l.spelled l.first l.second) l.rows l.ps
