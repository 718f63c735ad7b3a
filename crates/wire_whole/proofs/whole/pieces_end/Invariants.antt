-- `wire_whole::whole::pieces_end` meets its contract: the end of what is left, counted only up to 1233, is the end of the whole. Assumes nothing.
use Prim.Native.Nat.{◌≤◌, min}
use mathlib.Core.Path.{◌≡◌}
use lib.ListN.{drop}
use Rattle.wire_write.specs.Pieces.{end_rows}
use Rattle.wire_whole.proofs.whole.pieces_end.Given as goal

abbrev pub invariant-loop-i : goal.invariant-loop-i
invariant-loop-i l = (min 1233 (end_rows l.at (drop l.i l.rows) (drop l.i l.ps)) ≡ min 1233 (end_rows 12 l.rows l.ps)) × (l.at ≤ 1233)
