-- `waiting::seek::find` meets its contract: the answer is always the answer for what is left. Assumes nothing.
use mathlib.Core.Path.{◌≡◌}
use lib.ListN.{drop}
use Rattle.table.specs.Rows.{rows}
use Rattle.table.specs.Seek.{seek}
use Rattle.waiting.specs.Seek.{is_at}
use Rattle.waiting.proofs.seek.find.Given as goal

abbrev pub invariant-loop-at : goal.invariant-loop-at
invariant-loop-at l =
    seek (is_at l.id l.kind) 0 (rows 140 l.used l.table) ≡ seek (is_at l.id l.kind) l.at (drop l.at (rows 140 l.used l.table))
