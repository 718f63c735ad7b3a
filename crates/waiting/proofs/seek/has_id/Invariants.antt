-- `waiting::seek::has_id` meets its contract: the answer is always the answer for what is left. Assumes nothing.
use mathlib.Core.Path.{◌≡◌}
use lib.ListN.{drop}
use Rattle.table.specs.Rows.{rows, any_of}
use Rattle.waiting.specs.Seek.{has_id}
use Rattle.waiting.proofs.seek.has_id.Given as goal

abbrev pub invariant-loop-at : goal.invariant-loop-at
invariant-loop-at l = any_of (has_id l.id) (rows 140 l.used l.table) ≡ any_of (has_id l.id) (drop l.at (rows 140 l.used l.table))
