-- `waiting::seek::find_inquiry` meets its contract: the answer is always the answer for what is left. Assumes nothing.
use mathlib.Core.Path.{◌≡◌}
use lib.ListN.{drop}
use Rattle.key.specs.Number.{key_at}
use Rattle.table.specs.Rows.{rows}
use Rattle.waiting.specs.Form.{is_inquiry}
use Rattle.table.specs.Seek.{seek}
use Rattle.waiting.proofs.seek.find_inquiry.Given as goal

abbrev pub invariant-loop-at : goal.invariant-loop-at
invariant-loop-at l =
    seek (is_inquiry (key_at l.place l.key)) l.start (drop l.start (rows 140 l.used l.table))
    ≡ seek (is_inquiry (key_at l.place l.key)) l.at (drop l.at (rows 140 l.used l.table))
