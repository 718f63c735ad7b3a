-- `waiting::seek::slot` meets its contract: the places passed and the slot among those left are the slot. Assumes nothing.
use mathlib.Core.Path.{◌≡◌}
use Prim.Native.Nat.{◌+◌}
use lib.ListN.{drop}
use Rattle.table.specs.Rows.{rows}
use Rattle.waiting.specs.Slot.{slot_in}
use Rattle.waiting.proofs.seek.slot.Given as goal

abbrev pub invariant-loop-at : goal.invariant-loop-at
invariant-loop-at l = slot_in l.id (rows 140 l.used l.table) ≡ l.at + slot_in l.id (drop l.at (rows 140 l.used l.table))
