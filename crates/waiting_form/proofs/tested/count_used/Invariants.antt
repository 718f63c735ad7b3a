-- `waiting_form::tested::count_used` meets its contract: the places passed and the used ones among those left are the used ones. Assumes nothing.
use mathlib.Core.Path.{◌≡◌}
use Prim.Native.Nat.{◌+◌}
use lib.ListN.{drop}
use Rattle.table.specs.Rows.{rows}
use Rattle.waiting.specs.Form.{used_in, used_of}
use Rattle.waiting_form.proofs.tested.count_used.Given as goal

abbrev pub invariant-loop-at : goal.invariant-loop-at
invariant-loop-at l = used_of l.table ≡ l.at + used_in (drop l.at (rows 140 16 l.table))
