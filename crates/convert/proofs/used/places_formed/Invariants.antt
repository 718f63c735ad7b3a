-- `convert::used::places_formed` meets its contract: the form of the places is always that of those left, from the ID passed on. Assumes nothing.
use mathlib.Core.Path.{◌≡◌}
use Prim.Native.Nat.{◌≤◌}
use lib.ListN.{drop}
use Rattle.own.specs.Own.{own_keys}
use Rattle.table.specs.Rows.{rows}
use Rattle.waiting.specs.Form.{places_by}
use Rattle.convert.specs.Old.{old_record_form}
use Rattle.convert.proofs.used.places_formed.Given as goal

abbrev pub invariant-loop-at : goal.invariant-loop-at
invariant-loop-at l =
    (l.low ≤ 4294967296)
    × (places_by old_record_form (own_keys l.own) 0 (rows 140 l.used l.table) ≡ places_by old_record_form (own_keys l.own) l.low (drop l.at (rows 140 l.used l.table)))
