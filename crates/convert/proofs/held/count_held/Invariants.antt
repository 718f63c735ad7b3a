-- `convert::held::count_held` meets its contract: what is counted of all is i and what is counted from place i on. Assumes nothing.
use mathlib.Core.Path.{◌≡◌}
use Prim.Native.Nat.{◌+◌, ◌/◌}
use lib.ListN.{length, drop}
use Rattle.own.specs.Own.{own_keys}
use Rattle.table.specs.Rows.{rows}
use Rattle.cache.specs.Form.{leading}
use Rattle.own.specs.Low.{low_at}
use Rattle.convert.specs.Old.{old_record_form}
use Rattle.convert.proofs.held.count_held.Given as goal

abbrev pub invariant-loop-i : goal.invariant-loop-i
invariant-loop-i l =
    (l.n ≡ length l.cache / 100)
    × (leading old_record_form (own_keys l.own) 0 (rows 100 l.n l.cache) ≡ l.i + leading old_record_form (own_keys l.own) (low_at l.cache l.i) (drop l.i (rows 100 l.n l.cache)))
