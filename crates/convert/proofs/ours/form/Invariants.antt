-- `convert::ours::form` meets its contract: each test of the size refuses; then the answer for all records is that for those from place i on. Assumes nothing.
use mathlib.Core.Path.{◌≡◌}
use Prim.Native.Nat.{◌/◌}
use lib.ListN.{length, drop}
use Rattle.table.specs.Rows.{rows}
use Rattle.own.specs.Own.{rising_by}
use Rattle.own.specs.Low.{low_at}
use Rattle.convert.specs.Old.{old_record_form, old_own_form}
use Rattle.convert.proofs.ours.form.Given as goal

abbrev pub invariant-loop-i : goal.invariant-loop-i
invariant-loop-i l =
    (l.n ≡ length l.own / 100)
    × (old_own_form l.own ≡ rising_by old_record_form (low_at l.own l.i) (drop l.i (rows 100 l.n l.own)))
