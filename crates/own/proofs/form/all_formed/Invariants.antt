-- `own::form::all_formed` meets its contract: each test of the size refuses; then the answer for all records is that for those from place i on. Assumes nothing.
use mathlib.Core.Path.{◌≡◌}
use lib.ListN.{drop}
use Rattle.record.specs.Record.{record_form}
use Rattle.table.specs.Rows.{rows}
use Rattle.own.specs.Own.{rising_by, own_form}
use Rattle.own.specs.Low.{low_at}
use Rattle.own.proofs.form.all_formed.Given as goal

abbrev pub invariant-loop-i : goal.invariant-loop-i
invariant-loop-i l =
    own_form l.own ≡ rising_by record_form (low_at l.own l.i) (drop l.i (rows 100 l.n l.own))
