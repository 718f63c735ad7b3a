-- `own::place::is_any` meets its contract: whether the key is one of all is whether it is one of those from place i on. Assumes nothing.
use mathlib.Core.Path.{◌≡◌}
use mathlib.Core.List.{map}
use lib.ListN.{drop}
use Rattle.key.specs.Number.{key_at}
use Rattle.record.specs.Record.{key_of}
use Rattle.table.specs.Rows.{rows}
use Rattle.kept.specs.Keys.{has}
use Rattle.own.proofs.place.is_any.Given as goal

abbrev pub invariant-loop-i : goal.invariant-loop-i
invariant-loop-i l =
    has (key_at l.at l.s) (map key_of (rows 100 l.n l.own)) ≡ has (key_at l.at l.s) (map key_of (drop l.i (rows 100 l.n l.own)))
