-- `search::find_key` meets its contract: the places before low are below the key and those from high on above; the keys compared, with those that
-- the part between will take, make the whole count. Assumes nothing.
use mathlib.Core.List.{map}
use Prim.Native.Nat.{◌-◌}
use Rattle.key.specs.Number.{key_at}
use Rattle.record.specs.Record.{key_of}
use Rattle.table.specs.Rows.{rows}
use Rattle.search.proofs.SeekLaws.{Halved}
use Rattle.search.proofs.find_key.Given as goal

abbrev pub invariant-loop-low : goal.invariant-loop-low
invariant-loop-low l = Halved (key_at 0 l.key) (map key_of (rows 100 l.used l.cache)) l.low l.high l.compared

abbrev pub decreases-loop-low : goal.decreases-loop-low
decreases-loop-low l = l.high - l.low
