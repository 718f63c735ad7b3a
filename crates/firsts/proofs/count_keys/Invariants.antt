-- `firsts::count_keys` meets its contract: what is counted is always the count of the first records. Assumes nothing.
use mathlib.Core.Path.{◌≡◌}
use mathlib.Core.List.{map}
use Prim.Native.Nat.{◌*◌}
use Rattle.record.specs.Record.{key_of}
use Rattle.table.specs.Rows.{rows}
use Rattle.firsts.specs.Firsts.{firsts_of}
use Rattle.firsts.proofs.count_keys.Given as goal

abbrev pub invariant-loop-four : goal.invariant-loop-four
invariant-loop-four l = l.fresh ≡ firsts_of (map key_of (rows 100 (4 * l.four) l.cache))

abbrev pub invariant-loop-i : goal.invariant-loop-i
invariant-loop-i l = l.fresh ≡ firsts_of (map key_of (rows 100 l.i l.cache))
