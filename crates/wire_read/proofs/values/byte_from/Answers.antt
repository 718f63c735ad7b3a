-- `wire_read::values::byte_from` meets its contract: past the end every byte is 0. Assumes nothing.
use Prim.Native.Nat.{◌+◌}
use native.Mathlib.Omega.{arith}
use mathlib.Core.Path.{sym}
use lib.ListN.{get_or-eq_default}
use Rattle.wire_read.proofs.values.byte_from.Goals as goal

pub returns-then-d-start : goal.returns-then-d-start
returns-then-d-start c = let a = c.args in sym (get_or-eq_default a.d.now 0 {n = a.start + a.offset} (omega arith))
