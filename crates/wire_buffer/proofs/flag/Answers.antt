-- `wire_buffer::flag` meets its contract: past the end every byte is 0. Assumes nothing.
use Prim.Native.Nat.{ℕ, ◌+◌, ◌/◌, ◌%◌}
use native.Mathlib.Omega.{arith}
use native.Mathlib.Nat.{zero-div}
use mathlib.Core.Path.{ap}
use lib.Dec.{eqb}
use lib.ListN.{get_or-eq_default}
use Rattle.wire_buffer.specs.Buffer.{flag_at}
use Rattle.wire_buffer.proofs.flag.Goals as goal

pub returns-then-d-start : goal.returns-then-d-start
unfolding flag_at
returns-then-d-start c =
    let a = c.args in
    rw (get_or-eq_default a.d.now 0 {n = a.start + a.offset} (omega arith), zero-div a.weight)

pub returns : goal.returns
unfolding flag_at
returns c = ap (λ (k : ℕ). eqb (k / c.args.weight % 2) 1) c.byte.ensures
