-- `wire_write::check::shaped_in` meets its contract: past the end the first test fails. Assumes nothing.
use Prim.Native.Nat.{◌+◌}
use native.Mathlib.Omega.{arith}
use borrow.Author.Tests.{le-leb, lt-leb}
use lib.ListN.{length}
use Rattle.wire_write.proofs.check.shaped_in.Goals as goal

pub returns-then-s-len : goal.returns-then-s-len
returns-then-s-len c = let a = c.args in rw (lt-leb (a.start + a.len) (length a.s.now) (omega arith))

pub returns-then-s-len-2 : goal.returns-then-s-len-2
returns-then-s-len-2 c = let a = c.args in rw (lt-leb (a.start + a.len) (length a.s.now) (omega arith))

pub returns : goal.returns
returns c =
    let a = c.args in
    rw (le-leb (a.start + a.len) (length a.s.now) (omega arith)) c.has_shape.ensures
