-- `wire_sent::front::formed_in` meets its contract: past the end the first test fails. Assumes nothing.
use Prim.Native.Nat.{◌+◌}
use native.Mathlib.Omega.{arith}
use borrow.Author.Tests.{le-leb, lt-leb}
use lib.ListN.{length}
use Rattle.wire_sent.proofs.front.formed_in.Goals as goal

pub returns-then-s-lt100 : goal.returns-then-s-lt100
returns-then-s-lt100 c = let a = c.args in rw (lt-leb (a.start + 100) (length a.s.now) (omega arith))

pub returns-then-s-start : goal.returns-then-s-start
returns-then-s-start c = let a = c.args in rw (lt-leb (a.start + 100) (length a.s.now) (omega arith))

pub returns : goal.returns
returns c =
    let a = c.args in
    rw (le-leb (a.start + 100) (length a.s.now) (omega arith)) c.is_formed.ensures
