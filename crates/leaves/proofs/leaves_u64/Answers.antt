-- `leaves::leaves_u64` meets its contract: the two tests are the definition's one. Assumes nothing.
use Prim.Native.Nat.{◌+◌}
use native.Mathlib.Omega.{arith}
use lib.ListN.{length}
use borrow.Author.Tests.{le-leb, lt-leb}
use Rattle.leaves.specs.Leaves.{word_or0}
use borrow.Author.Rules.{rules}
use Rattle.leaves.proofs.leaves_u64.Goals as goal

pub returns-then-s-lt8 : goal.returns-then-s-lt8
unfolding word_or0
returns-then-s-lt8 c = simp (lt-leb (c.args.at + 8) (length c.args.s.now) (omega arith))

pub returns-then-s-at : goal.returns-then-s-at
unfolding word_or0
returns-then-s-at c = simp (lt-leb (c.args.at + 8) (length c.args.s.now) (omega arith))

pub returns : goal.returns
unfolding word_or0
returns c =
    let args = c.args in
    simp (le-leb (args.at + 8) (length args.s.now) (omega arith)) c.read_u64.ensures
