-- `wire_copy::both_or_neither` meets its contract, by the first of the two. Assumes nothing.
use mathlib.Core.Path.{sym}
use mathlib.Core.Bool.{not-not}
use Rattle.wire_copy.proofs.both_or_neither.Goals as goal

pub returns-then-a : goal.returns-then-a
returns-then-a c = rw c.if-a.true (sym (not-not c.args.b))

pub returns : goal.returns
returns c = rw c.if-a.false
