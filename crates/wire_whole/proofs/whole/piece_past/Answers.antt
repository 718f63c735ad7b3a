-- `wire_whole::whole::piece_past` meets its contract, by whether the field is there. Assumes nothing.
use native.Mathlib.Omega.{arith}
use borrow.Author.Tests.{not-true, not-false}
use Rattle.wire_write.specs.Pieces.{past_of}
use Rattle.wire_whole.proofs.whole.piece_past.Goals as goal

pub returns-then-not-p : goal.returns-then-not-p
unfolding past_of
returns-then-not-p c = rw (not-true c.args.p.there c.if-not-p.true) (omega (arith, c.requires))

pub returns : goal.returns
returns c = rw (not-false c.args.p.there c.if-not-p.false) c.past.ensures
