-- `round::wrap` meets its contract. Assumes nothing.
use mathlib.Core.Path.{refl}
use native.Mathlib.Omega.{arith}
use borrow.Author.Tests.{lt-ltb, le-ltb}
use Rattle.kept.specs.Turned.{wrapped}
use Rattle.round.proofs.wrap.Goals as goal

pub returns-then-i-n : goal.returns-then-i-n
unfolding wrapped
returns-then-i-n c = (rw (lt-ltb c.args.i c.args.n c.if-i-n.true) refl, c.if-i-n.true)

pub returns : goal.returns
unfolding wrapped
returns c = (rw (le-ltb c.args.i c.args.n (omega arith)) refl, omega arith)
