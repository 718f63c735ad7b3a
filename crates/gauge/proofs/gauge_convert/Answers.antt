-- `gauge_convert` meets its contract: the conversion, with no counts. Assumes nothing.
use mathlib.Core.Path.{ap}
use native.Mathlib.Omega.{arith}
use Rattle.gauge.specs.Converting.{answered}
use borrow.Author.Rules.{rules}
use Rattle.gauge.proofs.gauge_convert.Goals as goal

pub returns : goal.returns
returns c = rw c.answer_of.ensures (ap answered c.convert.ensures)
