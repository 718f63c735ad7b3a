-- `wire_copy::kept_precision` meets its contract, by the criteria. Assumes nothing.
use borrow.Author.Tests.{eq-eqb, ne_eqb}
use Rattle.wire_copy.proofs.kept_precision.Goals as goal

pub returns-then-criteria-eq8 : goal.returns-then-criteria-eq8
returns-then-criteria-eq8 c = rw (eq-eqb c.args.criteria 8 c.if-criteria-eq8.true)

pub returns : goal.returns
returns c = rw (ne_eqb c.args.criteria 8 c.if-criteria-eq8.false)
