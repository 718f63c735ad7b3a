-- `readings::numbers::reading_of` meets its contract: by the kind. Assumes nothing.
use mathlib.Core.Path.{◌∙◌}
use Rattle.readings.proofs.NumberLaws.{number-depth, number-unknown, number-large, number-fault}
use Rattle.readings.proofs.numbers.reading_of.Goals as goal

pub returns-then-kind-eq1 : goal.returns-then-kind-eq1
returns-then-kind-eq1 c = c.depth_reading.ensures ∙ number-depth _ _ _ _ c.if-kind-eq1.true

pub returns-then-kind-ne2 : goal.returns-then-kind-ne2
returns-then-kind-ne2 c = number-unknown _ _ _ _ c.if-kind-eq1.false c.if-kind-ne2.true

pub returns-then-measure-gt65535 : goal.returns-then-measure-gt65535
returns-then-measure-gt65535 c = number-large _ _ _ _ c.if-kind-ne2.false c.if-measure-gt65535.true

pub returns : goal.returns
returns c = number-fault _ _ _ _ c.if-kind-ne2.false c.if-measure-gt65535.false
