-- `readings::numbers::depth_reading` meets its contract: by what the bits are as a depth. Assumes nothing.
use mathlib.Core.Path.{sym, ◌∙◌}
use Rattle.readings.proofs.NumberLaws.{depth-outside, depth-within}
use Rattle.readings.proofs.numbers.depth_reading.Goals as goal

pub returns-in_default : goal.returns-in_default
returns-in_default c = depth-outside _ _ _ (sym c.depth_of_bits.ensures ∙ c.in_default.is)

pub returns : goal.returns
returns c = depth-within _ _ _ _ (sym c.depth_of_bits.ensures ∙ c.in-Some.is)
