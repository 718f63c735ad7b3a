-- `readings::numbers::measure_allowed` meets its contract: an allowed depth is a number, and has bits. Assumes nothing.
use mathlib.Core.Path.{sym, ap, ◌∙◌}
use Rattle.readings.specs.Reading.{fine}
use Rattle.readings.proofs.DepthLaws.{allowed_no_nan}
use Rattle.readings.proofs.numbers.measure_allowed.Goals as goal

pub float_to_bits-result : goal.float_to_bits-result
float_to_bits-result c = allowed_no_nan _ (sym (ap fine c.in-Depth.is) ∙ c.requires)
