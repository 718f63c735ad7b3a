-- `readings::depth::is_allowed` meets its contract: what is not a number is not allowed, and all else is what its bits say. Assumes nothing.
use mathlib.Core.Path.{◌∙◌}
use lib.Dec.{T}
use lib.Ieee.{binary32, fits}
use Rattle.readings.proofs.DepthLaws.{same_no_nan, differs_refused, by_its_bits}
use borrow.Author.Rules.{rules}
use Rattle.readings.proofs.depth.is_allowed.Goals as goal

pub returns-then-depth : goal.returns-then-depth
returns-then-depth c = differs_refused _ c.if-depth.true

pub float_to_bits-depth : goal.float_to_bits-depth
float_to_bits-depth c = same_no_nan _ c.if-depth.false

pub returns : goal.returns
returns c =
    let start = c in
    let small : T (fits binary32 start.args.depth) = search rules in
    c.bits_allowed.ensures ∙ by_its_bits start.args.depth small
