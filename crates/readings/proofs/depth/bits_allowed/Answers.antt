-- `readings::depth::bits_allowed` meets its contract: the two tests tell the allowed patterns. Assumes nothing.
use native.Mathlib.Omega.{arith}
use Rattle.readings.proofs.PatternLaws.{bits-zero, bits-sized}
use borrow.Author.Rules.{rules}
use Rattle.readings.proofs.depth.bits_allowed.Goals as goal

pub returns-then-bits-eq2147483648 : goal.returns-then-bits-eq2147483648
returns-then-bits-eq2147483648 c = bits-zero c.args.bits (omega (arith, c.if-bits-eq2147483648.true))

pub returns : goal.returns
returns c = bits-sized c.args.bits (search rules) (λ e. c.if-bits-eq2147483648.false e)
