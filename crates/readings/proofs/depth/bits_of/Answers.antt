-- `readings::depth::bits_of` meets its contract: what differs from itself, and nothing else, is not a number. Assumes nothing.
use mathlib.Core.Path.{sym, ap, subst}
use lib.Dec.{T}
use lib.Ieee.{binary32, to_bits}
use lib.Ieee.Compare.{differs_from_itself}
use Rattle.readings.proofs.DepthLaws.{same_no_nan}
use Rattle.readings.proofs.depth.bits_of.Goals as goal

pub returns-then-depth : goal.returns-then-depth
unfolding to_bits
returns-then-depth c = sym (ap (to_bits binary32) (differs_from_itself _ (subst T (sym c.if-depth.true) tt)))

pub float_to_bits-result : goal.float_to_bits-result
float_to_bits-result c = same_no_nan _ c.if-depth.false
