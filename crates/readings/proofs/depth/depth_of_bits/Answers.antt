-- `readings::depth::depth_of_bits` meets its contract: allowed bits are those of a number. Assumes nothing.
use mathlib.Core.Path.{◌≡◌, sym, ◌∙◌}
use mathlib.Core.Bool.{true}
use lib.Ieee.{binary32, of_bits}
use Rattle.readings.specs.Depth.{allowed}
use Rattle.readings.proofs.DepthLaws.{allowed-bits, bits_within, bits_outside}
use Rattle.readings.proofs.depth.depth_of_bits.Goals.{Else-not-bits_allowed}
use Rattle.readings.proofs.depth.depth_of_bits.Goals as goal

within : (c : Else-not-bits_allowed) → allowed (of_bits binary32 c.args.bits) ≡ true
within c = sym c.bits_allowed.ensures ∙ c.if-not-bits_allowed.false

pub returns-then-not-bits_allowed : goal.returns-then-not-bits_allowed
returns-then-not-bits_allowed c = bits_outside c.args.bits (sym c.bits_allowed.ensures ∙ c.if-not-bits_allowed.true)

pub float_from_bits-result : goal.float_from_bits-result
float_from_bits-result c = allowed-bits c.args.bits (within (goal.at.float_from_bits-result c).Else-not-bits_allowed)

pub returns : goal.returns
returns c = bits_within c.args.bits (within (goal.at.returns c).Else-not-bits_allowed)
