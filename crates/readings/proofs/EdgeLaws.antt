-- Depths at the edges of what is allowed, computed. The file stands before all others, so that a definition that refuses negative zero is refused
-- for that. Assumes nothing.
use mathlib.Core.Path.{refl}
use lib.Ieee.{of_bits, to_bits, of_int, le, lt, eq}
use Rattle.octet.specs.Number.{value_le}
use Rattle.refusal.specs.Table.{or_refuse}
use Rattle.readings.specs.Depth.{allowed}
use Rattle.readings.specs.Unpack.{length_fits, unpack_refusals, reading_in, unpack_of}
use Rattle.readings.specs.Statements.{NegativeZero, Edges}

pub negative_zero : NegativeZero
unfolding allowed of_bits to_bits of_int le lt eq value_le or_refuse length_fits unpack_refusals reading_in unpack_of
negative_zero = (refl, refl, refl, refl)

pub edges : Edges
unfolding allowed of_bits of_int le lt eq
edges = (refl, refl, refl, refl, refl, refl, refl, refl)
