-- To believe. A reading from the numbers that a caller in C hands in: kind, measure (the bits of a depth, or the number of a fault), litres in, litres out. 1
-- where a fault number does not fit its two bytes, 2 unknown kind, 3 depth outside, the lowest that applies. Assumes nothing.
use Rattle.std.specs.Prelude.{ℕ, not, ◌&&◌, List, [], ◌∷◌, eqb, ltb, Result, Ok, Err}
use Rattle.std.specs.Float.{binary32}
use Rattle.std.specs.Float.Ieee.{of_bits}
use Rattle.refusal.specs.Table.{Refusal, when, or_refuse}
use Rattle.readings.specs.Depth.{allowed}
use Rattle.readings.specs.Reading.{reading, depth_of, is_kind, measured_as}
use Rattle.readings.specs.declared.Reading.{Reading}

unfoldable pub number_refusals : ℕ → ℕ → List Refusal
number_refusals kind measure =
    when 1 (eqb kind 2 && ltb 65535 measure)
    ∷ when 2 (not (is_kind kind))
    ∷ when 3 (eqb kind 1 && not (allowed (of_bits binary32 measure)))
    ∷ []

unfoldable pub reading_of : ℕ → ℕ → ℕ → ℕ → Result Reading ℕ
reading_of kind measure inflow outflow =
    or_refuse Err (number_refusals kind measure) (Ok (reading (measured_as kind measure) inflow outflow))

-- of kind 1
unfoldable pub depth_reading : ℕ → ℕ → ℕ → Result Reading ℕ
depth_reading bits inflow outflow =
    or_refuse Err (when 3 (not (allowed (of_bits binary32 bits))) ∷ []) (Ok (depth_of (of_bits binary32 bits) inflow outflow))
