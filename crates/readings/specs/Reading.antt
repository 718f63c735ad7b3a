-- To believe. A reading in numbers and in bytes: "Length (2, counting what follows), kind (2), then: kind 1, depth in metres as a binary32, litres in (4),
-- litres out (4); kind 2, fault number (2), litres in, litres out; little-endian. A reading is either a depth or a fault." Assumes nothing.
use Rattle.std.specs.Prelude.{ℕ, ◌<◌, Bool, true, ◌||◌, cond, List, ◌++◌, T, eqb, length, Float}
use Rattle.std.specs.Float.{binary32}
use Rattle.std.specs.Float.Ieee.{of_bits, to_bits, fits}
use Rattle.octet.specs.Number.{digits_le}
use Rattle.readings.specs.Depth.{allowed}
use Rattle.readings.specs.declared.Measured.{Measured}
use Rattle.readings.specs.declared.Measured.TheVariants.{Depth, Fault}
use Rattle.readings.specs.declared.Reading.{Reading}

abbrev pub reading : Measured → ℕ → ℕ → Reading
reading m inflow outflow = record { measured = m; inflow = inflow; outflow = outflow }

abbrev pub depth_of : Float → ℕ → ℕ → Reading
depth_of d inflow outflow = reading (Depth d) inflow outflow

abbrev pub fault_of : ℕ → ℕ → ℕ → Reading
fault_of n inflow outflow = reading (Fault n) inflow outflow

-- ---- in numbers: the kind, and what is measured

abbrev pub kind_of : Measured → ℕ
kind_of (Depth d) = 1
kind_of (Fault n) = 2

abbrev pub measure_of : Measured → ℕ
measure_of (Depth d) = to_bits binary32 d
measure_of (Fault n) = n

abbrev pub is_kind : ℕ → Bool
is_kind kind = eqb kind 1 || eqb kind 2

abbrev pub measured_as : ℕ → ℕ → Measured
measured_as kind measure = cond (eqb kind 1) (Depth (of_bits binary32 measure)) (Fault measure)

-- ---- in bytes

-- so many has what is measured, by the kind
abbrev pub width_of : ℕ → ℕ
width_of kind = cond (eqb kind 1) 4 2

-- what follows the length
unfoldable pub reading_contents : Reading → List ℕ
reading_contents r =
    let kind = kind_of r.measured in
    digits_le 256 2 kind ++ digits_le 256 (width_of kind) (measure_of r.measured) ++ digits_le 256 4 r.inflow ++ digits_le 256 4 r.outflow

unfoldable pub image : Reading → List ℕ
image r = digits_le 256 2 (length (reading_contents r)) ++ reading_contents r

-- ---- which readings there are

-- a fault is always carried, a depth where it is allowed
abbrev pub fine : Measured → Bool
fine (Depth d) = allowed d
fine (Fault n) = true

-- the values are those of their types: a binary32, two bytes, four bytes
abbrev pub MeasuredFits : Measured → Type 0
MeasuredFits (Depth d) = T (fits binary32 d)
MeasuredFits (Fault n) = n < 65536

abbrev pub Typed : Reading → Type 0
Typed r = MeasuredFits r.measured × (r.inflow < 4294967296) × (r.outflow < 4294967296)
