-- To believe. The reading that bytes are: "Refusals of this layer: 1 wrong length or no room to write, 2 unknown kind, 3 depth outside", the lowest that
-- applies. Assumes nothing.
use Rattle.std.specs.Prelude.{ℕ, ◌+◌, Bool, true, not, ◌&&◌, cond, List, [], ◌∷◌, eqb, ltb, length, Result, Ok, Err}
use Rattle.std.specs.Float.{binary32}
use Rattle.std.specs.Float.Ieee.{of_bits}
use Rattle.octet.specs.Number.{value_le}
use Rattle.octet.specs.Part.{part}
use Rattle.refusal.specs.Table.{Refusal, when, or_refuse}
use Rattle.readings.specs.Depth.{allowed}
use Rattle.readings.specs.Reading.{reading, is_kind, measured_as, width_of}
use Rattle.readings.specs.declared.Reading.{Reading}

-- the number of so many bytes at a place
abbrev pub number_at : ℕ → ℕ → List ℕ → ℕ
number_at at n s = value_le 256 (part at n s)

-- the length, which counts what follows it; the kind; what is measured
abbrev pub told_in : List ℕ → ℕ
told_in s = number_at 0 2 s

abbrev pub kind_in : List ℕ → ℕ
kind_in s = number_at 2 2 s

abbrev pub measure_in : List ℕ → ℕ
measure_in s = number_at 4 (width_of (kind_in s)) s

-- has a reading of the kind this many bytes? Of an unknown kind any number will do
unfoldable pub length_fits : ℕ → ℕ → Bool
length_fits kind n = cond (is_kind kind) (eqb n (12 + width_of kind)) true

-- too short to have a kind; not as long as its length says; not as long as its kind is; unknown; a depth outside
unfoldable pub unpack_refusals : List ℕ → List Refusal
unpack_refusals s =
    when 1 (ltb (length s) 4)
    ∷ when 1 (not (eqb (length s) (2 + told_in s)))
    ∷ when 1 (not (length_fits (kind_in s) (length s)))
    ∷ when 2 (not (is_kind (kind_in s)))
    ∷ when 3 (eqb (kind_in s) 1 && not (allowed (of_bits binary32 (measure_in s))))
    ∷ []

unfoldable pub reading_in : List ℕ → Reading
reading_in s =
    let w = width_of (kind_in s) in
    reading (measured_as (kind_in s) (measure_in s)) (number_at (4 + w) 4 s) (number_at (8 + w) 4 s)

unfoldable pub unpack_of : List ℕ → Result Reading ℕ
unpack_of s = or_refuse Err (unpack_refusals s) (Ok (reading_in s))

-- the paper's number of an answer
abbrev pub unpack_number : Result Reading ℕ → ℕ
unpack_number (Ok r) = 0
unpack_number (Err n) = n
