-- Helps the code. What bytes are whose kind is known to be 1, or 2. Assumes nothing.
use Rattle.std.specs.Prelude.{ℕ, not, List, [], ◌∷◌, eqb, length, Result, Ok, Err}
use Rattle.refusal.specs.Table.{when, or_refuse}
use Rattle.readings.specs.Reading.{fault_of}
use Rattle.readings.specs.Unpack.{number_at}
use Rattle.readings.specs.Numbers.{depth_reading}
use Rattle.readings.specs.declared.Reading.{Reading}

unfoldable pub depth_in : List ℕ → Result Reading ℕ
depth_in s =
    or_refuse Err (when 1 (not (eqb (length s) 16)) ∷ []) (depth_reading (number_at 4 4 s) (number_at 8 4 s) (number_at 12 4 s))

unfoldable pub fault_in : List ℕ → Result Reading ℕ
fault_in s =
    or_refuse Err (when 1 (not (eqb (length s) 14)) ∷ []) (Ok (fault_of (number_at 4 2 s) (number_at 6 4 s) (number_at 10 4 s)))
