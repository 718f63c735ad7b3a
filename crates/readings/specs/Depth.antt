-- To believe. Which depths a reading may have: "Depth from 0 to 20 with both ends, its bits kept (negative zero allowed); anything else, not-a-number too, is
-- refused". Assumes nothing.
use Rattle.std.specs.Prelude.{ℕ, Bool, ◌&&◌, cond, pos, Float, Option, Some, None}
use Rattle.std.specs.Float.{binary32}
use Rattle.std.specs.Float.Ieee.{of_int, of_bits, le}

-- in metres; 0 and -0 are one number, and no comparison holds of what is not a number
unfoldable pub allowed : Float → Bool
allowed d = le (of_int binary32 (pos 0)) d && le d (of_int binary32 (pos 20))

-- what any 32 bits are as a depth
unfoldable pub metres_of : ℕ → Option Float
metres_of bits = cond (allowed (of_bits binary32 bits)) (Some (of_bits binary32 bits)) None
