-- Beside the demands. What is proved of readings; the theorems stand in proofs/Theorems.antt. `handed r out ≡ pack_of ..` is the contract of `pack`, `r ≡ unpack_of ..`
-- that of `unpack`, `r ≡ balance_of ..` that of `balance`. Assumes nothing.
use Rattle.std.specs.Prelude.{ℕ, ◌≤◌, ◌<◌, true, false, ◌||◌, List, [], ◌∷◌, ◌↔◌, ◌≡◌, eqb, leb, ℤ, pos, neg_ℤ, nat_abs, ◌+ℤ◌, length, take, Result, Ok}
use Rattle.std.specs.Float.{binary32}
use Rattle.std.specs.Float.Ieee.{of_bits, to_bits}
use Rattle.octet.specs.Number.{Bytes}
use Rattle.octet.specs.Part.{splice}
use Rattle.refusal.specs.Table.{applies_in}
use Rattle.readings.specs.Depth.{allowed}
use Rattle.readings.specs.Balance.{balance_of}
use Rattle.readings.specs.Reading.{depth_of, kind_of, measure_of, image, fine, Typed}
use Rattle.readings.specs.Unpack.{unpack_refusals, unpack_of, unpack_number}
use Rattle.readings.specs.Pack.{pack_handed, pack_refusals, pack_of, pack_number}
use Rattle.readings.specs.Numbers.{reading_of}
use Rattle.readings.specs.declared.Reading.{Reading}

-- ---- there and back

-- "Readings written read back the same"
abbrev pub ReadingReadsBack : Type 0
ReadingReadsBack = (r : Reading) → Typed r → fine r.measured ≡ true → unpack_of (image r) ≡ Ok r

-- "bytes accepted are written back the same", and are those of a reading that may be written
abbrev pub WritesBack : Type 0
WritesBack = (s : List ℕ) → Bytes s → (r : Reading) → unpack_of s ≡ Ok r → (image r ≡ s) × Typed r × (fine r.measured ≡ true)

-- and through the contracts: what `pack` leaves at the start, as many bytes as it says, `unpack` reads as the reading
abbrev pub PackedReads : Type 0
PackedReads =
    (r : Reading) → Typed r → (out left : List ℕ) (n : ℕ) → pack_handed (Ok n) left ≡ pack_of r out
    → (u : Result Reading ℕ) → u ≡ unpack_of (take n left) → u ≡ Ok r

-- what `unpack` reads, `pack` writes as the bytes it was read from, wherever there is room for them
abbrev pub UnpackedWrites : Type 0
UnpackedWrites =
    (s : List ℕ) → Bytes s → (r : Reading) → Ok r ≡ unpack_of s
    → (out left : List ℕ) (a : Result ℕ ℕ) → length s ≤ length out → pack_handed a left ≡ pack_of r out → (a ≡ Ok (length s)) × (left ≡ splice 0 s out)

-- a reading taken apart into the numbers that C sees is made of them again
abbrev pub NumbersBack : Type 0
NumbersBack =
    (r : Reading) → Typed r → fine r.measured ≡ true → reading_of (kind_of r.measured) (measure_of r.measured) r.inflow r.outflow ≡ Ok r

-- ---- "any two results allowed by it coincide"

abbrev pub UnpackOne : Type 0
UnpackOne = (s : List ℕ) (r r' : Result Reading ℕ) → r ≡ unpack_of s → r' ≡ unpack_of s → r ≡ r'

abbrev pub PackOne : Type 0
PackOne =
    (r : Reading) (out left left' : List ℕ) (a a' : Result ℕ ℕ) → pack_handed a left ≡ pack_of r out → pack_handed a' left' ≡ pack_of r out → (a ≡ a') × (left ≡ left')

abbrev pub BalanceOne : Type 0
BalanceOne = (i o : ℕ) (b b' : ℤ) → b ≡ balance_of i o → b' ≡ balance_of i o → b ≡ b'

-- ---- refusals

-- a number is given exactly when it applies, in whichever of its rows, and no lower one does
abbrev pub UnpackExactly : Type 0
UnpackExactly =
    (s : List ℕ) (n : ℕ) → 0 < n
    → (unpack_number (unpack_of s) ≡ n) ↔ ((applies_in n (unpack_refusals s) ≡ true) × ((m : ℕ) → m < n → applies_in m (unpack_refusals s) ≡ false))

abbrev pub PackExactly : Type 0
PackExactly =
    (r : Reading) (out : List ℕ) (n : ℕ) → 0 < n
    → (pack_number (pack_of r out).answer ≡ n) ↔ ((applies_in n (pack_refusals r out) ≡ true) × ((m : ℕ) → m < n → applies_in m (pack_refusals r out) ≡ false))

-- "nothing is written"
abbrev pub RefusedKeeps : Type 0
RefusedKeeps = (r : Reading) (out : List ℕ) → 0 < pack_number (pack_of r out).answer → (pack_of r out).out ≡ out

-- ---- depths

-- of all 32 bits: 0x41A00000 is 20, below it stand all numbers from 0 up, and 0x80000000 is -0
abbrev pub Depths : Type 0
Depths = (bits : ℕ) → bits < 4294967296 → allowed (of_bits binary32 bits) ≡ (leb bits 0x41A0_0000 || eqb bits 0x8000_0000)

-- "negative zero allowed": with 3 litres in and 4 out it is read from its bytes, and keeps its bits; 0 is another depth
abbrev pub NegativeZero : Type 0
NegativeZero =
    let zero = of_bits binary32 0x8000_0000 in
    (allowed zero ≡ true)
    × (unpack_of (14 ∷ 0 ∷ 1 ∷ 0 ∷ 0 ∷ 0 ∷ 0 ∷ 128 ∷ 3 ∷ 0 ∷ 0 ∷ 0 ∷ 4 ∷ 0 ∷ 0 ∷ 0 ∷ []) ≡ Ok (depth_of zero 3 4))
    × (to_bits binary32 zero ≡ 0x8000_0000)
    × (to_bits binary32 (of_bits binary32 0) ≡ 0)

-- the edges: 20 and the next above it; the least above 0 and the greatest below; both infinities; not-a-number with and without a sign
abbrev pub Edges : Type 0
Edges =
    (allowed (of_bits binary32 0x41A0_0000) ≡ true)
    × (allowed (of_bits binary32 0x41A0_0001) ≡ false)
    × (allowed (of_bits binary32 0x0000_0001) ≡ true)
    × (allowed (of_bits binary32 0x8000_0001) ≡ false)
    × (allowed (of_bits binary32 0x7F80_0000) ≡ false)
    × (allowed (of_bits binary32 0xFF80_0000) ≡ false)
    × (allowed (of_bits binary32 0x7FC0_0000) ≡ false)
    × (allowed (of_bits binary32 0xFFC0_0000) ≡ false)

-- ---- the balance

-- it is what the litres out lack to the litres in, for all pairs
abbrev pub Balanced : Type 0
Balanced = (i o : ℕ) → balance_of i o +ℤ pos o ≡ pos i

-- "3 in and 4 out is -1"; the greatest number of litres out with none in
abbrev pub Balances : Type 0
Balances = (balance_of 3 4 ≡ neg_ℤ (pos 1)) × (balance_of 0 4294967295 ≡ neg_ℤ (pos 4294967295)) × (nat_abs (balance_of 0 4294967295) ≡ 4294967295)
