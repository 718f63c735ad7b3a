-- Beside the demands. What is proved of readings carried; the theorems stand in proofs/Theorems.antt. `handed r output ≡ carry_call ..` is the contract of
-- `gauge_carry`, `r ≡ take_call ..` that of `gauge_carried`. Assumes nothing.
use Rattle.std.specs.Prelude.{ℕ, ◌≤◌, ◌<◌, true, false, List, ◌++◌, ◌⊎◌, ◌↔◌, ◌≡◌, length, take, drop, get_or, Result, Ok, Err}
use Rattle.std.proofs.Math.Option.{some, none}
use Rattle.std.specs.Float.{binary32}
use Rattle.std.specs.Float.Ieee.{of_bits}
use Rattle.octet.specs.Number.{Bytes}
use Rattle.refusal.specs.Table.{applies_in}
use Rattle.wire_shapes.specs.Shapes.{Kind}
use Rattle.wire_fields.specs.Message.{Message, Reads}
use Rattle.wire_fields.specs.Refusals.{refusals}
use Rattle.readings.specs.Depth.{allowed}
use Rattle.readings.specs.Reading.{kind_of, measure_of}
use Rattle.readings.specs.Numbers.{reading_of}
use Rattle.readings.specs.Unpack.{unpack_of}
use Rattle.readings.specs.declared.Reading.{Reading}
use Rattle.carried.specs.Carry.{carry, carry_handed, with_reading, carry_call}
use Rattle.carried.specs.Take.{taken, nothing, take_call}

-- the numbers that are handed in have 32 bits, as their types say
abbrev pub Words : ℕ → ℕ → ℕ → Type 0
Words measure litresIn litresOut = (measure < 4294967296) × (litresIn < 4294967296) × (litresOut < 4294967296)

-- "readings carried in the answers": what an accepted call has written carries the very reading that was handed in, deficits and all
abbrev pub TakenBack : Type 0
TakenBack =
    (major : ℕ) (d : List ℕ) → Bytes d → (kind measure litresIn litresOut : ℕ) → Words measure litresIn litresOut → (old : List ℕ)
    → (let h = carry_call major d (reading_of kind measure litresIn litresOut) old in
    h.given.number ≡ 0 → h.given.reading ≡ 0
    → take_call major (take h.given.length h.output) ≡ taken 0 0 kind measure litresIn litresOut)

-- ---- which number is given when

-- the datagram reads as the message, in the major version; as an AUTHORITY
abbrev pub ReadsAs : ℕ → List ℕ → Message → Type 0
ReadsAs major d m = (ks : List Kind) × Reads ks d m × (m.major ≡ major)

abbrev pub IsAuthority : ℕ → List ℕ → Message → Type 0
IsAuthority major d m = ReadsAs major d m × (m.type ≡ 8)

-- document 01's number, 2 to 7, of a datagram that is not read: the lowest that applies
abbrev pub Unread : ℕ → List ℕ → ℕ → Type 0
Unread major d n = (applies_in n (refusals d major) ≡ true) × ((i : ℕ) → i < n → applies_in i (refusals d major) ≡ false)

-- 5 "type unknown": unknown here is also any message but an AUTHORITY
abbrev pub Another : ℕ → List ℕ → ℕ → Type 0
Another major d n = (n ≡ 5) × ((m : Message) × ReadsAs major d m × (¬ (m.type ≡ 8)))

-- 15 "output needs more bytes than lent, or a datagram over 1,232": of the AUTHORITY with the reading
abbrev pub TooLong : List ℕ → Message → Reading → Type 0
TooLong old m r = (length old < length (with_reading m r).bytes) ⊎ (1232 < length (with_reading m r).bytes)

abbrev pub CarryNoRoom : ℕ → List ℕ → Result Reading ℕ → List ℕ → ℕ → Type 0
CarryNoRoom major d u old n = (n ≡ 15) × ((m : Message) × (r : Reading) × IsAuthority major d m × (u ≡ Ok r) × TooLong old m r)

-- document 02's number of a reading handed in
pub data ReadingApplies (kind measure n : ℕ) : Type 0 where
  -- 1 "wrong length": a fault number that has no room in its two bytes
  too_large : n ≡ 1 → kind ≡ 2 → 65535 < measure → ReadingApplies kind measure n
  -- 2 "unknown kind"
  unknown-kind : n ≡ 2 → ¬ (kind ≡ 1) → ¬ (kind ≡ 2) → ReadingApplies kind measure n
  -- 3 "depth outside"
  outside : n ≡ 3 → kind ≡ 1 → allowed (of_bits binary32 measure) ≡ false → ReadingApplies kind measure n

pub record CarryNumbers (major : ℕ) (d : List ℕ) (kind measure litresIn litresOut : ℕ) (old : List ℕ) : Type 0 where
  pub number : (n : ℕ) → 0 < n
      → ((carry_call major d (reading_of kind measure litresIn litresOut) old).given.number ≡ n)
      ↔ (Unread major d n ⊎ (Another major d n ⊎ CarryNoRoom major d (reading_of kind measure litresIn litresOut) old n))
  -- for an AUTHORITY alone
  pub reading : (n : ℕ) → 0 < n
      → ((carry_call major d (reading_of kind measure litresIn litresOut) old).given.reading ≡ n)
      ↔ (((m : Message) × IsAuthority major d m) × ReadingApplies kind measure n)
  -- the two are never mixed
  pub one : ((carry_call major d (reading_of kind measure litresIn litresOut) old).given.number ≡ 0)
      ⊎ ((carry_call major d (reading_of kind measure litresIn litresOut) old).given.reading ≡ 0)

abbrev pub CarryExactly : Type 0
CarryExactly =
    (major : ℕ) (d : List ℕ) → Bytes d → (kind measure litresIn litresOut : ℕ) (old : List ℕ) → CarryNumbers major d kind measure litresIn litresOut old

-- "nothing is written", of either: every byte of the output is as lent, and the rest of the answer is 0
abbrev pub CarryKeeps : Type 0
CarryKeeps =
    (major : ℕ) (d : List ℕ) → Bytes d → (kind measure litresIn litresOut : ℕ) (old : List ℕ)
    → (let h = carry_call major d (reading_of kind measure litresIn litresOut) old in
    (0 < h.given.number → h ≡ carry_handed (carry h.given.number 0 0) old)
    × (0 < h.given.reading → h ≡ carry_handed (carry 0 0 h.given.reading) old))

-- accepted, what was handed in is an AUTHORITY and a reading, and they stand at the output's start: the same message but for its payload. The rest is as lent
abbrev pub CarryWrites : Type 0
CarryWrites =
    (major : ℕ) (d : List ℕ) → Bytes d → (kind measure litresIn litresOut : ℕ) (old : List ℕ)
    → (let h = carry_call major d (reading_of kind measure litresIn litresOut) old in
    h.given.number ≡ 0 → h.given.reading ≡ 0
    → (m : Message) × (r : Reading) × IsAuthority major d m × (reading_of kind measure litresIn litresOut ≡ Ok r) × (length (with_reading m r).bytes ≤ 1232)
    × (h ≡ carry_handed (carry 0 (length (with_reading m r).bytes) 0) ((with_reading m r).bytes ++ drop (length (with_reading m r).bytes) old)))

-- "On acceptance the output changes only in its first bytes, as many as returned." So it is with a refusal, which returns none
abbrev pub CarryFirst : Type 0
CarryFirst =
    (major : ℕ) (d : List ℕ) → Bytes d → (kind measure litresIn litresOut : ℕ) (old : List ℕ)
    → (let h = carry_call major d (reading_of kind measure litresIn litresOut) old in
    (h.given.length ≤ length old) × (length h.output ≡ length old) × (drop h.given.length h.output ≡ drop h.given.length old))

-- ---- the same of taking one out

-- what the AUTHORITY has as its payload, field 6
abbrev pub Carries : ℕ → List ℕ → List ℕ → Type 0
Carries major d v = (m : Message) × IsAuthority major d m × (get_or m.fields 6 none ≡ some v)

pub record TakeNumbers (major : ℕ) (d : List ℕ) : Type 0 where
  pub number : (n : ℕ) → 0 < n → ((take_call major d).number ≡ n) ↔ (Unread major d n ⊎ Another major d n)
  -- what stands there is no reading, for the number that unpacking gives
  pub reading : (n : ℕ) → 0 < n → ((take_call major d).reading ≡ n) ↔ ((v : List ℕ) × Carries major d v × (unpack_of v ≡ Err n))
  -- with either the rest is 0
  pub refused : 0 < (take_call major d).number → take_call major d ≡ nothing (take_call major d).number 0
  pub no-reading : 0 < (take_call major d).reading → take_call major d ≡ nothing 0 (take_call major d).reading
  -- no payload; a payload that is a reading
  pub carries-none : (m : Message) → IsAuthority major d m → get_or m.fields 6 none ≡ none → take_call major d ≡ nothing 0 0
  pub carries-one : (v : List ℕ) (r : Reading) → Carries major d v → unpack_of v ≡ Ok r
      → take_call major d ≡ taken 0 0 (kind_of r.measured) (measure_of r.measured) r.inflow r.outflow

abbrev pub TakeExactly : Type 0
TakeExactly = (major : ℕ) (d : List ℕ) → Bytes d → TakeNumbers major d
