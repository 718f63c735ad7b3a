-- To believe. An AUTHORITY with a reading as its extended payload: "a second layer above .. packs the extended payload". Document 01's number and document 02's
-- are never mixed; where either is not 0 nothing is written and the rest is 0. Assumes nothing.
use Rattle.std.specs.Prelude.{ℕ, List, true, Result, Ok, Err}
use Rattle.std.proofs.Math.Option.{Option, some, none}
use Rattle.wire_fields.specs.Kinds.{authority_kinds}
use Rattle.wire_fields.specs.Message.{Message, layout_of, message_bytes}
use Rattle.wire_read.specs.Answers.{read_in}
use Rattle.wire_read.specs.Meaning.{message_of}
use Rattle.wire_read.specs.declared.Incoming.TheVariants as M
use Rattle.wire_read.specs.declared.messages.Authority.{Authority}
use Rattle.wire_write.specs.Writing.{Made, write_as, write_in}
use Rattle.wire.specs.Statements.{changed}
use Rattle.readings.specs.Reading.{image}
use Rattle.readings.specs.declared.Reading.{Reading}
use Rattle.carried.specs.declared.Carry.{Carry}
use Rattle.carried.specs.Whole.{whole_of}

abbrev pub carry : ℕ → ℕ → ℕ → Carry
carry number length reading = record { number = number; length = length; reading = reading }

-- what is handed back: the answer, and the output
pub record CarryHanded : Type 0 where
  pub given : Carry
  pub output : List ℕ

abbrev pub carry_handed : Carry → List ℕ → CarryHanded
carry_handed given output = record { given = given; output = output }

-- the same message, but for its payload: field 6 of an AUTHORITY's
abbrev pub with_reading : Message → Reading → Made
with_reading m r = record { ok = true; bytes = message_bytes (layout_of authority_kinds (changed authority_kinds m 6 (some (image r)))) }

-- 0 and how many bytes, or 15 where there is no room in the output or in a datagram
abbrev pub put : Made → List ℕ → CarryHanded
put m old = carry_handed (carry (write_as m old).number (write_as m old).length 0) (write_in m old)

-- a reading that is refused is not written
abbrev pub carry_in : Message → Result Reading ℕ → List ℕ → CarryHanded
carry_in m (Ok r) old = put (with_reading m r) old
carry_in m (Err n) old = carry_handed (carry 0 0 n) old

-- into a message; an AUTHORITY that was read is one
abbrev pub carry_as : Option Message → Result Reading ℕ → List ℕ → CarryHanded
carry_as (some m) u old = carry_in m u old
carry_as none u old = carry_handed (carry 5 0 0) old

abbrev pub carry_by : ℕ → List ℕ → Result Authority ℕ → Result Reading ℕ → List ℕ → CarryHanded
carry_by major d (Err n) u old = carry_handed (carry n 0 0) old
carry_by major d (Ok m) u old = carry_as (message_of major d (M.Authority m)) u old

-- the whole call: the datagram's refusals first, then the reading's, then the room's
unfoldable pub carry_call : ℕ → List ℕ → Result Reading ℕ → List ℕ → CarryHanded
carry_call major d u old = carry_by major d (whole_of (read_in d major)) u old
