-- To believe. The reading that an AUTHORITY carries, or that it carries none: "Bytes accepted are written back the same", so a payload is a reading exactly as
-- readings has it. Assumes nothing.
use Rattle.std.specs.Prelude.{ℕ, List, get_or, Result, Ok, Err}
use Rattle.std.proofs.Math.Option.{Option, some, none}
use Rattle.wire_fields.specs.Message.{Contents, Message}
use Rattle.wire_read.specs.Answers.{read_in}
use Rattle.wire_read.specs.Meaning.{message_of}
use Rattle.wire_read.specs.declared.Incoming.TheVariants as M
use Rattle.wire_read.specs.declared.messages.Authority.{Authority}
use Rattle.readings.specs.Reading.{kind_of, measure_of}
use Rattle.readings.specs.Unpack.{unpack_of}
use Rattle.readings.specs.declared.Reading.{Reading}
use Rattle.carried.specs.declared.Taken.{Taken}
use Rattle.carried.specs.Whole.{whole_of}

abbrev pub taken : ℕ → ℕ → ℕ → ℕ → ℕ → ℕ → Taken
taken number reading kind measure litresIn litresOut =
    record { number = number; reading = reading; kind = kind; measure = measure; litres_in = litresIn; litres_out = litresOut }

-- nothing: a refusal, or an AUTHORITY that carries none
abbrev pub nothing : ℕ → ℕ → Taken
nothing number reading = taken number reading 0 0 0 0

abbrev pub taken_by : Result Reading ℕ → Taken
taken_by (Ok r) = taken 0 0 (kind_of r.measured) (measure_of r.measured) r.inflow r.outflow
taken_by (Err n) = nothing 0 n

-- kind 0 where there is no payload
abbrev pub taken_from : Contents → Taken
taken_from none = nothing 0 0
taken_from (some v) = taken_by (unpack_of v)

-- of a message: its payload is field 6
abbrev pub taken_as : Option Message → Taken
taken_as (some m) = taken_from (get_or m.fields 6 none)
taken_as none = nothing 5 0

abbrev pub take_by : ℕ → List ℕ → Result Authority ℕ → Taken
take_by major d (Err n) = nothing n 0
take_by major d (Ok m) = taken_as (message_of major d (M.Authority m))

unfoldable pub take_call : ℕ → List ℕ → Taken
take_call major d = take_by major d (whole_of (read_in d major))
