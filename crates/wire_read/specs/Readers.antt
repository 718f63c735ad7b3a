-- Helps the code. What the reader of one type of message answers, as an answer of `read`: its message, or the number of the refusal. Assumes nothing.
use Rattle.std.specs.Prelude.{ℕ, Option, Some, None, Result, Ok, Err}
use Rattle.wire_read.specs.declared.Incoming.{Incoming}
use Rattle.wire_read.specs.declared.Incoming.TheVariants.{Refused}

-- 6 where the fields are not right
abbrev pub or_six : {M : Type 0} → (M → Incoming) → Option M → Incoming
or_six message None = Refused 6
or_six message (Some m) = message m

abbrev pub or_number : {M : Type 0} → (M → Incoming) → Result M ℕ → Incoming
or_number message (Err n) = Refused n
or_number message (Ok m) = message m
