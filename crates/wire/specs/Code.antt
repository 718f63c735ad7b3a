-- Helps the code. The code's reader and writers do what the layout says: what `read` gives is the message that the datagram reads as, what `write` leaves reads
-- back. No sentence of document 01 rests on them: the sentences speak of the layout itself. A theorem of each name stands in proofs/Theorems. Assumes nothing.
use Rattle.std.specs.Prelude.{ℕ, ◌≤◌, ◌<◌, List, ◌↔◌, Bool, true, false, ◌≡◌, length, take}
use Rattle.std.proofs.Math.Option.{some}
use Rattle.octet.specs.Number.{Bytes}
use Rattle.refusal.specs.Table.{applies_in}
use Rattle.wire_shapes.specs.Shapes.{Kind}
use Rattle.wire_fields.specs.Kinds.{authority_kinds}
use Rattle.wire_fields.specs.Message.{Message, WellFormed, Reads, layout_of, message_bytes, cleared}
use Rattle.wire_fields.specs.Refusals.{refusals}
use Rattle.wire_read.specs.declared.Incoming.{Incoming}
use Rattle.wire_read.specs.declared.Incoming.TheVariants as M
use Rattle.wire_read.specs.declared.messages.Authority.{Authority}
use Rattle.wire_read.specs.Answers.{read_in}
use Rattle.wire_read.specs.Meaning.{number_of, message_of}
use Rattle.wire_write.specs.Writing.{Made, Wrote}
use Rattle.wire_write.specs.declared.Written.{Written}
use Rattle.wire_copy.specs.Resent.{resent}
use Rattle.wire_payload.specs.Payload.{with_payload}
use Rattle.wire.specs.Statements.{changed}

-- 2. `read` gives the message that the datagram reads as, in the given major version, exactly when there is one; and it gives 0 just then.
abbrev pub ReadGives : Type 0
ReadGives =
    (d : List ℕ) → Bytes d → (major : ℕ) (m : Message)
    → (message_of major d (read_in d major) ≡ some m) ↔ ((ks : List Kind) × Reads ks d m × (m.major ≡ major))

abbrev pub ReadAccepts : Type 0
ReadAccepts =
    (d : List ℕ) → Bytes d → (major : ℕ) → (number_of (read_in d major) ≡ 0) ↔ ((m : Message) × (message_of major d (read_in d major) ≡ some m))

-- and a number is given exactly when it applies in document 01's table and no lower one does
abbrev pub ReadRefuses : Type 0
ReadRefuses =
    (d : List ℕ) (major n : ℕ) → 0 < n
    → (number_of (read_in d major) ≡ n) ↔ ((applies_in n (refusals d major) ≡ true) × ((m : ℕ) → m < n → applies_in m (refusals d major) ≡ false))

abbrev pub WrittenRead : Type 0
WrittenRead =
    (ks : List Kind) (m : Message) → WellFormed ks m
    → message_of m.major (message_bytes (layout_of ks m)) (read_in (message_bytes (layout_of ks m)) m.major) ≡ some m

-- and so does what a writer leaves in the output where it gives 0: its first bytes, as many as it says, are the message's
abbrev pub OutputReads : Type 0
OutputReads =
    (ks : List Kind) (m : Message) (ok : Bool) (old : List ℕ) (r : Written) (out : List ℕ) → WellFormed ks m
    → Wrote (record { ok = ok; bytes = message_bytes (layout_of ks m) }) old r out → r.number ≡ 0
    → message_of m.major (take r.length out) (read_in (take r.length out) m.major) ≡ some m

-- and what `write` leaves of any answer that means a well-formed message, wherever its fields stand
abbrev pub WriteReads : Type 0
WriteReads =
    (major : ℕ) (d : List ℕ) (a : Incoming) (ks : List Kind) (m : Message) → message_of major d a ≡ some m → WellFormed ks m
    → (old : List ℕ) (r : Written) (out : List ℕ) → Wrote (resent major d a) old r out → r.number ≡ 0
    → message_of m.major (take r.length out) (read_in (take r.length out) m.major) ≡ some m

-- and through the contracts: what `read` gave is right for `write`, which makes of it the datagram with its ignored bits zero
abbrev pub ReadWrittenAgain : Type 0
ReadWrittenAgain =
    (d : List ℕ) → Bytes d → (major : ℕ) (m : Message) → message_of major d (read_in d major) ≡ some m
    → (ks : List Kind) × Reads ks d m × (resent major d (read_in d major) ≡ record { ok = true; bytes = cleared (layout_of ks m) d })

-- so where the output has room for as many bytes as the datagram has, `write` gives 0 and that many, and `read` gives the same message of them
abbrev pub OutputAgain : Type 0
OutputAgain =
    (d : List ℕ) → Bytes d → (major : ℕ) (m : Message) → message_of major d (read_in d major) ≡ some m
    → (old : List ℕ) (r : Written) (out : List ℕ) → length d ≤ length old → Wrote (resent major d (read_in d major)) old r out
    → (r ≡ record { number = 0; length = length d }) × (message_of major (take (length d) out) (read_in (take (length d) out) major) ≡ some m)

-- 5. Any two answers that the contract of `read` allows are equal; of a writer, answers and outputs.
abbrev pub ReadOne : Type 0
ReadOne = (d : List ℕ) (major : ℕ) (r s : Incoming) → r ≡ read_in d major → s ≡ read_in d major → r ≡ s

abbrev pub WriteOne : Type 0
WriteOne =
    (m : Made) (old : List ℕ) (r s : Written) (out other : List ℕ) → Wrote m old r out → Wrote m old s other → (r ≡ s) × (out ≡ other)

-- 7. An AUTHORITY that was read, written again with other bytes as its payload, is the message with that field changed, and right to be written.
abbrev pub PayloadWritten : Type 0
PayloadWritten =
    (d : List ℕ) → Bytes d → (major : ℕ) (x : Authority) (m : Message) → read_in d major ≡ M.Authority x
    → message_of major d (read_in d major) ≡ some m → (v : List ℕ) → Bytes v → length v ≤ 1232
    → with_payload major d x v ≡ record { ok = true; bytes = message_bytes (layout_of authority_kinds (changed authority_kinds m 6 (some v))) }
