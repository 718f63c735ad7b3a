-- Helps the code. What a writer of the calls writes is the message that document 01 names, and reads back as it. Cited by `sent-reads` (sentences/BackLaws).
-- Assumes nothing.
use Rattle.std.specs.Prelude.{ℕ, ◌^◌, ◌<◌, List, Bool, true, ◌≡◌}
use Rattle.octet.specs.Number.{Bytes}
use Rattle.octet.specs.Part.{part}
use Rattle.wire_fields.specs.Kinds.{ack_kinds, flood_kinds, inquire_kinds, authority_kinds}
use Rattle.wire_fields.specs.Message.{WellFormed}
use Rattle.wire_write.specs.Writing.{fit}
use Rattle.wire_write.specs.Sent.{ack_sent, flood_sent, inquire_sent, cpa_sent, closest_sent}
use Rattle.wire_write.specs.Making.{flood_made, inquire_made, cpa_made, closest_made}

-- what is handed in with a call: two versions that are bytes and an ID of 32 bits
abbrev pub Numbers : ℕ → ℕ → ℕ → Type 0
Numbers major minor id = (major < 256) × (minor < 256) × (id < 2 ^ 32)

-- each is well formed where its writer does not give 6 and it fits; so what is written reads back as it (Statements, OutputReads)
abbrev pub AckFormed : Type 0
AckFormed = (major minor id acked : ℕ) (n : Bool) → Numbers major minor id → WellFormed ack_kinds (ack_sent major minor id acked n)

abbrev pub FloodFormed : Type 0
FloodFormed =
    (major minor id : ℕ) (key s : List ℕ) (at : ℕ) (old : List ℕ) → Numbers major minor id → Bytes key → Bytes s
    → (flood_made major minor id key s at).ok ≡ true → fit (flood_made major minor id key s at).bytes old ≡ true
    → WellFormed flood_kinds (flood_sent major minor id key (part at 100 s))

abbrev pub InquireFormed : Type 0
InquireFormed =
    (major minor id : ℕ) (key nonce : List ℕ) → Numbers major minor id → Bytes key → Bytes nonce
    → (inquire_made major minor id key nonce).ok ≡ true → WellFormed inquire_kinds (inquire_sent major minor id key nonce)

abbrev pub CpaFormed : Type 0
CpaFormed =
    (major minor id acked : ℕ) (cpa old : List ℕ) → Numbers major minor id → Bytes cpa
    → fit (cpa_made major minor id acked cpa).bytes old ≡ true → WellFormed authority_kinds (cpa_sent major minor id acked cpa)

abbrev pub ClosestFormed : Type 0
ClosestFormed =
    (major minor id acked : ℕ) (s : List ℕ) (at : ℕ) → Numbers major minor id → Bytes s
    → (closest_made major minor id acked s at).ok ≡ true → WellFormed authority_kinds (closest_sent major minor id acked (part at 100 s))
