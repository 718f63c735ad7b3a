-- Helps the code. What writing each of the messages that a call sends makes: 6 only for a key, a nonce or a record that is none. Its bytes are those of the message
-- (specs/Sent), by definition. Assumes nothing.
use Rattle.std.specs.Prelude.{ℕ, ◌+◌, List, Bool, true, ◌&&◌, eqb, leb, length}
use Rattle.octet.specs.Part.{part}
use Rattle.record.specs.Record.{record_form}
use Rattle.wire_shapes.specs.Shapes.{Kind}
use Rattle.wire_fields.specs.Kinds.{flood_kinds, inquire_kinds, authority_kinds, ack_kinds}
use Rattle.wire_fields.specs.Message.{Message, message_bytes, layout_of}
use Rattle.wire_write.specs.Writing.{Made}
use Rattle.wire_write.specs.Sent.{ack_sent, flood_sent, inquire_sent, cpa_sent, closest_sent}

-- a record in form stands at a place of a slice
abbrev pub formed_at : ℕ → List ℕ → Bool
formed_at at s = leb (at + 100) (length s) && record_form (part at 100 s)

abbrev pub made_as : Bool → List Kind → Message → Made
made_as ok ks m = record { ok = ok; bytes = message_bytes (layout_of ks m) }

unfoldable pub ack_made : ℕ → ℕ → ℕ → ℕ → Bool → Made
ack_made major minor id acked n = made_as true ack_kinds (ack_sent major minor id acked n)

unfoldable pub flood_made : ℕ → ℕ → ℕ → List ℕ → List ℕ → ℕ → Made
flood_made major minor id key s at = made_as (eqb (length key) 32 && formed_at at s) flood_kinds (flood_sent major minor id key (part at 100 s))

unfoldable pub inquire_made : ℕ → ℕ → ℕ → List ℕ → List ℕ → Made
inquire_made major minor id key nonce = made_as (eqb (length key) 32 && eqb (length nonce) 16) inquire_kinds (inquire_sent major minor id key nonce)

unfoldable pub cpa_made : ℕ → ℕ → ℕ → ℕ → List ℕ → Made
cpa_made major minor id acked cpa = made_as true authority_kinds (cpa_sent major minor id acked cpa)

unfoldable pub closest_made : ℕ → ℕ → ℕ → ℕ → List ℕ → ℕ → Made
closest_made major minor id acked s at = made_as (formed_at at s) authority_kinds (closest_sent major minor id acked (part at 100 s))
