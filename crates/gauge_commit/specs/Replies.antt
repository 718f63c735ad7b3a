-- Helps the code. The ACK of a FLOOD and the INQUIRE that follows it, and the places without the one found, as the code makes them. Tied to document 01 by
-- `ours-meets` (sentences/Theorems). Assumes nothing.
use Rattle.std.specs.Prelude.{ℕ, Bool, cond, List, [], ◌∷◌, Option, Some, None}
use Rattle.octet.specs.Part.{part}
use Rattle.waiting.specs.Open.{freed}
use Rattle.wire_write.specs.Making.{ack_made, inquire_made}
use Rattle.asking.specs.Ids.{id_after}

-- the ACK, where D is clear; the INQUIRE for a record's key, where a place opens
abbrev pub ack_written : ℕ → ℕ → ℕ → Bool → ℕ → Bool → List (List ℕ)
ack_written major minor id silent acked n = cond silent [] ((ack_made major minor id acked n).bytes ∷ [])

abbrev pub inquire_written : ℕ → ℕ → ℕ → Bool → List ℕ → List ℕ → List (List ℕ)
inquire_written major minor id opens nonce r = cond opens ((inquire_made major minor (id_after id) (part 0 32 r) nonce).bytes ∷ []) []

-- the places without the one found
abbrev pub freed_at : Option ℕ → List (List ℕ) → List (List ℕ)
freed_at (Some i) ps = freed i ps
freed_at None ps = ps
