-- To believe. The messages that a call sends, field by field: "What 000 leaves to the sender is fixed so in each datagram a call sends: a flag, reason or optional
-- field that no rule here names is clear or absent, but a flag by which an INQUIRE asks for a CPA, if 000 has one, is set; versions, a route entry's too, are the
-- given ones". Assumes nothing.
use Rattle.std.specs.Prelude.{ℕ, ◌+◌, ◌*◌, List, [], ◌∷◌, Bool, cond, length}
use Rattle.std.proofs.Math.Option.{some, none}
use Rattle.octet.specs.Number.{digits_be}
use Rattle.record.specs.Record.{count_of}
use Rattle.record.specs.Entry.{entry_of}
use Rattle.wire_fields.specs.Message.{Message}
use Rattle.wire_fields.specs.Kinds.{split_bytes}

-- "A call that sends an ACK writes the second field only where N is set"
abbrev pub ack_sent : ℕ → ℕ → ℕ → ℕ → Bool → Message
ack_sent major minor id acked n =
    record { major = major; minor = minor; type = 9; id = id; fields = some (digits_be 256 4 acked) ∷ cond n (some (0 ∷ 1 ∷ [])) none ∷ [] }

-- "D clear, validate key the neighbour's, one record, empty list of those already reached"
abbrev pub flood_sent : ℕ → ℕ → ℕ → List ℕ → List ℕ → Message
flood_sent major minor id key r =
    record {
      major = major;
      minor = minor;
      type = 4;
      id = id;
      fields = some (0 ∷ 0 ∷ 0 ∷ []) ∷ some key ∷ none ∷ none ∷ some (entry_of major minor r) ∷ none ∷ [];
    }

-- A is the flag by which an INQUIRE asks for a CPA
abbrev pub inquire_sent : ℕ → ℕ → ℕ → List ℕ → List ℕ → Message
inquire_sent major minor id key nonce =
    record {
      major = major;
      minor = minor;
      type = 7;
      id = id;
      fields = some (0 ∷ 0x10 ∷ []) ∷ some key ∷ some nonce ∷ none ∷ none ∷ none ∷ [];
    }

-- "One AUTHORITY with the own CPA"
abbrev pub cpa_sent : ℕ → ℕ → ℕ → ℕ → List ℕ → Message
cpa_sent major minor id acked cpa =
    record {
      major = major;
      minor = minor;
      type = 8;
      id = id;
      fields = some (digits_be 256 4 acked) ∷ some (split_bytes (12 + length cpa)) ∷ some (0 ∷ 0 ∷ []) ∷ none ∷ none ∷ none ∷ none ∷ none ∷ some cpa ∷ [];
    }

-- "One AUTHORITY with the record closest to the target"
abbrev pub closest_sent : ℕ → ℕ → ℕ → ℕ → List ℕ → Message
closest_sent major minor id acked r =
    record {
      major = major;
      minor = minor;
      type = 8;
      id = id;
      fields = some (digits_be 256 4 acked) ∷ some (split_bytes (52 + 16 * count_of r)) ∷ some (0 ∷ 0 ∷ []) ∷ none ∷ none ∷ none ∷ none
          ∷ some (entry_of major minor r) ∷ none ∷ [];
    }
