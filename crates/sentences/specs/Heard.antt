-- To believe. What a datagram says to a gauge: of the message that it reads as, what document 01's rules speak of. Assumes nothing.
use Rattle.std.specs.Prelude.{ℕ, Bool, cond, List, [], ◌≡◌, eqb, get_or, drop}
use Rattle.std.proofs.Math.Option.{Option, some, none}
use Rattle.octet.specs.Number.{value_be}
use Rattle.record.specs.Entry.{record_of}
use Rattle.wire_shapes.specs.Shapes.{Kind}
use Rattle.wire_fields.specs.Kinds.{present}
use Rattle.wire_fields.specs.Message.{Contents, Message, Reads}

-- what is heard; the message's own ID where it is answered
pub data Heard : Type 0 where
  -- FLOOD with a route entry: its ID, D, the validate key, the record
  entry : ℕ → Bool → ℕ → List ℕ → Heard
  -- FLOOD with a revocation: its ID, D, the validate key
  revoke : ℕ → Bool → ℕ → Heard
  -- INQUIRE: its ID, the validate key
  inquire : ℕ → ℕ → Heard
  -- AUTHORITY, whole: the acked ID, whether there is a CPA
  authority : ℕ → Bool → Heard
  -- ACK: the acked ID, N
  ack : ℕ → Bool → Heard
  -- LOOKUP: its ID, the target, the endpoints of its path, the record of its route entry if it has one
  lookup : ℕ → ℕ → List ℕ → Option (List ℕ) → Heard
  -- SOLICIT, ADVERTISE, REQUEST
  other : Heard

-- field number i of a message, in the order of its kinds (wire_fields, Kinds); what is inside it, nothing where it is absent
abbrev pub field : ℕ → Message → Contents
field i msg = get_or msg.fields i none

abbrev pub contents : Contents → List ℕ
contents none = []
contents (some v) = v

abbrev pub inside : ℕ → Message → List ℕ
inside i msg = contents (field i msg)

-- the number inside field i; the flag that is the last bit of its second byte, of which a message has no other bit, clear where the field is absent
abbrev pub number_in : ℕ → Message → ℕ
number_in i msg = value_be 256 (inside i msg)

abbrev pub flag_in : ℕ → Message → Bool
flag_in i msg = eqb (get_or (inside i msg) 1 0) 1

-- the record that a route entry names
abbrev pub entry_in : Contents → Option (List ℕ)
entry_in none = none
entry_in (some v) = some (record_of v)

-- an array's elements stand behind 8 bytes with their count, the array's length, their number and size
unfoldable pub heard : Message → Heard
heard msg =
    cond (eqb msg.type 4)
    (cond (present (field 4 msg)) (entry msg.id (flag_in 0 msg) (number_in 1 msg) (record_of (inside 4 msg)))
    (revoke msg.id (flag_in 0 msg) (number_in 1 msg)))
    (cond (eqb msg.type 7) (inquire msg.id (number_in 1 msg))
    (cond (eqb msg.type 8) (authority (number_in 0 msg) (present (field 8 msg)))
    (cond (eqb msg.type 9) (ack (number_in 0 msg) (flag_in 1 msg))
    (cond (eqb msg.type 11) (lookup msg.id (number_in 1 msg) (drop 8 (inside 4 msg)) (entry_in (field 3 msg)))
    other))))

-- the datagram d, in the major version, says x
pub record Hears (d : List ℕ) (major : ℕ) (x : Heard) : Type 0 where
  pub kinds : List Kind
  pub message : Message
  pub reads : Reads kinds d message
  pub version : message.major ≡ major
  pub says : heard message ≡ x
