-- Helps the code. What an answer of `read` says: document 01's number, and the message, its fields from the numbers of the answer and from the datagram d that
-- it was read from: "Where an answer is an enum, a definition provides this paper's number and values for each case". Tied to the layout by `read-gives`
-- (wire/Theorems). Assumes nothing.
use Rattle.std.specs.Prelude.{ℕ, ◌+◌, ◌-◌, ◌*◌, List, [], ◌∷◌, ◌++◌, Bool, cond, length}
use Rattle.std.proofs.Math.Option.{Option, some, none}
use Rattle.octet.specs.Number.{digits_be}
use Rattle.octet.specs.Part.{part}
use Rattle.wire_fields.specs.Message.{Contents, Message}
use Rattle.wire_fields.specs.Reading.{contents_in}
use Rattle.wire_read.specs.declared.Head.{Head}
use Rattle.wire_buffer.specs.declared.Inside.{Inside}
use Rattle.wire_read.specs.declared.Incoming.{Incoming}
use Rattle.wire_read.specs.declared.Incoming.TheVariants as M
use Rattle.wire_read.specs.declared.messages.Solicit.{Solicit}
use Rattle.wire_read.specs.declared.messages.Advertise.{Advertise}
use Rattle.wire_read.specs.declared.messages.Request.{Request}
use Rattle.wire_read.specs.declared.messages.Flood.{Flood}
use Rattle.wire_read.specs.declared.messages.Inquire.{Inquire}
use Rattle.wire_read.specs.declared.messages.Authority.{Authority}
use Rattle.wire_read.specs.declared.messages.Ack.{Ack}
use Rattle.wire_read.specs.declared.messages.Lookup.{Lookup}
use Rattle.wire_fields.specs.Kinds.{split_bytes}

-- the number of an answer: 0 with a message
abbrev pub number_of : Incoming → ℕ
number_of (M.Refused n) = n
number_of (M.Solicit m) = 0
number_of (M.Advertise m) = 0
number_of (M.Request m) = 0
number_of (M.Flood m) = 0
number_of (M.Inquire m) = 0
number_of (M.Authority m) = 0
number_of (M.Ack m) = 0
number_of (M.Lookup m) = 0

-- a flag as a bit
abbrev pub bit : Bool → ℕ
bit b = cond b 1 0

abbrev pub held : Bool → List ℕ → Contents
held there v = cond there (some v) none

-- the fields of a buffer
abbrev pub inside_fields : List ℕ → Inside → List Contents
inside_fields d f =
    some ((2 * bit f.l) ∷ (8 * bit f.b + bit f.n) ∷ []) ∷ contents_in d f.chain ∷ contents_in d f.token ∷ contents_in d f.classifier
    ∷ contents_in d f.payload ∷ contents_in d f.entry ∷ contents_in d f.cpa ∷ []

-- the fields of each message
abbrev pub solicit_fields : List ℕ → Solicit → List Contents
solicit_fields d m = contents_in d m.entry ∷ some (part m.nonce 20 d) ∷ []

abbrev pub advertise_fields : List ℕ → Advertise → List Contents
advertise_fields d m = some (digits_be 256 4 m.acked) ∷ contents_in d m.keys ∷ some (part m.nonce 20 d) ∷ []

abbrev pub request_fields : List ℕ → Request → List Contents
request_fields d m =
    held m.flags (0 ∷ 0 ∷ []) ∷ held m.split (split_bytes (length d - cond m.flags 28 20)) ∷ some (part m.nonce 16 d)
    ∷ contents_in d m.keys ∷ contents_in d m.credential ∷ contents_in d m.signature ∷ contents_in d m.key ∷ []

abbrev pub flood_fields : List ℕ → Flood → List Contents
flood_fields d m =
    some (0 ∷ bit m.d ∷ 0 ∷ []) ∷ some (part m.validate 32 d) ∷ contents_in d m.token ∷ contents_in d m.revoke ∷ contents_in d m.entry
    ∷ contents_in d m.reached ∷ []

abbrev pub inquire_fields : List ℕ → Inquire → List Contents
inquire_fields d m =
    some (0 ∷ (16 * bit m.a + (8 * bit m.x + 4 * bit m.c)) ∷ []) ∷ some (part m.validate 32 d) ∷ contents_in d m.nonce
    ∷ contents_in d m.credential ∷ contents_in d m.signature ∷ contents_in d m.key ∷ []

abbrev pub authority_fields : List ℕ → Authority → List Contents
authority_fields d m = some (digits_be 256 4 m.acked) ∷ some (split_bytes (length d - 28)) ∷ inside_fields d m.fields

abbrev pub ack_fields : Ack → List Contents
ack_fields m = some (digits_be 256 4 m.acked) ∷ held m.flags (0 ∷ bit m.n ∷ []) ∷ []

abbrev pub lookup_fields : List ℕ → Lookup → List Contents
lookup_fields d m =
    some (0 ∷ (2 * bit m.a) ∷ (digits_be 256 2 m.precision ++ (m.criteria ∷ m.reason ∷ 0 ∷ 0 ∷ []))) ∷ some (part m.target 32 d)
    ∷ some (part m.validate 32 d) ∷ contents_in d m.entry ∷ contents_in d m.path ∷ contents_in d m.credential
    ∷ contents_in d m.signature ∷ contents_in d m.key ∷ []

abbrev message : ℕ → ℕ → Head → List Contents → Option Message
message major type h fs = some (record { major = major; minor = h.minor; type = type; id = h.id; fields = fs })

-- the message of an answer
unfoldable pub message_of : ℕ → List ℕ → Incoming → Option Message
message_of major d (M.Refused n) = none
message_of major d (M.Solicit m) = message major 1 m.head (solicit_fields d m)
message_of major d (M.Advertise m) = message major 2 m.head (advertise_fields d m)
message_of major d (M.Request m) = message major 3 m.head (request_fields d m)
message_of major d (M.Flood m) = message major 4 m.head (flood_fields d m)
message_of major d (M.Inquire m) = message major 7 m.head (inquire_fields d m)
message_of major d (M.Authority m) = message major 8 m.head (authority_fields d m)
message_of major d (M.Ack m) = message major 9 m.head (ack_fields m)
message_of major d (M.Lookup m) = message major 11 m.head (lookup_fields d m)
