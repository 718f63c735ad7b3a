-- Helps the code. What the radio program is told of a message: "Reading a message without acting on it gives 0 to 6, and 7 only for an AUTHORITY in part".
-- With 0: the type, the message ID and the acked ID, and where in the datagram those fields stand that the program must judge or sign. Tied to the message
-- read by `look-means` (look/MeansLaws). Assumes nothing.
use Rattle.std.specs.Prelude.{ℕ, ◌+◌, ◌≤◌, List, Bool, false, Some, None}
use Rattle.wire_fields.specs.Places.{Part, here}
use Rattle.wire_buffer.specs.Buffer.{start_of}
use Rattle.wire_read.specs.declared.Incoming.{Incoming}
use Rattle.wire_read.specs.declared.Incoming.TheVariants as M
use Rattle.wire_shapes.specs.Shapes.{Kind}
use Rattle.wire_fields.specs.Kinds.{authority_kinds}
use Rattle.wire_fields.specs.Reading.{fields_as}
use Rattle.wire_fields.specs.Refusals.{found_of}
use Rattle.wire_fields.proofs.RefusalLaws.{gated}
use Rattle.wire_read.specs.Answers.{is_here, incoming_of}
use Rattle.look.specs.declared.Look.{Look}
use Rattle.look.specs.declared.Brief.{Brief}

-- how many bytes a field's contents are, 0 where it is not there; `start_of` is their place
abbrev pub size_of : Part → ℕ
size_of (Some p) = p.len
size_of None = 0

-- number; type, message ID, acked ID; place and length of the CPA or revoke CPA, of the nonce, of the route entry, of the target key
abbrev pub seen_as : (number kind id acked : ℕ) (cpa nonce entry target : Part) → Look
seen_as number kind id acked cpa nonce entry target =
    record {
      number = number;
      kind = kind;
      id = id;
      acked = acked;
      cpa = start_of cpa;
      cpa_length = size_of cpa;
      nonce = start_of nonce;
      nonce_length = size_of nonce;
      entry = start_of entry;
      entry_length = size_of entry;
      target = start_of target;
      target_length = size_of target;
    }

-- a hashed nonce has 20 bytes, a REQUEST's nonce 16, a key 32
unfoldable pub look_of : Incoming → Look
look_of (M.Refused n) = seen_as n 0 0 0 None None None None
look_of (M.Solicit m) = seen_as 0 1 m.head.id 0 None (here m.nonce 20) m.entry None
look_of (M.Advertise m) = seen_as 0 2 m.head.id m.acked None (here m.nonce 20) None None
look_of (M.Request m) = seen_as 0 3 m.head.id 0 None (here m.nonce 16) None None
look_of (M.Flood m) = seen_as 0 4 m.head.id 0 m.revoke None m.entry None
look_of (M.Inquire m) = seen_as 0 7 m.head.id 0 None m.nonce None None
look_of (M.Authority m) = seen_as 0 8 m.head.id m.acked m.fields.cpa None m.fields.entry None
look_of (M.Ack m) = seen_as 0 9 m.head.id m.acked None None None None
look_of (M.Lookup m) = seen_as 0 11 m.head.id 0 None None m.entry (here m.target 32)

-- what calls want of a message besides: a validate key's place, a flag, place and length of a path
abbrev pub briefed : Look → ℕ → Bool → ℕ → ℕ → Brief
briefed seen validate flag path size = record { seen = seen; validate = validate; flag = flag; path = path; size = size }

unfoldable pub brief_of : Incoming → Brief
brief_of (M.Refused n) = briefed (look_of (M.Refused n)) 0 false 0 0
brief_of (M.Solicit m) = briefed (look_of (M.Solicit m)) 0 false 0 0
brief_of (M.Advertise m) = briefed (look_of (M.Advertise m)) 0 false 0 0
brief_of (M.Request m) = briefed (look_of (M.Request m)) 0 false 0 0
brief_of (M.Flood m) = briefed (look_of (M.Flood m)) m.validate m.d 0 0
brief_of (M.Inquire m) = briefed (look_of (M.Inquire m)) m.validate false 0 0
brief_of (M.Authority m) = briefed (look_of (M.Authority m)) 0 (is_here m.fields.cpa) 0 0
brief_of (M.Ack m) = briefed (look_of (M.Ack m)) 0 m.n 0 0
brief_of (M.Lookup m) = briefed (look_of (M.Lookup m)) 0 false (start_of m.path) (size_of m.path)

-- what the reader of a type gives, and that of an AUTHORITY
abbrev pub read_as : ℕ → List Kind → List ℕ → Incoming
read_as t ks d = incoming_of d (found_of t (fields_as t ks d))

abbrev pub authority_read : List ℕ → Incoming
authority_read d = incoming_of d (gated 8 d (found_of 8 (fields_as 8 authority_kinds d)))

-- the four fields told stand within 1,232 bytes
abbrev pub Small : Look → Type 0
Small r =
    (r.cpa + r.cpa_length ≤ 1232) × (r.nonce + r.nonce_length ≤ 1232) × (r.entry + r.entry_length ≤ 1232)
    × (r.target + r.target_length ≤ 1232)
