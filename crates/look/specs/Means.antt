-- Beside the demands. What the answer of a look means, in terms of the message that the datagram reads as and not of the reader's own answer: "place and length in
-- the datagram of the CPA or revoke CPA, of the nonce, of the route entry and of the target key, 0 and 0 for one not there" (D23). The radio program judges a
-- CPA by them. A theorem `look-means` stands in proofs/MeansLaws.antt. Assumes nothing.
use Rattle.std.specs.Prelude.{ℕ, ◌<◌, cond, List, ◌↔◌, ◌≡◌, eqb, length, get_or, None}
use Rattle.std.proofs.Math.Option.{Option, some, none}
use Rattle.octet.specs.Number.{Bytes, value_be}
use Rattle.octet.specs.Part.{part}
use Rattle.wire_shapes.specs.Shapes.{Kind}
use Rattle.wire_fields.specs.Message.{Contents, Message, Reads, parts_of}
use Rattle.wire_fields.specs.Places.{Part, here}
use Rattle.wire_read.specs.Answers.{read_in}
use Rattle.look.specs.declared.Look.{Look}
use Rattle.look.specs.Seen.{seen_as, look_of}

-- which fields of a type of message are told: their numbers in the order of its kinds (wire_fields, Kinds), the first being 0; none where it has no such field
pub record LookTold : Type 0 where
  pub acked : Option ℕ
  pub cpa : Option ℕ
  pub nonce : Option ℕ
  pub entry : Option ℕ
  pub target : Option ℕ

abbrev pub look_told : Option ℕ → Option ℕ → Option ℕ → Option ℕ → Option ℕ → LookTold
look_told acked cpa nonce entry target = record { acked = acked; cpa = cpa; nonce = nonce; entry = entry; target = target }

-- acked ID, CPA or revoke CPA, nonce, route entry, target of a SOLICIT, ADVERTISE, REQUEST, FLOOD, INQUIRE, AUTHORITY, ACK, and LOOKUP
unfoldable pub told_of : ℕ → LookTold
told_of t =
    cond (eqb t 1) (look_told none none (some 1) (some 0) none)
    (cond (eqb t 2) (look_told (some 0) none (some 2) none none)
    (cond (eqb t 3) (look_told none none (some 2) none none)
    (cond (eqb t 4) (look_told none (some 3) none (some 4) none)
    (cond (eqb t 7) (look_told none none (some 2) none none)
    (cond (eqb t 8) (look_told (some 0) (some 8) none (some 7) none)
    (cond (eqb t 9) (look_told (some 0) none none none none)
    (look_told none none none (some 3) (some 1))))))))

-- what the message has in that field, and where the field stands in its layout
abbrev pub contents_shown : Message → Option ℕ → Contents
contents_shown msg none = none
contents_shown msg (some i) = get_or msg.fields i none

abbrev pub stands_at : List Kind → Message → Option ℕ → Part
stands_at ks msg none = None
stands_at ks msg (some i) = get_or (parts_of 12 ks msg.fields) i None

-- the number that contents are, 0 where there are none
abbrev pub number_shown : Contents → ℕ
number_shown none = 0
number_shown (some v) = value_be 256 v

-- a place and a length tell contents: these bytes of the datagram are the contents, and it is there that the field stands. Contents may be empty, but no field
-- stands at place 0; 0 and 0 are for none
abbrev pub LookTells : List ℕ → Contents → Part → ℕ → ℕ → Type 0
LookTells d none p at len = (at ≡ 0) × (len ≡ 0)
LookTells d (some v) p at len = (0 < at) × (len ≡ length v) × (part at len d ≡ v) × (p ≡ here at len)

abbrev pub TellsField : List ℕ → List Kind → Message → Option ℕ → ℕ → ℕ → Type 0
TellsField d ks msg i at len = LookTells d (contents_shown msg i) (stands_at ks msg i) at len

-- of the message that the datagram reads as
pub record LookSays (d : List ℕ) (ks : List Kind) (msg : Message) (l : Look) : Type 0 where
  pub type : l.kind ≡ msg.type
  pub id : l.id ≡ msg.id
  pub acked : l.acked ≡ number_shown (contents_shown msg (told_of msg.type).acked)
  pub cpa : TellsField d ks msg (told_of msg.type).cpa l.cpa l.cpa_length
  pub nonce : TellsField d ks msg (told_of msg.type).nonce l.nonce l.nonce_length
  pub entry : TellsField d ks msg (told_of msg.type).entry l.entry l.entry_length
  pub target : TellsField d ks msg (told_of msg.type).target l.target l.target_length

pub record Means (d : List ℕ) (major : ℕ) (l : Look) : Type 0 where
  -- 0 exactly when the datagram reads as a message of the major version
  pub reads : (l.number ≡ 0) ↔ ((ks : List Kind) × (msg : Message) × Reads ks d msg × (msg.major ≡ major))
  pub says : (ks : List Kind) (msg : Message) → Reads ks d msg → msg.major ≡ major → LookSays d ks msg l
  -- "with any number but 0 all else is 0"
  pub refused : ¬ (l.number ≡ 0) → l ≡ seen_as l.number 0 0 0 None None None None

abbrev pub LookMeans : Type 0
LookMeans = (d : List ℕ) → Bytes d → (major : ℕ) → Means d major (look_of (read_in d major))
