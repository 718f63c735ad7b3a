-- To believe. Document 01's table "What comes back": when a number applies to a call, in the words of Sentences. Assumes nothing.
use Rattle.std.specs.Prelude.{ℕ, ◌-◌, ◌≤◌, ◌<◌, Bool, true, false, ◌⊎◌, List, ◌≡◌, length, get_or}
use Rattle.std.proofs.Math.Option.{Option, none}
use Rattle.octet.specs.Part.{part}
use Rattle.key.specs.Number.{key_at}
use Rattle.key.specs.Around.{above}
use Rattle.record.specs.Record.{key_of}
use Rattle.own.specs.Own.{own_keys, IsOwn}
use Rattle.table.specs.Rows.{joined}
use Rattle.kept.specs.Keys.{◌∈◌}
use Rattle.waiting.specs.Place.{id_of, place_key}
use Rattle.waiting.specs.Form.{places_of}
use Rattle.wire_shapes.specs.Shapes.{split_form}
use Rattle.wire_fields.specs.Kinds.{kinds_of}
use Rattle.wire_fields.specs.Message.{opening, type_of}
use Rattle.wire_shapes.specs.Field.{number_at}
use Rattle.asking.specs.Ids.{id_after}
use Rattle.gauge_plan.specs.Lent.{Memory, Receive, Send, Call, receives, sends, ticks, lists, ReceiveLent, SendLent, TickLent, ListLent}
use Rattle.sentences.specs.Heard.{Heard, entry, revoke, inquire, authority, ack, lookup, other, Hears}
use Rattle.sentences.specs.Sentences.{Holds, Waits, WaitsAs, MustAsk, EntryAsks, Reply, Named, flooding}

abbrev pub Says : Receive → Heard → Type 0
Says l x = Hears l.datagram l.major x

-- "an AUTHORITY that is not its whole buffer (6 then looks only at the fields before the buffer's bytes)": acked ID and split controls are there and right, and the
-- controls, a size and an offset, do not say that the whole buffer follows (docs/DECISIONS.md, D43)
pub record InPart (d : List ℕ) : Type 0 where
  pub type : type_of d ≡ 8
  pub long : 28 ≤ length d
  pub acked : (number_at 12 2 d ≡ 0x18) × (number_at 14 2 d ≡ 8)
  pub split : (number_at 20 2 d ≡ 0x98) × (number_at 22 2 d ≡ 8)
  pub allowed : split_form (part 24 4 d) ≡ true
  pub not-whole : ¬ ((number_at 0 2 (part 24 4 d) ≡ length d - 28) × (number_at 2 2 (part 24 4 d) ≡ 0))

-- "15: output needs more bytes than lent, or a datagram over 1,232"
abbrev pub NoRoom : List ℕ → List (List ℕ) → Type 0
NoRoom output ds = (length output < length (joined ds)) ⊎ ((d : List ℕ) × (d ∈ ds) × (1232 < length d))

-- a datagram received: the number applies, row by row of the table
pub data ReceiveApplies (m : Memory) (l : Receive) (n : ℕ) : Type 0 where
  -- 1 "lent memory is not as above"
  out-of-form : n ≡ 1 → ¬ ReceiveLent m l → ReceiveApplies m l n
  -- 2 "datagram shorter than 12 or longer than 1,232 bytes"
  wrong-length : n ≡ 2 → ¬ ((12 ≤ length l.datagram) × (length l.datagram ≤ 1232)) → ReceiveApplies m l n
  -- 3 "first five bytes are not 00 10 00 0C 51"
  not_opened : n ≡ 3 → ¬ (part 0 5 l.datagram ≡ opening) → ReceiveApplies m l n
  -- 4 "major version differs"
  not-major : n ≡ 4 → ¬ (get_or l.datagram 5 0 ≡ l.major) → ReceiveApplies m l n
  -- 5 "type unknown"
  not_known : n ≡ 5 → kinds_of (type_of l.datagram) ≡ none → ReceiveApplies m l n
  -- 6 "a field malformed, misplaced, missing or running past the end; address count outside 1 to 4; bytes left over": it reads as no message
  not-read : n ≡ 6 → ¬ InPart l.datagram → ¬ ((x : Heard) × Says l x) → ReceiveApplies m l n
  -- 7 "SOLICIT, ADVERTISE or REQUEST; an AUTHORITY that is not its whole buffer"
  not_taken : n ≡ 7 → Says l other → ReceiveApplies m l n
  in-part : n ≡ 7 → InPart l.datagram → ReceiveApplies m l n
  -- 8 "ACK whose acked ID is no waiting flood, AUTHORITY whose acked ID is no waiting inquiry"
  no-flood : n ≡ 8 → (acked : ℕ) (b : Bool) → Says l (ack acked b) → ¬ ((p : List ℕ) × WaitsAs m 1 acked p) → ReceiveApplies m l n
  no-inquiry : n ≡ 8 → (acked : ℕ) (cpa : Bool) → Says l (authority acked cpa) → ¬ ((p : List ℕ) × WaitsAs m 2 acked p) → ReceiveApplies m l n
  -- 9 "AUTHORITY without CPA, or verdict not 1 where a CPA is needed"
  no_cpa : n ≡ 9 → (acked : ℕ) → Says l (authority acked false) → ReceiveApplies m l n
  bad-authority : n ≡ 9 → (acked : ℕ) (cpa : Bool) → Says l (authority acked cpa) → ¬ (l.verdict ≡ 1) → ReceiveApplies m l n
  bad-revocation : n ≡ 9 → (id : ℕ) (silent : Bool) (validate : ℕ) → Says l (revoke id silent validate) → ¬ (l.verdict ≡ 1) → ReceiveApplies m l n
  -- 10 "AUTHORITY's verdict is good for another key than the one inquired"
  other_key : n ≡ 10 → (acked : ℕ) → Says l (authority acked true) → l.verdict ≡ 1 → (p : List ℕ) → WaitsAs m 2 acked p
      → ¬ (place_key p ≡ key_at 0 l.key) → ReceiveApplies m l n
  -- 11 "route entry or revocation in a FLOOD names the own key", any of ours: a revocation names the key that the verdict is good for
  own-entry : n ≡ 11 → (id : ℕ) (silent : Bool) (validate : ℕ) (r : List ℕ) → Says l (entry id silent validate r) → IsOwn (own_keys l.own) (key_of r)
      → ReceiveApplies m l n
  own-revocation : n ≡ 11 → (id : ℕ) (silent : Bool) (validate : ℕ) → Says l (revoke id silent validate) → l.verdict ≡ 1
      → IsOwn (own_keys l.own) (key_at 0 l.key) → ReceiveApplies m l n
  -- 12 "INQUIRE for a key other than ours"
  not_ours : n ≡ 12 → (id validate : ℕ) → Says l (inquire id validate) → ¬ IsOwn (own_keys l.own) validate → ReceiveApplies m l n
  -- 13 "a place must be opened and its ID is waiting already"; 14 "a place must be opened and all 16 are used"
  id-waits : n ≡ 13 → (id : ℕ) (silent : Bool) (validate : ℕ) (r : List ℕ) → Says l (entry id silent validate r) → MustAsk (own_keys l.own) m r
      → (p : List ℕ) → Waits m p → id_of p ≡ id_after l.id → ReceiveApplies m l n
  all-used : n ≡ 14 → (id : ℕ) (silent : Bool) (validate : ℕ) (r : List ℕ) → Says l (entry id silent validate r) → MustAsk (own_keys l.own) m r
      → length (places_of m.waiting) ≡ 16 → ReceiveApplies m l n
  -- "13 and 14 now apply to LOOKUP too" (02, Wish 2)
  lookup-id-waits : n ≡ 13 → (id target : ℕ) (path : List ℕ) (e : Option (List ℕ)) → Says l (lookup id target path e) → EntryAsks (own_keys l.own) m e
      → (p : List ℕ) → Waits m p → id_of p ≡ id_after l.id → ReceiveApplies m l n
  lookup-all-used : n ≡ 14 → (id target : ℕ) (path : List ℕ) (e : Option (List ℕ)) → Says l (lookup id target path e) → EntryAsks (own_keys l.own) m e
      → length (places_of m.waiting) ≡ 16 → ReceiveApplies m l n
  -- 15 "output needs more bytes than lent, or a datagram over 1,232"
  no_room : n ≡ 15 → (x : Heard) → Says l x → (ds : List (List ℕ)) → Reply m l x ds → NoRoom l.output ds → ReceiveApplies m l n

-- a FLOOD to send
pub data SendApplies (m : Memory) (l : Send) (n : ℕ) : Type 0 where
  -- 1 "lent memory is not as above"
  send-out-of-form : n ≡ 1 → ¬ SendLent m l → SendApplies m l n
  -- 12 "a FLOOD to send whose neighbour is not held, or whose record is neither ours nor held"
  not-neighbour : n ≡ 12 → ¬ ((r : List ℕ) × Holds (own_keys l.own) m r × (key_of r ≡ key_at 0 l.neighbour)) → SendApplies m l n
  not_named : n ≡ 12 → ¬ ((r : List ℕ) × Named m l r) → SendApplies m l n
  -- 13 "a place must be opened and its ID is waiting already"; 14 "a place must be opened and all 16 are used"; 15
  send-id-waits : n ≡ 13 → (p : List ℕ) → Waits m p → id_of p ≡ l.id → SendApplies m l n
  send-all-used : n ≡ 14 → length (places_of m.waiting) ≡ 16 → SendApplies m l n
  send-no-room : n ≡ 15 → (r : List ℕ) → Named m l r → NoRoom l.output (flooding l r) → SendApplies m l n

-- "The list needs room for 16 numbers of 32 bits, else 15"; "Output shorter than 320 bytes: 15"; 12 for a list round a key that is not ours (02, Wish 11)
abbrev pub Applies : Memory → Call → ℕ → Type 0
Applies m (receives l) n = ReceiveApplies m l n
Applies m (sends l) n = SendApplies m l n
Applies m (ticks l) n = ((n ≡ 1) × (¬ TickLent m l)) ⊎ ((n ≡ 15) × (length l.output < 64))
Applies m (lists l) n =
    ((n ≡ 1) × (¬ ListLent m l)) ⊎ ((n ≡ 12) × (¬ IsOwn (own_keys l.own) (key_at 0 l.key))) ⊎ ((n ≡ 15) × (length l.output < 320))
