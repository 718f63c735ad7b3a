-- Worked cases. Document 01's cases 1 to 12, those marked P, and those of 02's Wishes 4, 2, 11 and 12: rows of one list under one statement. Lists, learning, closest records
-- and ticks are what our calls give on lent bytes; a difference and an ACK are by the definitions that the calls use. Assumes nothing.
use Rattle.std.specs.Prelude.{ℕ, zero, suc, ◌+◌, ◌-◌, ◌*◌, ◌^◌, ◌≡◌, Bool, true, false, List, [], ◌∷◌, ◌++◌, map, length, replicate}
use Rattle.std.proofs.Math.Option.{some, none}
use Rattle.octet.specs.Number.{digits_be}
use Rattle.octet.specs.Part.{part}
use Rattle.key.specs.Around as around
use Rattle.kept.specs.Keys.{Every}
use Rattle.record.specs.Entry.{entry_of}
use Rattle.table.specs.Rows.{bytes_of, joined}
use Rattle.cache.specs.Form.{keys_of}
use Rattle.firsts.specs.Firsts.{firsts_of}
use Rattle.neighbours.specs.Listing.{key_bytes}
use Rattle.waiting.specs.Place.{new_place, inquiry_place}
use Rattle.waiting.specs.Tick.{id_bytes}
use Rattle.wire_fields.specs.Kinds.{flood_kinds, lookup_kinds}
use Rattle.wire_fields.specs.Message as message
use Rattle.wire_write.specs.Making.{ack_made, inquire_made, cpa_made, closest_made}
use Rattle.gauge_commit.specs.Sending.{answer, handed}
use Rattle.gauge_plan.specs.Lent.{Memory, memory, with_firsts, receive, tick, listing, Call, receives, ticks, lists}
use Rattle.gauge.specs.Ours.{ours}

-- ---- on which bytes

abbrev pub key : ℕ → List ℕ
key k = digits_be 256 32 k

-- a record with the key k, port 0 and one address, all zero
abbrev pub record_with : ℕ → List ℕ
record_with k = key k ++ (0 ∷ 0 ∷ 1 ∷ 0 ∷ []) ++ replicate 64 0

-- a cache of C places that holds these records, with the counts of their keys, and a waiting table with these places
abbrev pub holding_records : ℕ → List (List ℕ) → List (List ℕ) → Memory
holding_records C recs ps = memory (bytes_of (100 * C) recs) (firsts_of (keys_of recs)) (bytes_of 2240 ps)

-- records with these keys
abbrev pub holding : ℕ → List ℕ → List (List ℕ) → Memory
holding C keys ps = holding_records C (map record_with keys) ps

-- a datagram received by the gauge with the own key, whose CPA is one zero byte, with ID 7 and verdict 1 for the key k, and so many bytes of output
abbrev pub hears_into : ℕ → ℕ → ℕ → List ℕ → Call
hears_into room own k datagram = receives (receive (record_with own) (1 ∷ 0 ∷ 0 ∷ []) 6 101 7 (replicate 16 0) 1 (key k) datagram (replicate room 0))

-- the same with two own keys, whose CPAs are the bytes 7 and 8
abbrev pub hears_two : ℕ → ℕ → ℕ → ℕ → List ℕ → Call
hears_two room first second k datagram =
    receives (receive (record_with first ++ record_with second) (1 ∷ 0 ∷ 7 ∷ 1 ∷ 0 ∷ 8 ∷ []) 6 101 7 (replicate 16 0) 1 (key k) datagram (replicate room 0))

abbrev pub hears : ℕ → ℕ → List ℕ → Call
hears own k datagram = hears_into 96 own k datagram

-- the inquiry for the key k, with ID 8, and an AUTHORITY that answers it
abbrev pub inquiry_for : ℕ → List ℕ
inquiry_for k = inquiry_place 8 (record_with k)

abbrev pub authority : List ℕ
authority = (cpa_made 6 101 5 8 (0 ∷ [])).bytes

-- a FLOOD with a revocation, D clear, to another's validate key
abbrev pub revocation : List ℕ
revocation =
    message.message_bytes (message.layout_of flood_kinds (record {
      major = 6;
      minor = 101;
      type = 4;
      id = 5;
      fields = some (0 ∷ 0 ∷ 0 ∷ []) ∷ some (key 3) ∷ none ∷ some (1 ∷ []) ∷ none ∷ none ∷ [];
    }))

-- an endpoint, and a record with the key k that has it as its one
abbrev pub endpoint : ℕ → ℕ → List ℕ
endpoint port address = digits_be 256 2 port ++ digits_be 256 16 address

abbrev pub record_on : ℕ → ℕ → ℕ → List ℕ
record_on k port address = key k ++ digits_be 256 2 port ++ (1 ∷ 0 ∷ []) ++ digits_be 256 16 address ++ replicate 48 0

-- a LOOKUP of the target, with a route entry or none, by the path of these endpoints
abbrev pub lookup_by : message.Contents → List (List ℕ) → ℕ → List ℕ
lookup_by entry path target =
    let array = digits_be 256 2 (length path) ++ digits_be 256 2 (8 + 18 * length path) ++ (0x00 ∷ 0x9D ∷ 0x00 ∷ 0x12 ∷ []) ++ joined path in
    message.message_bytes (message.layout_of lookup_kinds (record {
      major = 6;
      minor = 101;
      type = 11;
      id = 5;
      fields = some (replicate 8 0) ∷ some (key target) ∷ some (key 0) ∷ entry ∷ some array ∷ none ∷ none ∷ none ∷ [];
    }))

-- by a path on which no record is
abbrev pub lookup_of : ℕ → List ℕ
lookup_of target = lookup_by none (endpoint 1 1 ∷ []) target

-- one tick after the other lists these IDs, and then no place waits
abbrev pub Ticking : Memory → List (List ℕ) → Type 0
Ticking m [] = m ≡ holding 10 [] []
Ticking m (ids ∷ more) =
    let h = ours m (ticks (tick (record_with 100) (replicate 64 0))) in
    (h.answer ≡ answer 0 (length ids) 0) × (h.output ≡ id_bytes ids ++ replicate (64 - 4 * length ids) 0) × Ticking h.memory more

-- n keys from k on, and the key that begins with the byte b, zero behind it
unfoldable pub keys_from : ℕ → ℕ → List ℕ
keys_from k zero = []
keys_from k (suc n) = k ∷ keys_from (suc k) n

abbrev pub begins : ℕ → ℕ
begins b = b * 2 ^ 248

-- the two bytes of a byte's count
abbrev pub count_of : ℕ → List ℕ → List ℕ
count_of b firsts = part (2 * b) 2 firsts

-- ---- the rows

pub data Case : Type 0 where
  -- own key, held keys; the neighbour list and its two counts
  listed : ℕ → List ℕ → List ℕ → ℕ → ℕ → Case
  -- C, own key, held keys, key learned; keys held then
  learnt : ℕ → ℕ → List ℕ → ℕ → List ℕ → Case
  -- C, two own keys, held keys, key learned; keys held then
  learnt_by : ℕ → ℕ → ℕ → List ℕ → ℕ → List ℕ → Case
  -- two own keys, the one inquired about; its CPA
  certified : ℕ → ℕ → ℕ → List ℕ → Case
  -- own key, held keys, target; the key of the closest record
  shown : ℕ → List ℕ → ℕ → ℕ → Case
  -- own key, held records, endpoints of the path, target; the closest record
  skipped : ℕ → List (List ℕ) → List (List ℕ) → ℕ → List ℕ → Case
  -- own key, key of a LOOKUP's route entry: it is inquired about
  inquired_of : ℕ → ℕ → Case
  -- two keys; by how much they differ
  differ : ℕ → ℕ → ℕ → Case
  -- versions, own ID, acked ID, N; the ACK
  acks : ℕ → ℕ → ℕ → ℕ → Bool → List ℕ → Case
  -- the ID of a place and its tries; what each tick lists, the last of them frees it
  waits : ℕ → ℕ → List (List ℕ) → Case
  -- held keys, key learned, a byte; the two bytes of its count then
  counted : List ℕ → ℕ → ℕ → List ℕ → Case
  -- held keys, key revoked, a byte; the two bytes of its count then
  uncounted : List ℕ → ℕ → ℕ → List ℕ → Case
  -- held keys, counts that are not theirs: 1
  disagrees : List ℕ → List ℕ → Case
  -- keys, a byte; the two bytes of its count
  tallied : List ℕ → ℕ → List ℕ → Case

-- a key is learned by the AUTHORITY that answers its inquiry; the closest record is what a LOOKUP is answered with
abbrev pub Right : Case → Type 0
Right (listed own held list low high) =
    ours (holding 10 held []) (lists (listing (record_with own) (key own) (replicate 320 0)))
    ≡ handed (answer 0 low high) (holding 10 held []) (key_bytes list ++ replicate (320 - 32 * length list) 0)
Right (learnt C own held k then) =
    ours (holding C held (inquiry_for k ∷ [])) (hears own k authority) ≡ handed (answer 0 0 0) (holding C then []) (replicate 96 0)
Right (learnt_by C first second held k then) =
    ours (holding C held (inquiry_for k ∷ [])) (hears_two 96 first second k authority) ≡ handed (answer 0 0 0) (holding C then []) (replicate 96 0)
Right (certified first second k cpa) =
    ours (holding 20 [] []) (hears_two 41 first second 0 (inquire_made 6 101 5 (key k) (replicate 16 0)).bytes)
    ≡ handed (answer 0 41 0) (holding 20 [] []) (cpa_made 6 101 7 5 cpa).bytes
Right (shown own held target k) =
    ours (holding 10 held []) (hears own 0 (lookup_of target))
    ≡ handed (answer 0 96 0) (holding 10 held []) (closest_made 6 101 7 5 (record_with k) 0).bytes
Right (skipped own held path target r) =
    let m = holding_records 10 held [] in
    ours m (hears own 0 (lookup_by none path target)) ≡ handed (answer 0 96 0) m (closest_made 6 101 7 5 r 0).bytes
Right (inquired_of own k) =
    ours (holding 10 [] []) (hears_into 172 own 0 (lookup_by (some (entry_of 6 101 (record_with k))) (endpoint 1 1 ∷ []) k))
    ≡ handed (answer 0 96 76) (holding 10 [] (inquiry_for k ∷ []))
    ((closest_made 6 101 7 5 (record_with own) 0).bytes ++ (inquire_made 6 101 8 (key k) (replicate 16 0)).bytes)
Right (differ j k d) = around.apart j k ≡ d
Right (acks major minor id acked n bytes) = (ack_made major minor id acked n).bytes ≡ bytes
Right (waits id tries ids) = Ticking (holding 10 [] (new_place id 1 tries (key 7) (replicate 100 0) ∷ [])) ids
Right (counted held k b bytes) = count_of b (ours (holding 10 held (inquiry_for k ∷ [])) (hears 100 k authority)).memory.firsts ≡ bytes
Right (uncounted held k b bytes) = count_of b (ours (holding 10 held []) (hears 100 k revocation)).memory.firsts ≡ bytes
Right (disagrees held firsts) =
    let m = with_firsts firsts (holding 10 held []) in
    ours m (hears 100 0 (lookup_of 7)) ≡ handed (answer 1 0 0) m (replicate 96 0)
Right (tallied keys b bytes) = count_of b (firsts_of keys) ≡ bytes

-- the nine keys before the ring's first
abbrev pub last_nine : List ℕ
last_nine =
    (2 ^ 256 - 9) ∷ (2 ^ 256 - 8) ∷ (2 ^ 256 - 7) ∷ (2 ^ 256 - 6) ∷ (2 ^ 256 - 5) ∷ (2 ^ 256 - 4) ∷ (2 ^ 256 - 3) ∷ (2 ^ 256 - 2) ∷ (2 ^ 256 - 1) ∷ []

-- the five keys on both sides of 100 and of 200
abbrev pub two_lists : List ℕ
two_lists =
    95 ∷ 96 ∷ 97 ∷ 98 ∷ 99 ∷ 101 ∷ 102 ∷ 103 ∷ 104 ∷ 105 ∷ 195 ∷ 196 ∷ 197 ∷ 198 ∷ 199 ∷ 201 ∷ 202 ∷ 203 ∷ 204 ∷ 205 ∷ []

-- two records held, each with an endpoint of its own
abbrev pub ponds : List (List ℕ)
ponds = record_on 99 5000 1 ∷ record_on 101 5002 3 ∷ []

-- 1 to 12, in order, "Case 9's answer becomes 0" (Wish 4); then Wish 4's own: pond 1 has the last pond as neighbour below; the opposite key is above; at equal
-- distance the key reached by going down; the key next to the opposite point is dropped; then Wish 2's: a record on the path is skipped, and not for its address
-- alone, its port alone, the two in different endpoints, an address that it does not use; our own record is not skipped; a LOOKUP's route entry is inquired about; then Wish 11's:
-- with two own keys a key in neither list is dropped, and an INQUIRE is answered with the CPA of its key's record; then Wish 12's: a key that begins with 5 is
-- learned; case 3 once more, where ten begin with 0 and ten still do; a key that is held is revoked, and one that is not; counts off by one; 256 keys of one byte
abbrev pub cases : List Case
cases =
    listed 100 (60 ∷ 70 ∷ 80 ∷ 90 ∷ 95 ∷ 99 ∷ 101 ∷ 110 ∷ []) (99 ∷ 95 ∷ 90 ∷ 80 ∷ 70 ∷ 101 ∷ 110 ∷ []) 5 2
    ∷ listed 100 [] [] 0 0
    ∷ learnt 10 100 (90 ∷ 91 ∷ 92 ∷ 93 ∷ 94 ∷ 95 ∷ 96 ∷ 97 ∷ 98 ∷ 99 ∷ []) 101 (91 ∷ 92 ∷ 93 ∷ 94 ∷ 95 ∷ 96 ∷ 97 ∷ 98 ∷ 99 ∷ 101 ∷ [])
    ∷ learnt 10 100 (90 ∷ 91 ∷ 92 ∷ 93 ∷ 94 ∷ 95 ∷ 96 ∷ 97 ∷ 98 ∷ 99 ∷ []) 89 (90 ∷ 91 ∷ 92 ∷ 93 ∷ 94 ∷ 95 ∷ 96 ∷ 97 ∷ 98 ∷ 99 ∷ [])
    ∷ learnt 11 100 (94 ∷ 95 ∷ 96 ∷ 97 ∷ 98 ∷ 99 ∷ 101 ∷ 102 ∷ 103 ∷ 104 ∷ 105 ∷ []) 106 (95 ∷ 96 ∷ 97 ∷ 98 ∷ 99 ∷ 101 ∷ 102 ∷ 103 ∷ 104 ∷ 105 ∷ 106 ∷ [])
    ∷ shown 50 (99 ∷ 101 ∷ []) 100 99
    ∷ shown 9 (1 ∷ 4294967296 ∷ []) 0 1
    ∷ differ 4294967295 4294967296 1
    ∷ shown 5 (0 ∷ []) (2 ^ 256 - 1) 0
    ∷ acks 6 101 7 0xD8859CF5 false
    (0x00 ∷ 0x10 ∷ 0x00 ∷ 0x0C ∷ 0x51 ∷ 0x06 ∷ 0x65 ∷ 0x09 ∷ 0x00 ∷ 0x00 ∷ 0x00 ∷ 0x07 ∷ 0x00 ∷ 0x18 ∷ 0x00 ∷ 0x08 ∷ 0xD8 ∷ 0x85 ∷ 0x9C ∷ 0xF5 ∷ [])
    ∷ acks 6 101 7 0xD8859CF5 true
    (0x00 ∷ 0x10 ∷ 0x00 ∷ 0x0C ∷ 0x51 ∷ 0x06 ∷ 0x65 ∷ 0x09 ∷ 0x00 ∷ 0x00 ∷ 0x00 ∷ 0x07 ∷ 0x00 ∷ 0x18 ∷ 0x00 ∷ 0x08 ∷ 0xD8 ∷ 0x85 ∷ 0x9C ∷ 0xF5
    ∷ 0x00 ∷ 0x40 ∷ 0x00 ∷ 0x06 ∷ 0x00 ∷ 0x01 ∷ [])
    ∷ waits 3 2 ((3 ∷ []) ∷ (3 ∷ []) ∷ [] ∷ [])
    ∷ listed 1 (5 ∷ (2 ^ 256 - 1) ∷ []) ((2 ^ 256 - 1) ∷ 5 ∷ []) 1 1
    ∷ listed 0 ((2 ^ 255) ∷ (2 ^ 255 + 1) ∷ []) ((2 ^ 255 + 1) ∷ (2 ^ 255) ∷ []) 1 1
    ∷ shown 7 (1 ∷ (2 ^ 256 - 1) ∷ []) 0 (2 ^ 256 - 1)
    ∷ learnt 10 1 ((2 ^ 256 - 10) ∷ last_nine) 5 (5 ∷ last_nine)
    ∷ skipped 50 ponds (endpoint 5000 1 ∷ []) 100 (record_on 101 5002 3)
    ∷ skipped 50 ponds (endpoint 5001 1 ∷ []) 100 (record_on 99 5000 1)
    ∷ skipped 50 ponds (endpoint 5000 2 ∷ endpoint 5001 1 ∷ []) 100 (record_on 99 5000 1)
    ∷ skipped 50 ponds (endpoint 5000 0 ∷ []) 100 (record_on 99 5000 1)
    ∷ skipped 50 ponds (endpoint 5000 1 ∷ endpoint 5002 3 ∷ []) 100 (record_with 50)
    ∷ inquired_of 50 40
    ∷ learnt_by 20 100 200 two_lists 150 two_lists
    ∷ certified 100 200 100 (7 ∷ [])
    ∷ certified 100 200 200 (8 ∷ [])
    ∷ counted [] (begins 5) 5 (1 ∷ 0 ∷ [])
    ∷ counted (keys_from 90 10) 101 0 (10 ∷ 0 ∷ [])
    ∷ uncounted (begins 5 ∷ []) (begins 5) 5 (0 ∷ 0 ∷ [])
    ∷ uncounted (begins 5 ∷ []) (begins 6) 5 (1 ∷ 0 ∷ [])
    ∷ disagrees (99 ∷ []) (replicate 512 0)
    ∷ tallied (keys_from 1000 256) 0 (0 ∷ 1 ∷ [])
    ∷ []

abbrev pub AllRight : Type 0
AllRight = Every Right cases
