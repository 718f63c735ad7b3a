-- To believe. Document 01's sentences, of any gauge: what is sent, what is held and what waits after each call that is accepted. When a call is refused is in
-- Numbers, what is signed in Meets. Assumes nothing.
use Rattle.std.specs.Prelude.{ℕ, ◌-◌, ◌≤◌, ◌<◌, Bool, true, false, cond, ◌⊎◌, ◌↔◌, List, [], ◌∷◌, ◌++◌, ◌≡◌, length}
use Rattle.std.proofs.Math.Option.{Option, some, none}
use Rattle.octet.specs.Part.{part}
use Rattle.key.specs.Number.{key_at}
use Rattle.key.specs.Around.{below, above, side_of, nearness, apart, closer}
use Rattle.record.specs.Record.{key_of}
use Rattle.own.specs.Own.{Own, own_keys, own_records, own_record, own_place, first_own, IsOwn}
use Rattle.kept.specs.Keys.{◌∈◌, Rising, plain}
use Rattle.kept.specs.Neighbours.{IsNeighbours}
use Rattle.kept.specs.Plain.{neighbour_list}
use Rattle.cache.specs.Form.{keys_of, places_in, held_of, cache_form}
use Rattle.firsts.specs.Firsts.{firsts_of}
use Rattle.path.specs.Path.{on_path}
use Rattle.neighbours.specs.Listing.{key_bytes}
use Rattle.waiting.specs.Place.{id_of, kind_of, tries_of, place_key, place_record, inquiry_place, flood_place}
use Rattle.waiting.specs.Form.{places_of, waiting_form}
use Rattle.waiting.specs.Tick.{one_less, id_bytes}
use Rattle.wire_shapes.specs.Shapes.{Kind}
use Rattle.wire_fields.specs.Kinds.{flood_kinds, inquire_kinds, authority_kinds, ack_kinds}
use Rattle.wire_fields.specs.Message.{Message, message_bytes, layout_of}
use Rattle.wire_write.specs.Sent.{ack_sent, flood_sent, inquire_sent, cpa_sent, closest_sent}
use Rattle.asking.specs.Ids.{id_after}
use Rattle.gauge_commit.specs.Sending.{answer, lengths, sending, Handed, handed}
use Rattle.gauge_plan.specs.Lent.{Memory, Receive, cpa_for, Send, Call, receives, sends, ticks, lists, with_firsts, with_waiting, with_tables}
use Rattle.sentences.specs.Heard.{Heard, entry, revoke, inquire, authority, ack, lookup, other, Hears}

-- ---- views: what is held and what waits, for our own keys

-- the record r is held; the place p waits
abbrev pub Holds : Own → Memory → List ℕ → Type 0
Holds own m r = r ∈ held_of own m.cache

abbrev pub Waits : Memory → List ℕ → Type 0
Waits m p = p ∈ places_of m.waiting

-- a flood (kind 1) or an inquiry (kind 2) waits with the ID; an inquiry for the key
abbrev pub WaitsAs : Memory → ℕ → ℕ → List ℕ → Type 0
WaitsAs m kind id p = Waits m p × (id_of p ≡ id) × (kind_of p ≡ kind)

abbrev pub Inquiry : ℕ → List ℕ → Type 0
Inquiry u p = (kind_of p ≡ 2) × (place_key p ≡ u)

-- exactly these records are held, in a cache in form of the same size; exactly these places wait, in a table in form. This is every byte: a memory in form is
-- the only one with its members (cache-same, table-same in proofs/MembersLaws)
pub record HoldsExactly (own : Own) (lent left : List ℕ) (P : List ℕ → Type 0) : Type 0 where
  pub form : cache_form own left ≡ true
  pub size : length left ≡ length lent
  pub members : (r : List ℕ) → (r ∈ held_of own left) ↔ P r

pub record WaitsExactly (own : Own) (left : List ℕ) (P : List ℕ → Type 0) : Type 0 where
  pub form : waiting_form own left ≡ true
  pub members : (p : List ℕ) → (p ∈ places_of left) ↔ P p

-- the bytes of a message
abbrev pub written : List Kind → Message → List ℕ
written ks msg = message_bytes (layout_of ks msg)

-- "accepted; the lengths of up to two datagrams to send are returned, in the order written, 0 for one not there": they stand one after the other at the output's
-- start, and the rest of it is as lent
pub record Sent (output : List ℕ) (ds : List (List ℕ)) (h : Handed) : Type 0 where
  pub counts : h.answer ≡ lengths ds
  pub bytes : h.output ≡ sending ds output

-- ---- what is sent in answer

-- "If the very same record is held, or an inquiry for its key is waiting, no more. Otherwise ..": neither is so
abbrev pub MustAsk : Own → Memory → List ℕ → Type 0
MustAsk own m r = (¬ Holds own m r) × (¬ ((p : List ℕ) × Waits m p × Inquiry (key_of r) p))

-- "N set when the validate key is not ours", none of ours where there are several
abbrev pub NSet : Receive → ℕ → Bool → Type 0
NSet l validate n = (n ≡ true) ↔ (¬ IsOwn (own_keys l.own) validate)

-- "If D is clear, an ACK is written", with the given ID
abbrev pub acks : Receive → ℕ → Bool → Bool → List (List ℕ)
acks l id silent n = cond silent [] (written ack_kinds (ack_sent l.major l.minor l.id id n) ∷ [])

-- "Otherwise an INQUIRE for its key follows": "the INQUIRE's is one more, and 4294967295 is followed by 0, also where no ACK is written"
abbrev pub asks : Receive → Bool → List ℕ → List (List ℕ)
asks l ask r = cond ask (written inquire_kinds (inquire_sent l.major l.minor (id_after l.id) (part 0 32 r) l.nonce) ∷ []) []

-- "the record closest to the target, the own record included"; "the shorter way round; at equal distance .. the key reached by going down" (02, Wish 4); "must
-- skip any held record whose port and one of whose addresses stand together as an endpoint on the LOOKUP's path" and "The own record is never skipped" (02, Wish 2)
abbrev pub Candidate : Memory → Receive → List ℕ → List ℕ → Type 0
Candidate m l path r = (r ∈ own_records l.own) ⊎ (Holds (own_keys l.own) m r × (on_path r path ≡ false))

pub record Closest (m : Memory) (l : Receive) (path : List ℕ) (target : ℕ) (r : List ℕ) : Type 0 where
  pub candidate : Candidate m l path r
  pub none-closer : (q : List ℕ) → Candidate m l path q → closer target (key_of q) (key_of r) ≡ false

-- "01 was wrong to leave the LOOKUP's route entry unlearned: it is inquired about as in a FLOOD .. our own key there is passed over" (02, Wish 2). The record that
-- the entry names, nothing where there is none
abbrev pub EntryAsks : Own → Memory → Option (List ℕ) → Type 0
EntryAsks own m none = ⊥
EntryAsks own m (some r) = (¬ IsOwn own (key_of r)) × MustAsk own m r

abbrev pub entry_record : Option (List ℕ) → List ℕ
entry_record none = []
entry_record (some r) = r

pub record EntryReply (m : Memory) (l : Receive) (id : ℕ) (silent : Bool) (validate : ℕ) (r : List ℕ) (ds : List (List ℕ)) : Type 0 where
  pub n : Bool
  pub ask : Bool
  pub set : NSet l validate n
  pub asked : (ask ≡ true) ↔ MustAsk (own_keys l.own) m r
  pub are : ds ≡ acks l id silent n ++ asks l ask r

pub record RevokeReply (l : Receive) (id : ℕ) (silent : Bool) (validate : ℕ) (ds : List (List ℕ)) : Type 0 where
  pub n : Bool
  pub set : NSet l validate n
  pub are : ds ≡ acks l id silent n

pub record LookupReply (m : Memory) (l : Receive) (id target : ℕ) (path : List ℕ) (e : Option (List ℕ)) (ds : List (List ℕ)) : Type 0 where
  pub r : List ℕ
  pub ask : Bool
  pub closest : Closest m l path target r
  pub asked : (ask ≡ true) ↔ EntryAsks (own_keys l.own) m e
  -- the reply, and the INQUIRE "with the ID one more than the reply's"
  pub are : ds ≡ written authority_kinds (closest_sent l.major l.minor l.id id r) ∷ asks l ask (entry_record e)

-- the datagrams that answer what was heard, an INQUIRE with the CPA of the own record with its key (02, Wish 11); SOLICIT, ADVERTISE and REQUEST are never
-- accepted (7)
abbrev pub Reply : Memory → Receive → Heard → List (List ℕ) → Type 0
Reply m l (entry id silent validate r) ds = EntryReply m l id silent validate r ds
Reply m l (revoke id silent validate) ds = RevokeReply l id silent validate ds
Reply m l (inquire id validate) ds = ds ≡ written authority_kinds (cpa_sent l.major l.minor l.id id (cpa_for l validate)) ∷ []
Reply m l (authority acked cpa) ds = ds ≡ []
Reply m l (ack acked n) ds = ds ≡ []
Reply m l (lookup id target path e) ds = LookupReply m l id target path e ds
Reply m l other ds = ⊥

-- ---- what is held and what waits afterwards

-- "A held key has its record replaced. A new key joins."
abbrev pub More : Own → Memory → List ℕ → List ℕ → Type 0
More own m r q = (q ≡ r) ⊎ (Holds own m q × (¬ (key_of q ≡ key_of r)))

-- "of the keys in no neighbour list, drop the one farthest round the ring from the first own key, the lower on a tie" (02, Wish 11), even the newcomer
abbrev pub Unlisted : Own → List (List ℕ) → List ℕ → Type 0
Unlisted own more q = (q ∈ more) × ((k : ℕ) → IsOwn own k → ¬ (key_of q ∈ neighbour_list k (keys_of more)))

pub record Drops (own : Own) (more : List (List ℕ)) (d : List ℕ) : Type 0 where
  pub unlisted : Unlisted own more d
  pub farthest : (q : List ℕ) → Unlisted own more q → apart (first_own own) (key_of q) ≤ apart (first_own own) (key_of d)
  pub lower : (q : List ℕ) → Unlisted own more q → apart (first_own own) (key_of q) ≡ apart (first_own own) (key_of d) → key_of d ≤ key_of q

-- "If there are now C + 1": `more` are those that are held now, before any is dropped
pub record Learns (own : Own) (m : Memory) (r left : List ℕ) : Type 0 where
  pub more : List (List ℕ)
  pub rising : Rising plain 0 (keys_of more)
  pub are : (q : List ℕ) → (q ∈ more) ↔ More own m r q
  pub fits : length more ≤ places_in (length m.cache) → HoldsExactly own m.cache left (λ (q : List ℕ). q ∈ more)
  pub dropped : places_in (length m.cache) < length more
      → (d : List ℕ) × Drops own more d × HoldsExactly own m.cache left (λ (q : List ℕ). (q ∈ more) × (¬ (q ≡ d)))

-- "FLOOD with a route entry": nothing is learned; "its place opens with two tries left"
pub record FloodEntry (own : Own) (m : Memory) (l : Receive) (r : List ℕ) (left : Memory) : Type 0 where
  pub cache : left.cache ≡ m.cache
  pub table : WaitsExactly own left.waiting (λ (p : List ℕ). Waits m p ⊎ (MustAsk own m r × (p ≡ inquiry_place (id_after l.id) r)))

-- LOOKUP: "it is inquired about as in a FLOOD" (02, Wish 2), and nothing is learned yet
pub record LookupEntry (own : Own) (m : Memory) (l : Receive) (e : Option (List ℕ)) (left : Memory) : Type 0 where
  pub cache : left.cache ≡ m.cache
  pub table : WaitsExactly own left.waiting (λ (p : List ℕ). Waits m p ⊎ (EntryAsks own m e × (p ≡ inquiry_place (id_after l.id) (entry_record e))))

-- "FLOOD with a revocation. Verdict 1 names the key. It is removed if held, a waiting inquiry for it is freed"
pub record FloodRevokes (own : Own) (m : Memory) (u : ℕ) (left : Memory) : Type 0 where
  pub cache : HoldsExactly own m.cache left.cache (λ (r : List ℕ). Holds own m r × (¬ (key_of r ≡ u)))
  pub table : WaitsExactly own left.waiting (λ (p : List ℕ). Waits m p × (¬ Inquiry u p))

-- "AUTHORITY. The inquiry's record is learned and its place freed."
pub record Authority (own : Own) (m : Memory) (acked : ℕ) (left : Memory) : Type 0 where
  pub p : List ℕ
  pub answers : WaitsAs m 2 acked p
  pub cache : Learns own m (place_record p) left.cache
  pub table : WaitsExactly own left.waiting (λ (q : List ℕ). Waits m q × (¬ (q ≡ p)))

-- "ACK. The flood's place is freed. With N set its key is removed if held."
pub record Ack (own : Own) (m : Memory) (acked : ℕ) (n : Bool) (left : Memory) : Type 0 where
  pub p : List ℕ
  pub answers : WaitsAs m 1 acked p
  pub cache : HoldsExactly own m.cache left.cache (λ (r : List ℕ). Holds own m r × (¬ ((n ≡ true) × (key_of r ≡ place_key p))))
  pub table : WaitsExactly own left.waiting (λ (q : List ℕ). Waits m q × (¬ (q ≡ p)))

-- INQUIRE leaves memory as it was
abbrev pub Leaves : Memory → Receive → Heard → Memory → Type 0
Leaves m l (entry id silent validate r) left = FloodEntry (own_keys l.own) m l r left
Leaves m l (revoke id silent validate) left = FloodRevokes (own_keys l.own) m (key_at 0 l.key) left
Leaves m l (inquire id validate) left = left ≡ m
Leaves m l (authority acked cpa) left = Authority (own_keys l.own) m acked left
Leaves m l (ack acked n) left = Ack (own_keys l.own) m acked n left
Leaves m l (lookup id target path e) left = LookupEntry (own_keys l.own) m l e left
Leaves m l other left = ⊥

-- ---- what each call does, accepted

-- "keep beside the cache 256 counts: how many held keys begin with each byte. After any accepted call they equal those counted afresh" (02, Wish 12); whatever
-- memory stands beside them and the two tables is as it was
abbrev pub Beside : Own → Memory → Memory → Type 0
Beside own m left = left ≡ with_tables left.cache left.waiting (with_firsts (firsts_of (keys_of (held_of own left.cache))) m)

pub record Receives (m : Memory) (l : Receive) (h : Handed) : Type 0 where
  pub x : Heard
  pub hears : Hears l.datagram l.major x
  pub ds : List (List ℕ)
  pub reply : Reply m l x ds
  pub sent : Sent l.output ds h
  pub leaves : Leaves m l x h.memory
  pub rest : Beside (own_keys l.own) m h.memory

-- "a FLOOD to send .. whose record is neither ours nor held": the record is the one of ours with the key, or the one held
abbrev pub Named : Memory → Send → List ℕ → Type 0
Named m l r = (IsOwn (own_keys l.own) (key_at 0 l.key) × (r ≡ own_record l.own (own_place (own_keys l.own) (key_at 0 l.key))))
    ⊎ ((¬ IsOwn (own_keys l.own) (key_at 0 l.key)) × Holds (own_keys l.own) m r × (key_of r ≡ key_at 0 l.key))

abbrev pub flooding : Send → List ℕ → List (List ℕ)
flooding l r = written flood_kinds (flood_sent l.major l.minor l.id l.neighbour r) ∷ []

-- "Sending a FLOOD. D clear, validate key the neighbour's, one record, empty list of those already reached; a place with the neighbour's key opens with two tries
-- left."
pub record Sends (m : Memory) (l : Send) (h : Handed) : Type 0 where
  pub r : List ℕ
  pub named : Named m l r
  pub sent : Sent l.output (flooding l r) h
  -- the cache is as it was, with its counts, and whatever else stands beside the waiting table
  pub rest : h.memory ≡ with_waiting h.memory.waiting m
  pub table : WaitsExactly (own_keys l.own) h.memory.waiting (λ (p : List ℕ). Waits m p ⊎ (p ≡ flood_place l.id l.neighbour))

-- "Tick. Each place with tries left loses one and its ID is listed, increasing; one with none is freed."
pub record Ticks (own : Own) (m : Memory) (output : List ℕ) (h : Handed) : Type 0 where
  pub ids : List ℕ
  pub rising : Rising plain 0 ids
  pub listed : (i : ℕ) → (i ∈ ids) ↔ ((p : List ℕ) × Waits m p × (0 < tries_of p) × (id_of p ≡ i))
  pub counts : h.answer ≡ answer 0 (length ids) 0
  pub bytes : h.output ≡ sending (id_bytes ids ∷ []) output
  pub rest : h.memory ≡ with_waiting h.memory.waiting m
  pub table : WaitsExactly own h.memory.waiting (λ (q : List ℕ). (p : List ℕ) × Waits m p × (0 < tries_of p) × (q ≡ one_less p))

-- "Neighbour list. Up to five keys below, then up to five above, nearest first, 32 bytes each; both counts returned": what is handed back is that of these keys
pub record NeighbourList (k : ℕ) (keys output : List ℕ) (h : Handed) : Type 0 where
  pub low : List ℕ
  pub high : List ℕ
  pub nearest-below : IsNeighbours (side_of k) (nearness k) below keys low
  pub nearest-above : IsNeighbours (side_of k) (nearness k) above keys high
  pub counts : h.answer ≡ answer 0 (length low) (length high)
  pub bytes : h.output ≡ sending (key_bytes (low ++ high) ∷ []) output

-- of the keys held, round the key asked for, which is one of ours (02, Wish 11)
pub record Lists (own : Own) (k : ℕ) (m : Memory) (output : List ℕ) (h : Handed) : Type 0 where
  pub listed : NeighbourList k (keys_of (held_of own m.cache)) output h
  pub same : h.memory ≡ m

abbrev pub Does : Memory → Call → Handed → Type 0
Does m (receives l) h = Receives m l h
Does m (sends l) h = Sends m l h
Does m (ticks l) h = Ticks (own_keys l.own) m l.output h
Does m (lists l) h = Lists (own_keys l.own) (key_at 0 l.key) m l.output h
