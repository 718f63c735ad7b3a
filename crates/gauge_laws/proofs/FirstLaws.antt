-- The output changes in its first bytes alone.
-- In this order: bytes at its start; datagrams sent; a datagram received, by its plan; a FLOOD sent; the tick and the neighbour list.
-- Assumes nothing.
use mathlib.Core.Path.{◌≡◌, refl, sym, ap, ◌∙◌}
use mathlib.Core.Bool.{Bool, true, false}
use mathlib.Core.List.{List, [], ◌∷◌, ◌++◌, append-nil}
use Prim.Native.Nat.{ℕ, ◌+◌, ◌*◌, ◌≤◌}
use native.Mathlib.Nat.{zero-add}
use native.Mathlib.Omega.{arith}
use lib.ListN.{length, drop, length-append, length-take}
use lib.Seq.{take_all}
use borrow.Author.Tests.{ltb-false}
use Rattle.std.specs.Prelude.{Result, Ok, Err}
use Rattle.octet.specs.Part.{part, splice}
use Rattle.octet.proofs.PartLaws.{length_part, length-splice, drop-splice}
use Rattle.key.specs.Around.{below, above, side_of, nearness}
use Rattle.key.specs.Number.{key_at}
use Rattle.record.specs.Record.{record_form}
use Rattle.record.specs.Entry.{record_of}
use Rattle.record.proofs.EntryLaws.{form_length}
use Rattle.own.specs.Own.{own_keys}
use Rattle.refusal.proofs.CallLaws.{or_known}
use Rattle.table.specs.Rows.{rows, joined}
use Rattle.table.proofs.RowLaws.{joined_append, rows-length}
use Rattle.kept.specs.Neighbours.{nearest_first}
use Rattle.kept.specs.Plain.{neighbours, neighbour_list}
use Rattle.cache.specs.Form.{keys_of}
use Rattle.neighbours.specs.Listing.{counts_of, key_bytes, after_list}
use Rattle.std.specs.Prelude.{Ok, Err}
use Rattle.neighbours.specs.Calls.{Written, list_counts, list_written, list_wrong, list_call}
use Rattle.cache.specs.Calls.{held_by}
use Rattle.neighbours.specs.Closest.{off_path, closest_past}
use Rattle.neighbours.proofs.ListLaws.{keys_length}
use Rattle.waiting.specs.Form.{used_of, places_of}
use Rattle.waiting.specs.Tick.{id_bytes}
use Rattle.waiting.specs.Ticking.{listed}
use Rattle.waiting_form.specs.Call as W
use Rattle.waiting.proofs.TickLaws.{ids_length, listed_few}
use Rattle.waiting.proofs.FormLaws.{used_few}
use Rattle.wire_write.specs.Making.{flood_made, cpa_made, closest_made}
use Rattle.asking.specs.Asking.{inquire_room}
use Rattle.asking.specs.Ids.{id_after}
use Rattle.gauge_plan.specs.declared.Plan.{Plan}
use Rattle.gauge_plan.specs.declared.Plan.TheVariants.{Refuse, Flood, Revoke, Learn, Free, Certify, Show}
use Rattle.cpas.specs.Cpas.{cpa_of}
use Rattle.plan_send.specs.Send.{record_sent, flood_room}
use Rattle.plan_send.specs.declared.Flood as S
use Rattle.gauge_commit.specs.Sending.{answer, lengths, sending, Handed, handed, OnlyFirst}
use Rattle.gauge_commit.specs.Replies.{ack_written, inquire_written}
use Rattle.gauge_commit.proofs.LengthLaws.{inquire-length, cpa_length, flood-length}
use Rattle.gauge_commit.proofs.SentLaws.{joined_one, asked, acks-room, record_long, shown_closest}
use Rattle.neighbours.proofs.ClosestLaws.{closest_formed}
use Rattle.neighbours.proofs.SkipLaws.{off-held}
use Rattle.gauge_plan.specs.Lent.{Memory, Receive, Send, Tick, Call, receives, sends, ticks, lists, output_of}
use Rattle.gauge.specs.Words.{returned}
use Rattle.gauge.specs.Ours.{ours}
use Rattle.plan_message.specs.Planned.{receive_plan}
use Rattle.gauge.specs.Receive.{carried, receive_call}
use Rattle.gauge.specs.Send.{send_plan, send_carried, send_call}
use Rattle.gauge.specs.Counts.{tick_answered, tick_table, gauge_tick, gauge_list}
use Rattle.plan_message.proofs.PlannedLaws.{Known, known, shown-entry}
use Rattle.gauge.proofs.SendLaws.{KnownSend, send_known}

-- ---- bytes at its start

pub none_first : (out : List ℕ) → OnlyFirst 0 out out
none_first out = (omega arith, refl, refl)

pub start_first : (n : ℕ) (b out : List ℕ) → length b ≡ n → n ≤ length out → OnlyFirst n out (splice 0 b out)
start_first n b out e h =
    let is : 0 + length b ≡ n = zero-add (length b) ∙ e in (
      h,
      length-splice 0 b out (omega (arith, is)),
      ap (λ (k : ℕ). drop k (splice 0 b out)) (sym is) ∙ drop-splice 0 b out (omega (arith, is)) ∙ ap (λ (k : ℕ). drop k out) is,
    )

-- ---- datagrams sent

-- two at most, as their lengths say
pub sent-length : (ds : List (List ℕ)) → length ds ≤ 2 → length (joined ds) ≡ (lengths ds).first + (lengths ds).second
unfolding joined
sent-length [] h = refl
sent-length (d ∷ []) h = omega (arith, ap length (append-nil d))
sent-length (d ∷ e ∷ []) h = ap (λ (l : List ℕ). length (d ++ l)) (append-nil e) ∙ length-append d e
sent-length (d ∷ e ∷ f ∷ ds) h = absurd (omega arith)

pub sent_first : (ds : List (List ℕ)) (out : List ℕ) → length ds ≤ 2 → length (joined ds) ≤ length out
    → OnlyFirst ((lengths ds).first + (lengths ds).second) out (sending ds out)
sent_first ds out few room =
    let e = sent-length ds few in
    start_first ((lengths ds).first + (lengths ds).second) (joined ds) out e (omega arith)

-- ---- a datagram received, by its plan

-- the ACK and the INQUIRE are two at most, and as long as the plan has room for
module _ (major minor id acked : ℕ) (n : Bool) where
  pub acks-few : (silent : Bool) → length (ack_written major minor id silent acked n) ≤ 1
  acks-few true = omega arith
  acks-few false = omega arith

  module _ (nonce r : List ℕ) (long : length r ≡ 100) (fresh : length nonce ≡ 16) where
    asks-few : (opens : Bool) → length (inquire_written major minor id opens nonce r) ≤ 1
    asks-few true = omega arith
    asks-few false = omega arith

    asks-room : (opens : Bool) → length (joined (inquire_written major minor id opens nonce r)) ≡ inquire_room opens
    unfolding joined
    asks-room true =
        ap length (joined_one (asked major minor id nonce r))
        ∙ inquire-length major minor (id_after id) (part 0 32 r) nonce (length_part 0 32 r (omega arith)) fresh
    asks-room false = refl

    pub both-few : (silent opens : Bool) → length (ack_written major minor id silent acked n ++ inquire_written major minor id opens nonce r) ≤ 2
    both-few silent opens =
        omega (arith, length-append (ack_written major minor id silent acked n) (inquire_written major minor id opens nonce r), acks-few silent, asks-few opens)

    pub both-room : (silent opens : Bool) {room : ℕ} → length (joined (ack_written major minor id silent acked n)) + inquire_room opens ≤ room
        → length (joined (ack_written major minor id silent acked n ++ inquire_written major minor id opens nonce r)) ≤ room
    both-room silent opens h =
        let xs = ack_written major minor id silent acked n in
        let ys = inquire_written major minor id opens nonce r in
        omega (arith, ap length (joined_append xs ys), length-append (joined xs) (joined ys), asks-room opens)

one_room : (d : List ℕ) {n room : ℕ} → length d ≡ n → n ≤ room → length (joined (d ∷ [])) ≤ room
one_room d e h = omega (arith, ap length (joined_one d))

-- a record in form is its first 100 bytes
pub whole_record : (r : List ℕ) → record_form r ≡ true → part 0 100 r ≡ r
whole_record r formed = let long = form_length r formed in take_all 100 r (omega arith)

-- of a record in form, the FLOOD that sends it
module _ (major minor id : ℕ) (r : List ℕ) (formed : record_form r ≡ true) where
  long : 0 + 100 ≤ length r
  long = omega (arith, form_length r formed)

  formed-part : record_form (part 0 100 r) ≡ true
  formed-part = ap record_form (whole_record r formed) ∙ formed

  flood-room : (key : List ℕ) {room : ℕ} → length key ≡ 32 → flood_room r ≤ room
      → length (joined ((flood_made major minor id key r 0).bytes ∷ [])) ≤ room
  flood-room key keyed h =
      one_room (flood_made major minor id key r 0).bytes
      (flood-length major minor id r 0 long formed-part key keyed ∙ ap flood_room (whole_record r formed)) h

-- the INQUIRE behind an AUTHORITY
asked_size : (major minor id : ℕ) (nonce r : List ℕ) (opens : Bool) → (opens ≡ true → length r ≡ 100) → length nonce ≡ 16 → (b : Bool) → opens ≡ b
    → (length (inquire_written major minor id b nonce r) ≤ 1) × (length (joined (inquire_written major minor id b nonce r)) ≤ inquire_room b)
unfolding joined
asked_size major minor id nonce r opens long fresh true o =
    (asks-few major minor id 0 true nonce r (long o) fresh true, omega (arith, asks-room major minor id 0 true nonce r (long o) fresh true))
asked_size major minor id nonce r opens long fresh false o = (omega arith, omega arith)

first_joined : (d : List ℕ) (ds : List (List ℕ)) → length (joined (d ∷ ds)) ≡ length d + length (joined ds)
unfolding joined
first_joined d ds = length-append d (joined ds)

plan_first : (m : Memory) (l : Receive) (p : Plan) → Known m l p
    → OnlyFirst ((carried m l p).answer.first + (carried m l p).answer.second) l.output (carried m l p).output
unfolding carried
plan_first m l (Refuse n) k = none_first l.output
plan_first m l (Flood u s n a opens start len) k =
    let r = record_of (part start len l.datagram) in
    let ds = ack_written l.major l.minor l.id s a n ++ inquire_written l.major l.minor l.id opens l.nonce r in
    let long = record_long (part start len l.datagram) k.entry in
    sent_first ds l.output (both-few l.major l.minor l.id a n l.nonce r long k.hands.nonced s opens)
    (both-room l.major l.minor l.id a n l.nonce r long k.hands.nonced s opens
    (omega (arith, acks-room l.major l.minor l.id a n s, k.plans.fits_in)))
plan_first m l (Revoke h u s n a) k =
    sent_first (ack_written l.major l.minor l.id s a n) l.output (omega (arith, acks-few l.major l.minor l.id a n s))
    (omega (arith, acks-room l.major l.minor l.id a n s, k.plans.fits_in))
plan_first m l (Learn h u at) k = none_first l.output
plan_first m l (Free h u at n) k = none_first l.output
plan_first m l (Certify a at) k =
    let d = (cpa_made l.major l.minor l.id a (cpa_of at l.cpas)).bytes in
    sent_first (d ∷ []) l.output (omega arith) (one_room d (cpa_length l.major l.minor l.id a (cpa_of at l.cpas)) k.plans.fits_in)
plan_first m l (Show h u a target path size opens start len) k =
    let recs = off_path (part path size l.datagram) (rows 100 h m.cache) in
    let r = closest_past l.own (rows 100 h m.cache) (part path size l.datagram) (key_at target l.datagram) in
    let e = record_of (part start len l.datagram) in
    let d = (closest_made l.major l.minor l.id a r 0).bytes in
    let formed = closest_formed (key_at target l.datagram) (own_keys l.own) l.own recs k.ready.owned
    (off-held (part path size l.datagram) (own_keys l.own) (rows 100 h m.cache) k.ready.form.held) in
    let sent : (b : Bool) → opens ≡ b → (length (inquire_written l.major l.minor l.id b l.nonce e) ≤ 1)
    × (length (joined (inquire_written l.major l.minor l.id b l.nonce e)) ≤ inquire_room b) =
    asked_size l.major l.minor l.id l.nonce e opens (λ o. record_long (part start len l.datagram) (shown-entry m l k o)) k.hands.nonced in
    let asks = sent opens refl in
    sent_first (d ∷ inquire_written l.major l.minor l.id opens l.nonce e) l.output (omega (arith, asks.0))
    (omega (
      arith,
      asks.1,
      k.plans.fits_in,
      shown_closest l.major l.minor l.id a r formed,
      first_joined d (inquire_written l.major l.minor l.id opens l.nonce e),
    ))

-- ---- a FLOOD sent

send_first : (m : Memory) (l : Send) (p : Result S.Flood ℕ) → KnownSend m l p
    → OnlyFirst ((send_carried m l p).answer.first + (send_carried m l p).answer.second) l.output (send_carried m l p).output
unfolding send_carried
send_first m l (Err n) k = none_first l.output
send_first m l (Ok f) k =
    let r = record_sent l.own m.cache f.ours f.at in
    sent_first ((flood_made l.major l.minor l.id l.neighbour r 0).bytes ∷ []) l.output (omega arith)
    (flood-room l.major l.minor l.id r k.formed l.neighbour k.addressed k.fits_in)

-- ---- the tick and the neighbour list

tick_first : (m : Memory) (l : Tick) → OnlyFirst (4 * (gauge_tick m l).answer.first) l.output (gauge_tick m l).output
unfolding gauge_tick W.tick_done
tick_first m l =
    let waiting = m.waiting in
    let output = l.output in
    or_known (λ (h : Handed). OnlyFirst (4 * h.answer.first) output h.output) (λ (n : ℕ). handed (answer n 0 0) m output) (tick_table m l)
    (tick_answered m (W.tick_done waiting output))
    (λ n. none_first output)
    (λ f.
    let ids = listed (places_of waiting) in
    let room = ltb-false (length output) 64 f.1.0 in
    start_first (4 * length ids) (id_bytes ids) output (ids_length ids)
    (omega (arith, listed_few (places_of waiting), rows-length 140 (used_of waiting) waiting, used_few waiting)))

list_first : (own cache key output : List ℕ)
    → OnlyFirst (32 * ((list_counts (list_call own cache key output).answer).below + (list_counts (list_call own cache key output).answer).above)) output
    (list_call own cache key output).output
unfolding list_call
list_first own cache key output =
    let k = key_at 0 key in
    let keys = keys_of (held_by own cache) in
    let counts = counts_of k (held_by own cache) in
    or_known (λ (w : Written). OnlyFirst (32 * ((list_counts w.answer).below + (list_counts w.answer).above)) output w.output)
    (λ (n : ℕ). list_written (Err n) output) (list_wrong own cache key output)
    (list_written (Ok counts) (after_list k (held_by own cache) output))
    (λ n. none_first output)
    (λ f.
    let room = ltb-false (length output) 320 f.1.1.1.1.0 in
    start_first (32 * (counts.below + counts.above)) (key_bytes (neighbour_list k keys)) output
    (keys_length (neighbour_list k keys) ∙ ap (λ (n : ℕ). 32 * n) (length-append (neighbours k below keys) (neighbours k above keys)))
    (omega (arith, length-take 5 (nearest_first (side_of k) (nearness k) below keys), length-take 5 (nearest_first (side_of k) (nearness k) above keys))))

-- "On acceptance the output changes only in its first bytes, as many as returned"; with a refusal in none
pub first_bytes : (m : Memory) (c : Call) → OnlyFirst (returned c (ours m c).answer) (output_of c) (ours m c).output
unfolding receive_call send_call gauge_list
first_bytes m (receives l) = plan_first m l (receive_plan m l) (known m l)
first_bytes m (sends l) = send_first m l (send_plan m l) (send_known m l)
first_bytes m (ticks l) = tick_first m l
first_bytes m (lists l) = list_first l.own m.cache l.key l.output
