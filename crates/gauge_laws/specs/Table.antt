-- Helps the code. The table of refusals of each call, 1 to 15 in document 01's order. Of a datagram received: memory, what is handed in, reading, and the rows
-- of the message that was read. Tied to document 01 by `ours-meets` (sentences/Theorems). Assumes nothing.
use Rattle.std.specs.Prelude.{ℕ, ◌+◌, ◌-◌, Bool, true, not, List, [], ◌∷◌, ◌++◌, length, Some, None}
use Rattle.octet.specs.Part.{part}
use Rattle.key.specs.Number.{key_at}
use Rattle.record.specs.Entry.{record_of}
use Rattle.own.specs.Own.{own_keys}
use Rattle.refusal.specs.Table.{Refusal, when}
use Rattle.cache.specs.Form.{held_of}
use Rattle.neighbours.specs.Closest.{closest_past}
use Rattle.neighbours.specs.Calls.{list_wrong}
use Rattle.waiting.specs.Form.{used_of, places_of}
use Rattle.wire_fields.specs.Refusals.{refusals}
use Rattle.wire_fields.specs.Places.{Part}
use Rattle.wire_buffer.specs.Buffer.{start_of}
use Rattle.wire_read.specs.Answers as R
use Rattle.wire_read.specs.declared.Incoming as T
use Rattle.wire_read.specs.declared.Incoming.TheVariants as M
use Rattle.look.specs.Seen.{size_of}
use Rattle.gauge_plan.specs.Lent.{Memory, Receive, Call, receives, sends, ticks, lists}
use Rattle.gauge_plan.specs.Memory.{tables_fit, hands_fit}
use Rattle.gauge_plan.specs.Own.{not_ours}
use Rattle.asking.specs.Asking.{must_ask, asks_for}
use Rattle.plan_flood.specs.Flood.{flood_refusals, revoke_refusals}
use Rattle.plan_answer.specs.Answering.{authority_refusals, ack_refusals, inquire_refusals, lookup_refusals}
use Rattle.plan_send.specs.Send.{send_refusals}
use Rattle.gauge.specs.Counts.{tick_table}

-- a FLOOD with a route entry, or with a revocation
abbrev pub flood_table : Memory → Receive → Bool → ℕ → Part → List Refusal
flood_table m l silent validate (Some p) =
    let r = record_of (part p.start p.len l.datagram) in
    flood_refusals (own_keys l.own) (places_of m.waiting) (used_of m.waiting) l.id (length l.output) silent
    (not_ours (own_keys l.own) validate l.datagram) (must_ask (held_of (own_keys l.own) m.cache) (places_of m.waiting) r) r
flood_table m l silent validate None =
    revoke_refusals (own_keys l.own) l.verdict (key_at 0 l.key) (length l.output) silent (not_ours (own_keys l.own) validate l.datagram)

-- a LOOKUP
abbrev pub lookup_table : (m : Memory) (l : Receive) (target path size start len : ℕ) → List Refusal
lookup_table m l target path size start len =
    let recs = held_of (own_keys l.own) m.cache in
    lookup_refusals (places_of m.waiting) (used_of m.waiting) l.id (length l.output)
    (asks_for (own_keys l.own) recs (places_of m.waiting) (part start len l.datagram))
    (closest_past l.own recs (part path size l.datagram) (key_at target l.datagram))

-- the rows of a message; SOLICIT, ADVERTISE and REQUEST are refused with 7
abbrev pub message_rows : Memory → Receive → T.Incoming → List Refusal
message_rows m l (M.Refused n) = []
message_rows m l (M.Solicit x) = when 7 true ∷ []
message_rows m l (M.Advertise x) = when 7 true ∷ []
message_rows m l (M.Request x) = when 7 true ∷ []
message_rows m l (M.Flood x) = flood_table m l x.d x.validate x.entry
message_rows m l (M.Inquire x) = inquire_refusals (own_keys l.own) l.cpas (length l.output) l.datagram x.validate
message_rows m l (M.Authority x) = authority_refusals (places_of m.waiting) l.verdict (key_at 0 l.key) x.acked (R.is_here x.fields.cpa)
message_rows m l (M.Ack x) = ack_refusals (places_of m.waiting) x.acked
message_rows m l (M.Lookup x) = lookup_table m l x.target (start_of x.path + 8) (size_of x.path - 8) (start_of x.entry) (size_of x.entry)

abbrev pub receive_table : Memory → Receive → List Refusal
receive_table m l =
    when 1 (not (tables_fit l.own m))
    ∷ when 1 (not (hands_fit m l))
    ∷ (refusals l.datagram l.major ++ message_rows m l (R.read_in l.datagram l.major))

abbrev pub table_of : Memory → Call → List Refusal
table_of m (receives l) = receive_table m l
table_of m (sends l) = send_refusals l.own m l.id l.neighbour l.key (length l.output)
table_of m (ticks l) = tick_table m l
table_of m (lists l) = list_wrong l.own m.cache l.key l.output
