-- Helps the code. A datagram received: what is planned for it (plan_message/Planned) is done. Tied to document 01 by `ours-meets` (sentences/Theorems). Assumes
-- nothing.
use Rattle.std.specs.Prelude.{cond, [], ◌∷◌, ◌++◌, length, get_or}
use Rattle.octet.specs.Part.{part}
use Rattle.key.specs.Number.{key_at}
use Rattle.record.specs.Entry.{record_of}
use Rattle.own.specs.Own.{own_keys}
use Rattle.table.specs.Rows.{rows, bytes_of}
use Rattle.cache.specs.Form.{keys_of}
use Rattle.cache.specs.Bytes.{after_learn, after_remove}
use Rattle.firsts.specs.Firsts.{firsts_of}
use Rattle.neighbours.specs.Closest.{closest_past}
use Rattle.waiting.specs.Place.{place_key, place_record, inquiry_place}
use Rattle.waiting.specs.Form.{is_inquiry}
use Rattle.table.specs.Seek.{seek}
use Rattle.waiting.specs.Open.{opened, freed}
use Rattle.wire_write.specs.Making.{cpa_made, closest_made}
use Rattle.cpas.specs.Cpas.{cpa_of}
use Rattle.gauge_plan.specs.declared.Plan.{Plan}
use Rattle.gauge_plan.specs.declared.Plan.TheVariants.{Refuse, Flood, Revoke, Learn, Free, Certify, Show}
use Rattle.gauge_plan.specs.Lent.{Memory, with_cache, with_firsts, with_waiting, Receive}
use Rattle.gauge_commit.specs.Sending.{answer, Handed, handed, lengths, sending}
use Rattle.gauge_commit.specs.Replies.{ack_written, inquire_written, freed_at}
use Rattle.asking.specs.Ids.{id_after}
use Rattle.plan_message.specs.Planned.{receive_plan}

unfoldable pub carried : Memory → Receive → Plan → Handed
carried m l (Refuse n) = handed (answer n 0 0) m l.output
carried m l (Flood used silent n acked opens start len) =
    let r = record_of (part start len l.datagram) in
    let ds = ack_written l.major l.minor l.id silent acked n ++ inquire_written l.major l.minor l.id opens l.nonce r in
    handed (lengths ds)
    (with_waiting (cond opens (bytes_of 2240 (opened (inquiry_place (id_after l.id) r) (rows 140 used m.waiting))) m.waiting) m)
    (sending ds l.output)
carried m l (Revoke held used silent n acked) =
    let ps = rows 140 used m.waiting in
    let ds = ack_written l.major l.minor l.id silent acked n in
    let recs = after_remove (key_at 0 l.key) (rows 100 held m.cache) in
    handed (lengths ds)
    (with_cache (bytes_of (length m.cache) recs)
    (with_firsts (firsts_of (keys_of recs))
    (with_waiting (bytes_of 2240 (freed_at (seek (is_inquiry (key_at 0 l.key)) 0 ps) ps)) m)))
    (sending ds l.output)
carried m l (Learn held used at) =
    let ps = rows 140 used m.waiting in
    let recs = after_learn (own_keys l.own) (length m.cache) (rows 100 held m.cache) (place_record (get_or ps at [])) in
    handed (answer 0 0 0)
    (with_cache (bytes_of (length m.cache) recs)
    (with_firsts (firsts_of (keys_of recs))
    (with_waiting (bytes_of 2240 (freed at ps)) m)))
    l.output
carried m l (Free held used at n) =
    let ps = rows 140 used m.waiting in
    let recs = after_remove (place_key (get_or ps at [])) (rows 100 held m.cache) in
    handed (answer 0 0 0)
    (with_cache (cond n (bytes_of (length m.cache) recs) m.cache)
    (with_firsts (cond n (firsts_of (keys_of recs)) m.firsts)
    (with_waiting (bytes_of 2240 (freed at ps)) m)))
    l.output
carried m l (Certify acked at) =
    let ds = (cpa_made l.major l.minor l.id acked (cpa_of at l.cpas)).bytes ∷ [] in
    handed (lengths ds) m (sending ds l.output)
carried m l (Show held used acked target path size opens start len) =
    let r = closest_past l.own (rows 100 held m.cache) (part path size l.datagram) (key_at target l.datagram) in
    let e = record_of (part start len l.datagram) in
    let ds = (closest_made l.major l.minor l.id acked r 0).bytes ∷ inquire_written l.major l.minor l.id opens l.nonce e in
    handed (lengths ds)
    (with_waiting (cond opens (bytes_of 2240 (opened (inquiry_place (id_after l.id) e) (rows 140 used m.waiting))) m.waiting) m)
    (sending ds l.output)

-- the whole call
unfoldable pub receive_call : Memory → Receive → Handed
receive_call m l = carried m l (receive_plan m l)
