-- Helps the code. A FLOOD sent: "D clear, validate key the neighbour's, one record, empty list of those already reached; a place with the neighbour's key
-- opens with two tries left"; "An ACK, AUTHORITY or FLOOD has the given message ID". Tied to document 01 by `ours-meets` (sentences/Theorems). Assumes
-- nothing.
use Rattle.std.specs.Prelude.{ℕ, [], ◌∷◌, length, Result, Ok, Err}
use Rattle.table.specs.Rows.{bytes_of, rows}
use Rattle.waiting.specs.Open.{opened}
use Rattle.waiting.specs.Place.{flood_place}
use Rattle.wire_write.specs.Making.{flood_made}
use Rattle.plan_send.specs.Send.{record_sent, sending_plan}
use Rattle.plan_send.specs.declared.Flood.{Flood}
use Rattle.gauge_plan.specs.Lent.{Memory, with_waiting, Send}
use Rattle.gauge_commit.specs.Sending.{answer, Handed, handed, lengths, sending}

-- what is planned
abbrev pub send_plan : Memory → Send → Result Flood ℕ
send_plan m l = sending_plan l.own m l.id l.neighbour l.key (length l.output)

-- what is done
unfoldable pub send_carried : Memory → Send → Result Flood ℕ → Handed
send_carried m l (Err n) = handed (answer n 0 0) m l.output
send_carried m l (Ok f) =
    let ds = (flood_made l.major l.minor l.id l.neighbour (record_sent l.own m.cache f.ours f.at) 0).bytes ∷ [] in
    handed (lengths ds) (with_waiting (bytes_of 2240 (opened (flood_place l.id l.neighbour) (rows 140 f.used m.waiting))) m) (sending ds l.output)

-- the whole call
unfoldable pub send_call : Memory → Send → Handed
send_call m l = send_carried m l (send_plan m l)
