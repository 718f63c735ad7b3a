-- Helps the code. What is planned for a datagram received: memory and what is handed in are tested, then the message that it holds is planned. Nothing is done
-- before the last refusal is decided. Tied to document 01 by `ours-meets` (sentences/Theorems). Assumes nothing.
use Rattle.std.specs.Prelude.{ℕ, ◌+◌, ◌-◌, Bool, not, [], ◌∷◌, length, Option, Some, None}
use Rattle.key.specs.Number.{key_at}
use Rattle.own.specs.Own.{own_keys}
use Rattle.refusal.specs.Table.{when, or_refuse}
use Rattle.table.specs.Rows.{rows}
use Rattle.wire_fields.specs.Places.{Part}
use Rattle.wire_buffer.specs.Buffer.{start_of}
use Rattle.wire_read.specs.Answers as R
use Rattle.wire_read.specs.declared.Head.{Head}
use Rattle.wire_read.specs.declared.Incoming as T
use Rattle.wire_read.specs.declared.Incoming.TheVariants as M
use Rattle.look.specs.Seen.{size_of}
use Rattle.gauge_plan.specs.declared.Plan.{Plan}
use Rattle.gauge_plan.specs.declared.Plan.TheVariants.{Refuse}
use Rattle.gauge_plan.specs.Lent.{Memory, Receive}
use Rattle.gauge_plan.specs.declared.memory.Fit.{Fit}
use Rattle.gauge_plan.specs.Memory.{memory_of, counts_fit, hands_fit}
use Rattle.plan_flood.specs.Flood.{flood_plan, revoke_plan}
use Rattle.plan_answer.specs.Answering.{authority_plan, ack_plan, inquire_plan, lookup_plan}

-- a FLOOD carries either a route entry or a revocation
abbrev pub by_entry : (m : Memory) (l : Receive) (held used : ℕ) (head : Head) (d : Bool) (validate : ℕ) (entry : Part) → Plan
by_entry m l held used head d validate (Some p) =
    flood_plan (own_keys l.own) (rows 100 held m.cache) (rows 140 used m.waiting) used l.id (length l.output) l.datagram d head.id
    validate p.start p.len
by_entry m l held used head d validate None =
    revoke_plan (own_keys l.own) held used l.verdict (key_at 0 l.key) (length l.output) l.datagram d head.id validate

-- a LOOKUP's endpoints stand behind the 8 bytes of the array's header; no route entry has no bytes
unfoldable pub plan_for : Memory → Receive → ℕ → ℕ → T.Incoming → Plan
plan_for m l held used (M.Refused n) = Refuse n
plan_for m l held used (M.Solicit x) = Refuse 7
plan_for m l held used (M.Advertise x) = Refuse 7
plan_for m l held used (M.Request x) = Refuse 7
plan_for m l held used (M.Flood x) = by_entry m l held used x.head x.d x.validate x.entry
plan_for m l held used (M.Inquire x) = inquire_plan (own_keys l.own) l.cpas (length l.output) l.datagram x.head.id x.validate
plan_for m l held used (M.Authority x) =
    authority_plan (rows 140 used m.waiting) held used l.verdict (key_at 0 l.key) x.acked (R.is_here x.fields.cpa)
plan_for m l held used (M.Ack x) = ack_plan (rows 140 used m.waiting) held used x.acked x.n
plan_for m l held used (M.Lookup x) =
    lookup_plan l.own (rows 100 held m.cache) (rows 140 used m.waiting) held used l.id (length l.output) l.datagram x.head.id x.target
    (start_of x.path + 8) (size_of x.path - 8) (start_of x.entry) (size_of x.entry)

-- where what comes with it is as it should be: the counts by first byte are tested once it is known how many records are held
abbrev pub plan_by : Memory → Receive → Option Fit → Plan
plan_by m l None = Refuse 1
plan_by m l (Some f) = or_refuse Refuse (when 1 (not (counts_fit l.own m)) ∷ []) (plan_for m l f.held f.used (R.read_in l.datagram l.major))

abbrev pub plan_in : Memory → Receive → Option Fit → Plan
plan_in m l None = Refuse 1
plan_in m l (Some f) = or_refuse Refuse (when 1 (not (hands_fit m l)) ∷ []) (plan_for m l f.held f.used (R.read_in l.datagram l.major))

unfoldable pub receive_plan : Memory → Receive → Plan
receive_plan m l = plan_in m l (memory_of l.own m)
