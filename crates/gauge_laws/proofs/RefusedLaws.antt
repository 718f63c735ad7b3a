-- A refused call: no counts, all as lent. Assumes nothing.
use mathlib.Core.Path.{◌≡◌, refl, sym, ap, ◌∙◌}
use mathlib.Core.List.{List}
use Prim.Native.Nat.{ℕ, ◌<◌}
use native.Mathlib.Omega.{arith}
use Rattle.std.specs.Prelude.{Result, Ok, Err}
use Rattle.key.specs.Number.{key_at}
use Rattle.refusal.specs.Table.{Refusal, or_refuse}
use Rattle.refusal.proofs.CallLaws.{or_refuses, number_is}
use Rattle.neighbours.specs.Listing.{counts_of, after_list}
use Rattle.std.specs.Prelude.{Ok, Err}
use Rattle.neighbours.specs.Calls.{Written, list_number, list_written, list_wrong, list_call}
use Rattle.cache.specs.Calls.{held_by}
use Rattle.waiting_form.specs.Call.{tick_done}
use Rattle.gauge_plan.specs.declared.Plan.{Plan}
use Rattle.gauge_plan.specs.declared.Plan.TheVariants.{Refuse, Flood, Revoke, Learn, Free, Certify, Show}
use Rattle.plan_send.specs.declared.Flood as S
use Rattle.gauge_commit.specs.Sending.{answer, Handed, handed}
use Rattle.gauge_plan.specs.Lent.{Memory, Receive, Send, Tick, Listing, Call, receives, sends, ticks, lists, output_of}
use Rattle.gauge.specs.Counts.{tick_answered, tick_table, gauge_tick, list_answered, gauge_list}
use Rattle.plan_message.specs.Planned.{receive_plan}
use Rattle.gauge.specs.Receive.{carried, receive_call}
use Rattle.gauge.specs.Send.{send_plan, send_carried, send_call}
use Rattle.gauge.specs.Ours.{ours}

-- a datagram received, by its plan: only a refusal has a number
receive_by : (m : Memory) (l : Receive) (p : Plan) → 0 < (carried m l p).answer.number
    → carried m l p ≡ handed (answer (carried m l p).answer.number 0 0) m l.output
unfolding carried
receive_by m l (Refuse n) h = refl
receive_by m l (Flood u s n a opens start len) h = absurd (omega arith)
receive_by m l (Revoke held u s n a) h = absurd (omega arith)
receive_by m l (Learn held u at) h = absurd (omega arith)
receive_by m l (Free held u at n) h = absurd (omega arith)
receive_by m l (Certify a i) h = absurd (omega arith)
receive_by m l (Show held u a t p z o at size) h = absurd (omega arith)

pub receive_refused : (m : Memory) (l : Receive) → 0 < (receive_call m l).answer.number
    → receive_call m l ≡ handed (answer (receive_call m l).answer.number 0 0) m l.output
unfolding receive_call
receive_refused m l h = receive_by m l (receive_plan m l) h

-- a FLOOD to send, by its plan
send_by : (m : Memory) (l : Send) (p : Result S.Flood ℕ) → 0 < (send_carried m l p).answer.number
    → send_carried m l p ≡ handed (answer (send_carried m l p).answer.number 0 0) m l.output
unfolding send_carried
send_by m l (Err n) h = refl
send_by m l (Ok f) h = absurd (omega arith)

pub send_refused : (m : Memory) (l : Send) → 0 < (send_call m l).answer.number
    → send_call m l ≡ handed (answer (send_call m l).answer.number 0 0) m l.output
unfolding send_call
send_refused m l h = send_by m l (send_plan m l) h

-- a call that is a table of refusals in front of what is done: a refused one is the refusal of its number
by_table : {H : Type 0} (number : H → ℕ) (refused : ℕ → H) → ((n : ℕ) → number (refused n) ≡ n) → (rs : List Refusal) (done : H) → number done ≡ 0
    → 0 < number (or_refuse refused rs done) → or_refuse refused rs done ≡ refused (number (or_refuse refused rs done))
by_table number refused numbered rs done accepted h =
    let is = number_is number refused numbered done accepted rs in
    or_refuses refused rs done (omega (arith, is)) ∙ ap refused (sym is)

tick_refused : (m : Memory) (l : Tick) → 0 < (gauge_tick m l).answer.number
    → gauge_tick m l ≡ handed (answer (gauge_tick m l).answer.number 0 0) m l.output
unfolding gauge_tick tick_done
tick_refused m l h =
    by_table (λ (d : Handed). d.answer.number) (λ (n : ℕ). handed (answer n 0 0) m l.output) (λ n. refl) (tick_table m l)
    (tick_answered m (tick_done m.waiting l.output)) refl h

list_refused : (m : Memory) (l : Listing) → 0 < (gauge_list m l).answer.number
    → gauge_list m l ≡ handed (answer (gauge_list m l).answer.number 0 0) m l.output
unfolding gauge_list list_call
list_refused m l h =
    let own = l.own in
    let cache = m.cache in
    ap (list_answered m) (by_table (λ (w : Written). list_number w.answer) (λ (n : ℕ). list_written (Err n) l.output)
    (λ n. refl) (list_wrong own cache l.key l.output)
    (list_written (Ok (counts_of (key_at 0 l.key) (held_by own cache))) (after_list (key_at 0 l.key) (held_by own cache) l.output)) refl h)

-- "With any refusal the counts returned are 0 .. and every writable byte stays as lent."
pub refused_keeps : (m : Memory) (c : Call) → 0 < (ours m c).answer.number
    → ours m c ≡ handed (answer (ours m c).answer.number 0 0) m (output_of c)
refused_keeps m (receives l) h = receive_refused m l h
refused_keeps m (sends l) h = send_refused m l h
refused_keeps m (ticks l) h = tick_refused m l h
refused_keeps m (lists l) h = list_refused m l h
