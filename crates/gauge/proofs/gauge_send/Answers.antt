-- `gauge_send` meets its contract: what the plan says is what the call does. Assumes nothing.
use mathlib.Core.Path.{◌≡◌, sym, ◌∙◌}
use native.Mathlib.Omega.{arith}
use Rattle.plan_send.specs.declared.Flood.{Flood}
use Rattle.std.specs.Prelude.{Result}
use Prim.Native.Nat.{ℕ}
use Rattle.gauge_plan.specs.Lent.{Memory, empty, with_tables, Send, send}
use Rattle.gauge.specs.Send.{send_plan}
use Rattle.gauge.proofs.SendLaws.{send-needs, send_refused, send-sent}
use Rattle.gauge.proofs.gauge_send.Goals.{After-plan_send-plan, Start}
use Rattle.gauge.proofs.gauge_send.Goals as goal

abbrev start : After-plan_send-plan → Start
start c = (goal.at.After-plan_send-plan c).Start

-- all that was lent, and any memory besides
abbrev memory-at : After-plan_send-plan → Memory → Memory
memory-at c o = with_tables (start c).args.cache.now (start c).args.waiting.now o

abbrev lent_at : After-plan_send-plan → Send
lent_at c =
    let a = (start c).args in
    send a.own.now a.major a.minor a.id a.neighbour.now a.key.now a.output.now

-- the plan that was made
planned : (c : After-plan_send-plan) {p : Result Flood ℕ} → c.plan_send-plan.result ≡ p → (o : Memory) → send_plan (memory-at c o) (lent_at c) ≡ p
planned c e o = sym (c.plan_send-plan.ensures o) ∙ e

pub commit_send-requires : goal.commit_send-requires
commit_send-requires c =
    let k = c in
    let m = (goal.at.commit_send-requires c).After-plan_send-plan in
    let w = send-needs (memory-at m (empty 0)) (lent_at m) (planned m k.in-Ok.is (empty 0)) in
    (w.0, w.1, w.2, omega (arith, w.3, w.8), w.4, w.5, w.6, w.7)

pub returns-in-Err : goal.returns-in-Err
returns-in-Err c o =
    let k = c in
    let m = (goal.at.returns-in-Err c).After-plan_send-plan in
    send_refused (memory-at m o) (lent_at m) (planned m k.in-Err.is o) c.answer_of.ensures

pub returns-in-Ok : goal.returns-in-Ok
returns-in-Ok c o =
    let d = c in
    let w = d.commit_send.ensures in
    let k = c in
    let m = (goal.at.returns-in-Ok c).After-plan_send-plan in
    send-sent (memory-at m o) (lent_at m) (planned m k.in-Ok.is o) w.value w.waiting_after w.output_after
