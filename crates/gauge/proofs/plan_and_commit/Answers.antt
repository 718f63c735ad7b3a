-- `plan_and_commit` meets its contract: what the plan says is what the call does. Assumes nothing.
use mathlib.Core.Path.{◌≡◌, sym, ap, ap₂, ◌∙◌}
use mathlib.Core.Bool.{true}
use mathlib.Core.List.{List}
use Prim.Native.Nat.{ℕ, ◌+◌, ◌*◌}
use native.Mathlib.Omega.{arith}
use borrow.Author.Tests.{not-true, not-false}
use Rattle.record.specs.Entry.{entry_form}
use Rattle.record.specs.Record.{count_of}
use Rattle.table.specs.Rows.{rows}
use Rattle.table.proofs.PieceLaws.{part_lent}
use Rattle.neighbours.specs.Closest.{closest_past}
use Rattle.asking.specs.Asking.{inquire_room}
use Rattle.gauge_commit.proofs.PlaceLaws.{target_lent, target_long}
use Rattle.gauge_plan.specs.declared.Plan.{Plan}
use Rattle.gauge_plan.specs.Lent.{Memory, memory, Receive, receive}
use Rattle.gauge_plan.specs.Memory.{comes_fit}
use Rattle.plan_message.specs.Planned.{receive_plan}
use Rattle.gauge.specs.Receive.{carried}
use Rattle.gauge.specs.Ours.{ours}
use Rattle.plan_message.proofs.PlannedLaws.{plan-hands, plan-by, plan-needs, flood-needs, revoke-needs, learn-needs, free-needs, cpa-needs, show-needs}
use Rattle.gauge.proofs.ReceiveLaws.{call_by}
use borrow.Author.Rules.{rules}
use Rattle.gauge.proofs.plan_and_commit.Goals.{After-plan_receive-plan, Else-not-hands_fit, Start}
use Rattle.gauge.proofs.plan_and_commit.Goals as goal

-- all that was lent
abbrev memory-of : Start → Memory
memory-of s = memory s.args.cache.now s.args.firsts.now s.args.waiting.now

abbrev lent_of : Start → Receive
lent_of s =
    let a = s.args in
    receive a.own.now a.cpas.now a.head.major a.head.minor a.head.id a.nonce.now a.verdict a.key.now a.datagram.now a.output.now

-- behind the test of what is handed in
abbrev tested : Else-not-hands_fit → Start
tested c = (goal.at.Else-not-hands_fit c).Start

handed-in : (c : Else-not-hands_fit) → comes_fit (lent_of (tested c)) ≡ true
handed-in c = sym (c.hands_fit.ensures (lent_of (tested c))) ∙ c.if-not-hands_fit.false

abbrev start : After-plan_receive-plan → Start
start c = (goal.at.After-plan_receive-plan c).Start

abbrev memory-at : After-plan_receive-plan → Memory
memory-at c = memory-of (start c)

abbrev lent_at : After-plan_receive-plan → Receive
lent_at c = lent_of (start c)

-- the plan that was made
planned : (c : After-plan_receive-plan) {p : Plan} → c.plan_receive-plan.result ≡ p → receive_plan (memory-at c) (lent_at c) ≡ p
planned c e = plan-by (memory-at c) (lent_at c) (handed-in (goal.at.After-plan_receive-plan c).Else-not-hands_fit) ∙ sym (c.plan_receive-plan.ensures (memory-at c) (lent_at c)) ∙ e

pub returns-then-not-hands_fit : goal.returns-then-not-hands_fit
unfolding carried
returns-then-not-hands_fit c =
    let s = (goal.at.returns-then-not-hands_fit c).Start in
    rw c.answer_of.ensures (sym (call_by (memory-of s) (lent_of s) (plan-hands (memory-of s) (lent_of s)
    (sym (c.hands_fit.ensures (lent_of s)) ∙ c.if-not-hands_fit.true))))

pub plan_receive-plan-requires : goal.plan_receive-plan-requires
plan_receive-plan-requires c =
    let e = (goal.at.plan_receive-plan-requires c).Else-not-hands_fit in
    plan-needs (memory-of (tested e)) (lent_of (tested e)) (handed-in e)

pub overflow_add-start : goal.overflow_add-start
overflow_add-start c =
    let m = (goal.at.overflow_add-start c).After-plan_receive-plan in
    let within = (flood-needs (memory-at m) (lent_at m) (planned m c.in-Flood.is)).4 in
    search rules

pub slice_bounds-commit_flood-end : goal.slice_bounds-commit_flood-end
slice_bounds-commit_flood-end c =
    let m = (goal.at.slice_bounds-commit_flood-end c).After-plan_receive-plan in
    let within = (flood-needs (memory-at m) (lent_at m) (planned m c.in-Flood.is)).4 in
    search rules

pub commit_flood-requires : goal.commit_flood-requires
commit_flood-requires c =
    let m = (goal.at.commit_flood-requires c).After-plan_receive-plan in
    let p = flood-needs (memory-at m) (lent_at m) (planned m c.in-Flood.is) in
    let entry = part_lent c.in-Flood.start c.in-Flood.len (lent_at m).datagram in
    (p.0, p.1, p.2, p.3, ap entry_form entry ∙ p.5, p.6)

pub commit_revoke-requires : goal.commit_revoke-requires
commit_revoke-requires c =
    let m = (goal.at.commit_revoke-requires c).After-plan_receive-plan in
    revoke-needs (memory-at m) (lent_at m) (planned m c.in-Revoke.is)

pub commit_learn-requires : goal.commit_learn-requires
commit_learn-requires c =
    let m = (goal.at.commit_learn-requires c).After-plan_receive-plan in
    learn-needs (memory-at m) (lent_at m) (planned m c.in-Learn.is)

pub commit_free-requires : goal.commit_free-requires
commit_free-requires c =
    let m = (goal.at.commit_free-requires c).After-plan_receive-plan in
    free-needs (memory-at m) (lent_at m) (planned m c.in-Free.is)

pub commit_cpa-requires : goal.commit_cpa-requires
commit_cpa-requires c =
    let m = (goal.at.commit_cpa-requires c).After-plan_receive-plan in
    let p = planned m c.in-Certify.is in
    let all = cpa-needs (memory-at m) (lent_at m) p in record { by_index = all.0; cpas_in_bounds = all.1 }

pub overflow_add-target : goal.overflow_add-target
overflow_add-target c =
    let m = (goal.at.overflow_add-target c).After-plan_receive-plan in
    let within = (show-needs (memory-at m) (lent_at m) (planned m c.in-Show.is)).1.2 in
    search rules

pub slice_bounds-commit_show-end : goal.slice_bounds-commit_show-end
slice_bounds-commit_show-end c =
    let m = (goal.at.slice_bounds-commit_show-end c).After-plan_receive-plan in
    let within = (show-needs (memory-at m) (lent_at m) (planned m c.in-Show.is)).1.2 in
    search rules

pub overflow_add-path : goal.overflow_add-path
overflow_add-path c =
    let m = (goal.at.overflow_add-path c).After-plan_receive-plan in
    let within = (show-needs (memory-at m) (lent_at m) (planned m c.in-Show.is)).1.3 in
    search rules

pub slice_bounds-commit_show-end-in-Show : goal.slice_bounds-commit_show-end-in-Show
slice_bounds-commit_show-end-in-Show c =
    let m = (goal.at.slice_bounds-commit_show-end-in-Show c).After-plan_receive-plan in
    let within = (show-needs (memory-at m) (lent_at m) (planned m c.in-Show.is)).1.3 in
    search rules

pub overflow_add-start-in-Show : goal.overflow_add-start-in-Show
overflow_add-start-in-Show c =
    let m = (goal.at.overflow_add-start-in-Show c).After-plan_receive-plan in
    let within = (show-needs (memory-at m) (lent_at m) (planned m c.in-Show.is)).0.4 in
    search rules

pub slice_bounds-commit_show-end-in-Show-2 : goal.slice_bounds-commit_show-end-in-Show-2
slice_bounds-commit_show-end-in-Show-2 c =
    let m = (goal.at.slice_bounds-commit_show-end-in-Show-2 c).After-plan_receive-plan in
    let within = (show-needs (memory-at m) (lent_at m) (planned m c.in-Show.is)).0.4 in
    search rules

pub commit_show-requires : goal.commit_show-requires
commit_show-requires c =
    let m = (goal.at.commit_show-requires c).After-plan_receive-plan in
    let all = show-needs (memory-at m) (lent_at m) (planned m c.in-Show.is) in
    let d = (lent_at m).datagram in
    let entry = part_lent c.in-Show.start c.in-Show.len d in
    let u = all.0 in
    let o = all.1 in
    record {
      used_bound = (u.0, u.1, u.2, u.3, λ opens. ap entry_form entry ∙ u.5 opens);
      own_value = (
        o.0,
        o.1,
        omega (arith, target_long c.in-Show.target d o.2),
        omega (
          arith,
          o.4,
          ap₂ (λ (p : List ℕ) (k : ℕ). count_of (closest_past (lent_at m).own (rows 100 c.in-Show.held (memory-at m).cache) p k))
              (part_lent c.in-Show.path c.in-Show.size d) (target_lent c.in-Show.target d),
        ),
      );
    }

pub returns-in-Refuse : goal.returns-in-Refuse
unfolding carried
returns-in-Refuse c =
    let m = (goal.at.returns-in-Refuse c).After-plan_receive-plan in
    rw c.answer_of-in-Refuse.ensures (sym (call_by (memory-at m) (lent_at m) (planned m c.in-Refuse.is)))

pub returns-in-Flood : goal.returns-in-Flood
unfolding carried
returns-in-Flood c =
    let w = c.commit_flood.ensures in
    let m = (goal.at.returns-in-Flood c).After-plan_receive-plan in
    rw (w.value, w.waiting_after, w.output_after, part_lent c.in-Flood.start c.in-Flood.len (lent_at m).datagram)
    (sym (call_by (memory-at m) (lent_at m) (planned m c.in-Flood.is)))

pub returns-in-Revoke : goal.returns-in-Revoke
unfolding carried
returns-in-Revoke c =
    let w = c.commit_revoke.ensures in
    let m = (goal.at.returns-in-Revoke c).After-plan_receive-plan in
    rw (w.value, w.cache_after, w.firsts_after, w.waiting_after, w.output_after) (sym (call_by (memory-at m) (lent_at m) (planned m c.in-Revoke.is)))

pub returns-in-Learn : goal.returns-in-Learn
unfolding carried
returns-in-Learn c =
    let m = (goal.at.returns-in-Learn c).After-plan_receive-plan in
    let w = c.commit_learn.ensures in
    rw (c.answer_of-in-Learn.ensures, w.cache_after, w.firsts_after, w.waiting_after) (sym (call_by (memory-at m) (lent_at m) (planned m c.in-Learn.is)))

pub returns-in-Free : goal.returns-in-Free
unfolding carried
returns-in-Free c =
    let m = (goal.at.returns-in-Free c).After-plan_receive-plan in
    let w = c.commit_free.ensures in
    rw (c.answer_of-in-Free.ensures, w.cache_after, w.firsts_after, w.waiting_after) (sym (call_by (memory-at m) (lent_at m) (planned m c.in-Free.is)))

pub returns-in-Certify : goal.returns-in-Certify
unfolding carried
returns-in-Certify c =
    let m = (goal.at.returns-in-Certify c).After-plan_receive-plan in
    rw (c.commit_cpa.ensures.value, c.commit_cpa.ensures.output_after) (sym (call_by (memory-at m) (lent_at m) (planned m c.in-Certify.is)))

pub returns-in-Show : goal.returns-in-Show
unfolding carried
returns-in-Show c =
    let w = c.commit_show.ensures in
    let m = (goal.at.returns-in-Show c).After-plan_receive-plan in
    let d = (lent_at m).datagram in
    rw (
      w.value,
      w.waiting_after,
      w.output_after,
      part_lent c.in-Show.start c.in-Show.len d,
      part_lent c.in-Show.path c.in-Show.size d,
      target_lent c.in-Show.target d,
    )
    (sym (call_by (memory-at m) (lent_at m) (planned m c.in-Show.is)))
