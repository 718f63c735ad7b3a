-- `plan_message::plan_receive` meets its contract: memory is tested, then the message is planned. Assumes nothing.
use mathlib.Core.Path.{◌≡◌, sym, ap, ◌∙◌}
use mathlib.Core.Bool.{Bool}
use Rattle.gauge_plan.specs.Memory.{memory_of, counts_fit}
use Rattle.std.specs.Prelude.{Option}
use Rattle.gauge_plan.specs.declared.memory.Fit.{Fit}
use Rattle.gauge_plan.specs.Lent.{Memory, empty, with_firsts, with_tables, Receive, planning}
use Rattle.plan_message.specs.Planned.{plan_by}
use Rattle.plan_message.proofs.PlannedLaws.{message_needs, counts_need, counts_by, plan-uncounted, plan-counted}
use Rattle.plan_message.proofs.plan_receive.Goals.{After-agree, After-survey, In-Some, Start}
use Rattle.plan_message.proofs.plan_receive.Goals as goal

abbrev start : After-survey → Start
start m = (goal.at.After-survey m).Start

-- all that was lent, with any memory besides and whatever else the datagram comes with
abbrev memory-at : Start → Memory → Memory
memory-at s o = with_tables s.args.cache.now s.args.waiting.now (with_firsts s.args.firsts.now o)

abbrev lent_at : Start → Receive → Receive
lent_at s l =
    let a = s.args in
    planning a.own.now a.cpas.now a.major a.id a.verdict a.key.now a.datagram.now a.output.now l

surveyed : (m : After-survey) {r : Option Fit} → m.survey.result ≡ r → (o : Memory)
    → memory_of (start m).args.own.now (memory-at (start m) o) ≡ r
surveyed m e o = sym (m.survey.ensures (with_firsts (start m).args.firsts.now o)) ∙ e

abbrev surveying : After-agree → After-survey
surveying c = (goal.at.After-agree c).After-survey

agreed : (c : After-agree) {b : Bool} → c.agree.result ≡ b → (o : Memory)
    → counts_fit (start (surveying c)).args.own.now (memory-at (start (surveying c)) o) ≡ b
agreed c e o =
    let m = surveying c in
    counts_by (start m).args.own.now (memory-at (start m) o) (surveyed m c.in-Some.is o) ∙ sym c.agree.ensures ∙ e

pub returns-in_default : goal.returns-in_default
returns-in_default c o l =
    let s = (goal.at.returns-in_default c).Start in
    sym (ap (plan_by (memory-at s o) (lent_at s l)) (surveyed (goal.at.returns-in_default c).After-survey c.in_default.is o))

pub agree-requires : goal.agree-requires
agree-requires c =
    let k = c in
    let s = (goal.at.agree-requires c).Start in
    counts_need s.args.own.now (memory-at s (empty 0)) (surveyed (goal.at.agree-requires c).After-survey k.in-Some.is (empty 0))

pub returns-then-not-agree : goal.returns-then-not-agree
returns-then-not-agree c o l =
    let k = c in
    let s = (goal.at.returns-then-not-agree c).Start in
    sym (ap (plan_by (memory-at s o) (lent_at s l)) (surveyed (goal.at.returns-then-not-agree c).After-survey k.in-Some.is o)
    ∙ plan-uncounted (memory-at s o) (lent_at s l) _ _ (agreed (goal.at.returns-then-not-agree c).After-agree (c.if-not-agree.true) o))

pub plan_message-requires : goal.plan_message-requires
plan_message-requires c =
    let k = c in
    let s = (goal.at.plan_message-requires c).Start in
    let w = message_needs s.args.own.now (memory-at s (empty 0)) (surveyed (goal.at.plan_message-requires c).After-survey k.in-Some.is (empty 0)) in
    (w.0, s.requires.0, w.1, w.2, s.requires.1)

pub returns : goal.returns
returns c o l =
    let k = c in
    let s = (goal.at.returns c).Start in
    c.plan_message.ensures (with_firsts s.args.firsts.now o) l
    ∙ sym (ap (plan_by (memory-at s o) (lent_at s l)) (surveyed (goal.at.returns c).After-survey k.in-Some.is o)
    ∙ plan-counted (memory-at s o) (lent_at s l) _ _ (agreed (goal.at.returns c).After-agree (c.if-not-agree.false) o))
