-- `plan_send::plan_send` meets its contract: memory and the two keys are tested, then the FLOOD is planned. Assumes nothing.
use mathlib.Core.Path.{◌≡◌, sym, ◌∙◌}
use Rattle.gauge_plan.specs.Lent.{Memory, empty, with_tables}
use Rattle.gauge_plan.specs.Memory.{memory_of}
use Rattle.std.specs.Prelude.{Option}
use Rattle.gauge_plan.specs.declared.memory.Fit.{Fit}
use Rattle.plan_send.proofs.SendLaws.{send-unfit, send-keys, send-planned, send-needs}
use Rattle.plan_send.proofs.plan_send.Goals.{After-survey, Start}
use Rattle.plan_send.proofs.plan_send.Goals as goal

abbrev start : After-survey → Start
start m = (goal.at.After-survey m).Start

-- with any memory besides
surveyed : (m : After-survey) {r : Option Fit} → m.survey.result ≡ r → (o : Memory)
    → memory_of (start m).args.own.now (with_tables (start m).args.cache.now (start m).args.waiting.now o) ≡ r
surveyed m e o = sym (m.survey.ensures o) ∙ e

pub returns-in_default : goal.returns-in_default
returns-in_default c o =
    let m = (goal.at.returns-in_default c).After-survey in
    let a = (start m).args in
    sym (send-unfit a.own.now _ a.id a.neighbour.now a.key.now a.room
    (surveyed m c.in_default.is o))

pub returns-then-not-neighbour-key : goal.returns-then-not-neighbour-key
returns-then-not-neighbour-key c o =
    let k = c in
    let m = (goal.at.returns-then-not-neighbour-key c).After-survey in
    let a = (start m).args in
    sym (send-keys a.own.now _ a.id a.neighbour.now a.key.now a.room
    (surveyed m k.in-Some.is o) (c.if-not-neighbour-key.true))

pub plan_flood_to-requires : goal.plan_flood_to-requires
plan_flood_to-requires c =
    let k = c in
    let m = (goal.at.plan_flood_to-requires c).After-survey in
    let a = (start m).args in
    send-needs a.own.now _ a.id a.neighbour.now a.key.now a.room
    (surveyed m k.in-Some.is (empty 0)) (c.if-not-neighbour-key.false)

pub returns : goal.returns
returns c o =
    let k = c in
    let m = (goal.at.returns c).After-survey in
    let a = (start m).args in
    c.plan_flood_to.ensures
    ∙ sym (send-planned a.own.now _ a.id a.neighbour.now a.key.now a.room
    (surveyed m k.in-Some.is o) (c.if-not-neighbour-key.false))
