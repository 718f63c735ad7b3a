-- `plan_flood::plan_revoke` meets its contract: row by row, each test is the code's. Assumes nothing.
use mathlib.Core.Path.{◌≡◌, refl, sym, ◌∙◌}
use mathlib.Core.List.{[], ◌∷◌}
use native.Mathlib.Omega.{arith}
use lib.Dec.{ltb}
use borrow.Author.Rules.{rules}
use borrow.Author.Tests.{lt-ltb, le-ltb}
use Rattle.key.specs.Number.{key_at}
use Rattle.own.specs.Own.{own_keys}
use Rattle.refusal.specs.Table.{when, or_refuse}
use Rattle.plan_flood.specs.Flood.{revoke_plan}
use Rattle.gauge_plan.specs.declared.Plan.TheVariants.{Refuse, Revoke}
use Rattle.plan_flood.proofs.FloodLaws.{revoke-bad, revoke-own, revoke-by}
use Rattle.plan_flood.proofs.plan_revoke.Goals.{After-ack_room, Start}
use Rattle.plan_flood.proofs.plan_revoke.Goals as goal

pub returns-then-verdict-ne1 : goal.returns-then-verdict-ne1
returns-then-verdict-ne1 c =
    let a = c.args in
    sym (revoke-bad (own_keys a.own.now) a.held a.used a.verdict (key_at 0 a.key.now) a.room a.d.now a.silent a.acked
    a.validate c.if-verdict-ne1.true)

pub returns-then-is_own : goal.returns-then-is_own
returns-then-is_own c =
    let a = c.args in
    sym (revoke-own (own_keys a.own.now) a.held a.used a.verdict (key_at 0 a.key.now) a.room a.d.now a.silent a.acked
    a.validate c.if-verdict-ne1.false (sym c.is_own.ensures ∙ c.if-is_own.true))

-- only room is left to be refused for
abbrev start : After-ack_room → Start
start c = (goal.at.After-ack_room c).Start

by-room : (c : After-ack_room)
    → (let a = (start c).args in revoke_plan (own_keys a.own.now) a.held a.used a.verdict (key_at 0 a.key.now) a.room a.d.now
    a.silent a.acked a.validate)
    ≡ or_refuse Refuse (when 15 (ltb (start c).args.room c.ack_room.result) ∷ [])
    (let a = (start c).args in Revoke a.held a.used a.silent c.not_ours-n.result a.acked)
by-room c =
    let e = c in
    let a = (start c).args in
    revoke-by (own_keys a.own.now) a.held a.used a.verdict (key_at 0 a.key.now) a.room a.d.now a.silent a.acked
    a.validate
    e.if-verdict-ne1.false (sym e.is_own.ensures ∙ e.if-is_own.false) c.not_ours-n.ensures c.ack_room.ensures

pub returns-then-room-ack_room : goal.returns-then-room-ack_room
unfolding or_refuse
returns-then-room-ack_room c = sym (by-room (goal.at.returns-then-room-ack_room c).After-ack_room ∙ rw (lt-ltb _ _ c.if-room-ack_room.true) refl)

pub returns : goal.returns
unfolding or_refuse
returns c = sym (by-room (goal.at.returns c).After-ack_room ∙ rw (le-ltb _ _ c.if-room-ack_room.false) refl)
