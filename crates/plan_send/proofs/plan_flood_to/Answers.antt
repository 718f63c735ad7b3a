-- `plan_send::plan_flood_to` meets its contract: row by row, each test is the code's. Assumes nothing.
use mathlib.Core.Path.{◌≡◌, sym, ap, ap₂, ◌∙◌}
use mathlib.Core.Bool.{Bool, cond}
use mathlib.Core.List.{List}
use Prim.Native.Nat.{ℕ}
use native.Mathlib.Omega.{arith}
use Rattle.key.specs.Number.{key_at}
use Rattle.own.specs.Own.{own_keys, own_place}
use Rattle.table.specs.Rows.{rows, Laid}
use Rattle.cache.proofs.FormLaws.{form_laid}
use Rattle.gauge_plan.specs.Found.{is_nothing, place_of}
use Rattle.std.specs.Prelude.{Option}
use Rattle.gauge_plan.proofs.FoundLaws.{none_is}
use Rattle.plan_send.specs.Send.{held_at, sent_at}
use Rattle.plan_send.proofs.SendLaws.{other_at, own_room, sent-room, send-nobody, send-missing, send-barred, send-long, send-fits}
use Rattle.plan_send.proofs.plan_flood_to.Goals.{After-is_none, After-is_none-missing, After-sent_at-at, Else-is_none, Start}
use Rattle.plan_send.proofs.plan_flood_to.Goals as goal

laid : (s : Start) → Laid 100 s.args.held s.args.cache.now
laid s = form_laid (own_keys s.args.own.now) s.args.held s.args.cache.now s.requires.1

abbrev recs : Start → List (List ℕ)
recs s = rows 100 s.args.held s.args.cache.now

abbrev places : Start → List (List ℕ)
places s = rows 140 s.args.used s.args.waiting.now

-- whether the neighbour is held
abbrev first : After-is_none → Start
first c = (goal.at.After-is_none c).Start

nobody : (c : After-is_none) → is_nothing (held_at (key_at 0 (first c).args.neighbour.now) (recs (first c))) ≡ c.is_none.result
nobody c = sym (none_is _ c.is_none.ensures ∙ ap is_nothing c.held_at-to.ensures)

-- and whether the record is, where it is not ours
abbrev start : After-is_none-missing → Start
start c = first (goal.at.After-is_none-missing c).After-is_none

missing : (c : After-is_none-missing) → c.is_none-missing.result ≡ is_nothing (held_at (key_at 0 (start c).args.key.now) (recs (start c)))
missing c = none_is _ c.is_none-missing.ensures ∙ ap is_nothing c.held_at-found.ensures

pub held_at-to-requires : goal.held_at-to-requires
held_at-to-requires c =
    let s = (goal.at.held_at-to-requires c).Start in
    ((laid s).room, omega (arith, s.requires.3), s.requires.1.held.rising)

pub returns-then-is_none : goal.returns-then-is_none
returns-then-is_none c =
    let s = (goal.at.returns-then-is_none c).Start in
    let a = s.args in
    sym (send-nobody a.own.now a.cache.now (recs s) (places s) a.used a.id a.room (key_at 0 a.neighbour.now)
    (key_at 0 a.key.now) (nobody (goal.at.returns-then-is_none c).After-is_none ∙ c.if-is_none.true))

pub is_own-ours-requires : goal.is_own-ours-requires
is_own-ours-requires c =
    let s = (goal.at.is_own-ours-requires c).Start in
    omega (arith, s.requires.4)

pub held_at-found-requires : goal.held_at-found-requires
held_at-found-requires c =
    let s = (goal.at.held_at-found-requires c).Start in
    ((laid s).room, omega (arith, s.requires.4), s.requires.1.held.rising)

pub returns-then-ours-missing : goal.returns-then-ours-missing
returns-then-ours-missing c =
    let n = (goal.at.returns-then-ours-missing c).After-is_none-missing in
    let e = c in
    let s = start n in
    let a = s.args in
    sym (send-missing a.own.now a.cache.now (recs s) (places s) a.used a.id a.room (key_at 0 a.neighbour.now)
    (key_at 0 a.key.now) (nobody (goal.at.returns-then-ours-missing c).After-is_none ∙ e.if-is_none.false) n.is_own-ours.ensures (missing n) c.if-ours-missing.true)

pub returns-then-barred-ne0 : goal.returns-then-barred-ne0
returns-then-barred-ne0 c =
    let i = c in
    let n = (goal.at.returns-then-barred-ne0 c).After-is_none-missing in
    let e = c in
    let s = start n in
    let a = s.args in
    sym (send-barred a.own.now a.cache.now (recs s) (places s) a.used a.id a.room (key_at 0 a.neighbour.now)
    (key_at 0 a.key.now) (nobody (goal.at.returns-then-barred-ne0 c).After-is_none ∙ e.if-is_none.false) n.is_own-ours.ensures (missing n) i.if-ours-missing.false
    c.open_refusal-barred.ensures (omega (arith, c.if-barred-ne0.true)))

pub sent_at-at-requires : goal.sent_at-at-requires
sent_at-at-requires c =
    let n = (goal.at.sent_at-at-requires c).After-is_none-missing in
    (omega (arith, (start n).requires.4), n.is_own-ours.ensures)

-- where the record stands
placed : (c : After-sent_at-at) → (let n = (goal.at.After-sent_at-at c).After-is_none-missing in
    c.sent_at-at.result ≡ sent_at (start n).args.own.now (recs (start n)) (key_at 0 (start n).args.key.now))
placed c =
    let n = (goal.at.After-sent_at-at c).After-is_none-missing in
    let a = (start n).args in
    c.sent_at-at.ensures
    ∙ ap₂ (λ (ours : Bool) (f : Option ℕ). cond ours (own_place (own_keys a.own.now) (key_at 0 a.key.now)) (place_of f))
    n.is_own-ours.ensures n.held_at-found.ensures

pub count_sent-count-requires : goal.count_sent-count-requires
count_sent-count-requires c =
    let i = c in
    let n = (goal.at.count_sent-count-requires c).After-is_none-missing in
    let s = start n in
    let a = s.args in
    let k = key_at 0 a.key.now in
    let is = n.is_own-ours.ensures in (
      λ o. omega (arith, placed (goal.at.count_sent-count-requires c).After-sent_at-at, own_room a.own.now (recs s) k s.requires.0 (sym is ∙ o)),
      λ o. sent-room k a.held a.cache.now (missing n) i.if-ours-missing.false o (laid s).room (placed (goal.at.count_sent-count-requires c).After-sent_at-at ∙ other_at a.own.now (recs s) k (sym is ∙ o)),
    )

pub returns-then-room-count : goal.returns-then-room-count
returns-then-room-count c =
    let p = (goal.at.returns-then-room-count c).After-sent_at-at in
    let f = c in
    let i = c in
    let n = (goal.at.returns-then-room-count c).After-is_none-missing in
    let e = c in
    let s = start n in
    let a = s.args in
    sym (send-long a.own.now a.cache.now (recs s) (places s) a.used a.id a.room (key_at 0 a.neighbour.now) (key_at 0 a.key.now)
    (nobody (goal.at.returns-then-room-count c).After-is_none ∙ e.if-is_none.false) n.is_own-ours.ensures (missing n) i.if-ours-missing.false f.open_refusal-barred.ensures
    f.if-barred-ne0.false (placed p) c.count_sent-count.ensures.0 c.if-room-count.true)

pub returns : goal.returns
returns c =
    let p = (goal.at.returns c).After-sent_at-at in
    let f = c in
    let i = c in
    let n = (goal.at.returns c).After-is_none-missing in
    let e = c in
    let s = start n in
    let a = s.args in
    sym (send-fits a.own.now a.cache.now (recs s) (places s) a.used a.id a.room (key_at 0 a.neighbour.now) (key_at 0 a.key.now)
    (nobody (goal.at.returns c).After-is_none ∙ e.if-is_none.false) n.is_own-ours.ensures (missing n) i.if-ours-missing.false f.open_refusal-barred.ensures
    f.if-barred-ne0.false (placed p) c.count_sent-count.ensures.0 c.if-room-count.false)
