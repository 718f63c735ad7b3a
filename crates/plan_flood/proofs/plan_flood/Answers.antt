-- `plan_flood::plan_flood` meets its contract: row by row, each test is the code's. Assumes nothing.
use mathlib.Core.Path.{◌≡◌, sym, ap, ◌∙◌}
use mathlib.Core.Bool.{Bool, false}
use mathlib.Core.List.{[], ◌∷◌}
use Prim.Native.Nat.{ℕ, ◌+◌}
use native.Mathlib.Omega.{arith}
use lib.Dec.{ltb}
use borrow.Author.Rules.{rules}
use borrow.Author.Tests.{lt-ltb, le-ltb}
use Rattle.octet.specs.Part.{part}
use Rattle.record.specs.Record.{key_of}
use Rattle.record.specs.Entry.{record_of}
use Rattle.own.specs.Own.{own_keys, is_own}
use Rattle.refusal.specs.Table.{when, first_of, or_refuse}
use Rattle.refusal.proofs.CallLaws.{row_applies, row_passes, no_row}
use Rattle.table.specs.Rows.{rows}
use Rattle.cache.proofs.FormLaws.{form_laid}
use Rattle.gauge_plan.specs.Opening.{open_rows}
use Rattle.gauge_plan.specs.declared.Plan.{Plan}
use Rattle.gauge_plan.specs.declared.Plan.TheVariants.{Refuse, Flood}
use Rattle.asking.specs.Ids.{id_after}
use Rattle.asking.specs.Asking.{inquire_room}
use Rattle.asking.proofs.AskingLaws.{inquire_most, entry-room, key_in_lem}
use Rattle.plan_flood.specs.Flood.{flood_plan}
use Rattle.plan_flood.specs.Rooms.{ack_room}
use Rattle.plan_flood.proofs.FloodLaws.{ack_most, flood-own, flood-barred, flood-by}
use Rattle.plan_flood.proofs.plan_flood.Goals.{After-inquire_room, After-is_own, After-open_refusal-barred, Else-is_own, Start}
use Rattle.plan_flood.proofs.plan_flood.Goals as goal

-- whether the entry names the own key
own_key : (c : After-is_own)
    → (let a = c.args in is_own (own_keys a.own.now) (key_of (record_of (part a.start a.len a.d.now))))
    ≡ c.is_own.result
own_key c =
    let s = c in
    let a = s.args in
    ap (is_own (own_keys a.own.now)) (key_in_lem a.start a.len a.d.now s.requires.4 s.requires.5) ∙ sym c.is_own.ensures

-- what the code asks once it does not: N, whether an inquiry opens, and what stands against its place
abbrev start : After-open_refusal-barred → Start
start c = (goal.at.After-open_refusal-barred c).Start

abbrev n : After-open_refusal-barred → Bool
n c = c.not_ours-n.result

abbrev opens : After-open_refusal-barred → Bool
opens c = c.must_ask-opens.result

abbrev plan : After-open_refusal-barred → Plan
plan c =
    let a = (start c).args in
    flood_plan (own_keys a.own.now) (rows 100 a.held a.cache.now) (rows 140 a.used a.waiting.now) a.used a.id a.room a.d.now
    a.silent a.acked a.validate a.start a.len

other_key : (c : After-open_refusal-barred)
    → (let a = (start c).args in is_own (own_keys a.own.now) (key_of (record_of (part a.start a.len a.d.now)))) ≡ false
other_key c = let e = c in own_key (goal.at.After-open_refusal-barred e).After-is_own ∙ e.if-is_own.false

stands-against : (c : After-open_refusal-barred)
    → (let a = (start c).args in
    c.open_refusal-barred.result ≡ first_of (open_rows (opens c) (rows 140 a.used a.waiting.now) a.used (id_after a.id)))
stands-against c =
    let a = (start c).args in
    c.open_refusal-barred.ensures
    ∙ ap (λ (i : ℕ). first_of (open_rows (opens c) (rows 140 a.used a.waiting.now) a.used i)) c.id_after.ensures

pub is_own-requires : goal.is_own-requires
is_own-requires c =
    let s = c in
    let a = s.args in
    entry-room a.start a.len a.d.now s.requires.4 s.requires.5

pub returns-then-is_own : goal.returns-then-is_own
returns-then-is_own c =
    let a = c.args in
    sym (flood-own (own_keys a.own.now) (rows 100 a.held a.cache.now) (rows 140 a.used a.waiting.now) a.used
    a.id a.room a.d.now a.silent a.acked a.validate a.start a.len (own_key (goal.at.returns-then-is_own c).After-is_own ∙ c.if-is_own.true))

-- memory in form: the records lie within it, and their keys rise
pub must_ask-opens-requires : goal.must_ask-opens-requires
must_ask-opens-requires c =
    let s = c in
    let a = s.args in
    let laid = form_laid (own_keys a.own.now) a.held a.cache.now s.requires.1 in
    (laid.room, s.requires.2, s.requires.4, s.requires.5, s.requires.1.held.rising)

pub returns-then-barred-ne0 : goal.returns-then-barred-ne0
returns-then-barred-ne0 c =
    let h = (goal.at.returns-then-barred-ne0 c).After-open_refusal-barred in
    let a = (start h).args in
    sym (flood-barred (own_keys a.own.now) (rows 100 a.held a.cache.now) (rows 140 a.used a.waiting.now) a.used a.id a.room
    a.d.now a.silent a.acked a.validate a.start a.len (other_key h) h.not_ours-n.ensures
    h.must_ask-opens.ensures (stands-against h) (omega (arith, c.if-barred-ne0.true)))

pub overflow_add-ack_room : goal.overflow_add-ack_room
overflow_add-ack_room c =
    let h = (goal.at.overflow_add-ack_room c).After-open_refusal-barred in
    omega (arith, c.inquire_room.ensures, c.ack_room.ensures, ack_most (start h).args.silent (n h), inquire_most (opens h))

-- only room is left to be refused for
abbrev room_for : After-open_refusal-barred → ℕ
room_for h = ack_room (start h).args.silent (n h) + inquire_room (opens h)

by-room : (c : After-inquire_room)
    → (let h = (goal.at.After-inquire_room c).After-open_refusal-barred in
    let a = (start h).args in
    plan h ≡ or_refuse Refuse (when 15 (ltb a.room (room_for h)) ∷ []) (Flood a.used a.silent (n h) a.acked (opens h) a.start a.len))
by-room c =
    let h = (goal.at.After-inquire_room c).After-open_refusal-barred in
    let a = (start h).args in
    flood-by (own_keys a.own.now) (rows 100 a.held a.cache.now) (rows 140 a.used a.waiting.now) a.used a.id a.room
    a.d.now a.silent a.acked a.validate a.start a.len (other_key h) h.not_ours-n.ensures
    h.must_ask-opens.ensures (stands-against h) c.if-barred-ne0.false

pub returns-then-room-ack_room : goal.returns-then-room-ack_room
returns-then-room-ack_room c =
    let h = (goal.at.returns-then-room-ack_room c).After-open_refusal-barred in
    sym (by-room (goal.at.returns-then-room-ack_room c).After-inquire_room ∙ row_applies Refuse 15 _ _ _ (lt-ltb (start h).args.room (room_for h)
    (omega (arith, c.if-room-ack_room.true, c.inquire_room.ensures, c.ack_room.ensures))))

pub returns : goal.returns
returns c =
    let h = (goal.at.returns c).After-open_refusal-barred in
    sym (by-room (goal.at.returns c).After-inquire_room ∙ row_passes Refuse 15 _ _ _ (le-ltb (start h).args.room (room_for h)
    (omega (arith, c.if-room-ack_room.false, c.inquire_room.ensures, c.ack_room.ensures))) ∙ no_row Refuse _)
