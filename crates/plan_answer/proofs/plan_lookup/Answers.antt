-- `plan_answer::plan_lookup` meets its contract: the rows that stand against a place first; then room, of the record shown, which has one address whichever it is.
-- Assumes nothing.
use mathlib.Core.Path.{◌≡◌, sym, ap, ◌∙◌}
use mathlib.Core.Bool.{Bool}
use mathlib.Core.List.{List, [], ◌∷◌}
use Prim.Native.Nat.{ℕ, ◌+◌, ◌*◌, ◌≤◌}
use native.Mathlib.Omega.{arith}
use lib.Dec.{ltb}
use borrow.Author.Rules.{rules}
use borrow.Author.Tests.{lt-ltb, le-ltb}
use Rattle.octet.specs.Part.{part}
use Rattle.key.specs.Number.{key_at}
use Rattle.record.specs.Record.{count_of}
use Rattle.record.proofs.EntryLaws.{one_address}
use Rattle.own.specs.Own.{own_keys, own_records}
use Rattle.refusal.specs.Table.{when, or_refuse, first_of}
use Rattle.refusal.proofs.CallLaws.{row_applies, row_passes, no_row}
use Rattle.table.specs.Rows.{rows}
use Rattle.cache.proofs.FormLaws.{form_laid}
use Rattle.neighbours.specs.Closest.{candidates, off_path, closest_of}
use Rattle.neighbours.proofs.ClosestLaws.{closest_formed}
use Rattle.neighbours.proofs.SkipLaws.{off-held}
use Rattle.gauge_plan.specs.declared.Plan.{Plan}
use Rattle.gauge_plan.specs.declared.Plan.TheVariants.{Refuse, Show}
use Rattle.gauge_plan.specs.Opening.{open_rows}
use Rattle.asking.specs.Asking.{inquire_room}
use Rattle.asking.specs.Ids.{id_after}
use Rattle.asking.proofs.AskingLaws.{inquire_most}
use Rattle.plan_answer.specs.Answering.{lookup_plan}
use Rattle.plan_answer.proofs.AnsweringLaws.{lookup-barred, lookup-by}
use Rattle.plan_answer.proofs.plan_lookup.Goals.{After-inquire_room-asked, After-open_refusal-barred, Start}
use Rattle.plan_answer.proofs.plan_lookup.Goals as goal

-- behind the question about the entry
module _ (h : After-open_refusal-barred) where
  abbrev s : Start
  s = (goal.at.After-open_refusal-barred h).Start

  abbrev recs : List (List ℕ)
  recs = rows 100 s.args.held s.args.cache.now

  abbrev ps : List (List ℕ)
  ps = rows 140 s.args.used s.args.waiting.now

  abbrev opens : Bool
  opens = h.asks_for-opens.result

  abbrev plan : Plan
  plan =
      let a = s.args in
      lookup_plan a.own.now recs ps a.held a.used a.id a.room a.d.now a.acked a.target a.path a.size a.start a.len

  abbrev shows : Plan
  shows = let a = s.args in Show a.held a.used a.acked a.target a.path a.size opens a.start a.len

  -- the record that is shown
  abbrev nearest : List ℕ
  nearest = let a = s.args in closest_of (key_at a.target a.d.now) (candidates (own_records a.own.now) (off_path (part a.path a.size a.d.now) recs))

  stands-against : h.open_refusal-barred.result ≡ first_of (open_rows opens ps s.args.used (id_after s.args.id))
  stands-against =
      h.open_refusal-barred.ensures ∙ ap (λ (i : ℕ). first_of (open_rows opens ps s.args.used i)) h.id_after.ensures

  -- it has one address, whichever it is
  one : count_of nearest ≡ 1
  one =
      let a = s.args in
      let path = part a.path a.size a.d.now in
      one_address nearest
      (closest_formed (key_at a.target a.d.now) (own_keys a.own.now) a.own.now (off_path path recs) s.requires.0
      (off-held path (own_keys a.own.now) recs s.requires.1.held))

abbrev at_open : After-inquire_room-asked → After-open_refusal-barred
at_open c = (goal.at.After-inquire_room-asked c).After-open_refusal-barred

-- how many bytes the INQUIRE has, and the two datagrams
asked : (c : After-inquire_room-asked) → c.inquire_room-asked.result ≤ 76
asked c = omega (arith, c.inquire_room-asked.ensures, inquire_most (opens (at_open c)))

abbrev room_for : After-inquire_room-asked → ℕ
room_for c = 80 + 16 * 1 + inquire_room (opens (at_open c))

by-room : (c : After-inquire_room-asked)
    → plan (at_open c) ≡ or_refuse Refuse (when 15 (ltb (s (at_open c)).args.room (room_for c)) ∷ []) (shows (at_open c))
by-room c =
    let h = at_open c in
    let a = (s h).args in
    lookup-by a.own.now (recs h) (ps h) a.held a.used a.id a.room a.d.now a.acked a.target a.path a.size a.start a.len
    h.asks_for-opens.ensures (stands-against h) c.if-barred-ne0.false (one h)

-- memory in form: the records lie within it, and their keys rise
pub asks_for-opens-requires : goal.asks_for-opens-requires
asks_for-opens-requires c =
    let s = c in
    let a = s.args in
    let laid = form_laid (own_keys a.own.now) a.held a.cache.now s.requires.1 in
    (s.requires.0, laid.room, s.requires.2, s.requires.5, s.requires.6, s.requires.1.held.rising)

pub returns-then-barred-ne0 : goal.returns-then-barred-ne0
returns-then-barred-ne0 c =
    let h = (goal.at.returns-then-barred-ne0 c).After-open_refusal-barred in
    let a = (s h).args in
    sym (lookup-barred a.own.now (recs h) (ps h) a.held a.used a.id a.room a.d.now a.acked a.target a.path a.size a.start a.len
    h.asks_for-opens.ensures (stands-against h) (omega (arith, c.if-barred-ne0.true)))

pub overflow_add-asked : goal.overflow_add-asked
overflow_add-asked c = omega (arith, asked (goal.at.overflow_add-asked c).After-inquire_room-asked)

pub returns-then-room-asked : goal.returns-then-room-asked
returns-then-room-asked c =
    let m = (goal.at.returns-then-room-asked c).After-inquire_room-asked in
    sym (by-room m ∙ row_applies Refuse 15 _ [] _ (lt-ltb (s (at_open m)).args.room (room_for m) (omega (arith, c.if-room-asked.true, m.inquire_room-asked.ensures))))

pub returns : goal.returns
returns c =
    let m = (goal.at.returns c).After-inquire_room-asked in
    sym (by-room m ∙ row_passes Refuse 15 _ [] _ (le-ltb (s (at_open m)).args.room (room_for m) (omega (arith, c.if-room-asked.false, m.inquire_room-asked.ensures)))
    ∙ no_row Refuse _)
