-- `commit_send` meets its contract: a place opens, and the FLOOD is written from where the record stands. Assumes nothing.
use native.Mathlib.Omega.{arith}
use mathlib.Core.Path.{◌≡◌, ap, ◌∙◌}
use mathlib.Core.List.{List, [], ◌∷◌}
use Prim.Native.Nat.{ℕ, ◌*◌}
use Rattle.octet.specs.Part.{part}
use Rattle.record.specs.Record.{record_form}
use Rattle.wire_write.specs.Making.{flood_made}
use Rattle.plan_send.specs.Send.{record_sent, flood_room}
use Rattle.gauge_commit.specs.Sending.{lengths, sending}
use Rattle.gauge_commit.proofs.SentLaws.{ours-sent, held-sent}
use borrow.Author.Rules.{rules}
use Rattle.commit_send.proofs.commit_send.Goals.{After-open_flood, Else-ours, Start, Then-ours}
use Rattle.commit_send.proofs.commit_send.Goals as goal

abbrev start : After-open_flood → Start
start o = (goal.at.After-open_flood o).Start

-- the record that is sent
abbrev sent : Start → List ℕ
sent s = let a = s.args in record_sent a.own.now a.cache.now a.ours a.at

ours-is : (c : Then-ours) → (let s = start (goal.at.Then-ours c).After-open_flood in part (100 * s.args.at) 100 s.args.own.now ≡ sent s)
ours-is c =
    let s = start (goal.at.Then-ours c).After-open_flood in
    let a = s.args in
    ours-sent a.own.now a.cache.now a.ours a.at c.if-ours.true

held-is : (c : Else-ours) → (let s = start (goal.at.Else-ours c).After-open_flood in part (100 * s.args.at) 100 s.args.cache.now ≡ sent s)
held-is c =
    let s = start (goal.at.Else-ours c).After-open_flood in
    let a = s.args in
    held-sent a.own.now a.cache.now a.ours a.at c.if-ours.false

pub overflow_mul-at : goal.overflow_mul-at
overflow_mul-at c =
    let i = c in
    omega (arith, (start (goal.at.overflow_mul-at c).After-open_flood).requires.4 i.if-ours.true)

pub send_flood-requires : goal.send_flood-requires
send_flood-requires c =
    let i = (goal.at.send_flood-requires c).Then-ours in
    let p = (start (goal.at.Then-ours i).After-open_flood).requires in
    (p.3, p.4 i.if-ours.true, ap record_form (ours-is i) ∙ p.6, omega (arith, ap flood_room (ours-is i), p.7))

pub returns-then-ours : goal.returns-then-ours
returns-then-ours c =
    let f = c in
    let i = (goal.at.returns-then-ours c).Then-ours in
    let o = (goal.at.returns-then-ours c).After-open_flood in
    let a = (start o).args in
    let made : List ℕ → List (List ℕ) = λ (r : List ℕ). (flood_made a.head.major a.head.minor a.head.id a.neighbour.now r 0).bytes ∷ [] in record { value = f.send_flood.ensures.value ∙ ap (λ (r : List ℕ). lengths (made r)) (ours-is i); waiting_after = o.open_flood.ensures; output_after = f.send_flood.ensures.output_after ∙ ap (λ (r : List ℕ). sending (made r) a.output.now) (ours-is i) }

pub overflow_mul-at-2 : goal.overflow_mul-at-2
overflow_mul-at-2 c =
    let i = c in
    omega (arith, (start (goal.at.overflow_mul-at-2 c).After-open_flood).requires.5 i.if-ours.false)

pub send_flood-requires-2 : goal.send_flood-requires-2
send_flood-requires-2 c =
    let i = (goal.at.send_flood-requires-2 c).Else-ours in
    let p = (start (goal.at.Else-ours i).After-open_flood).requires in
    (p.3, p.5 i.if-ours.false, ap record_form (held-is i) ∙ p.6, omega (arith, ap flood_room (held-is i), p.7))

pub returns : goal.returns
returns c =
    let f = c in
    let i = (goal.at.returns c).Else-ours in
    let o = (goal.at.returns c).After-open_flood in
    let a = (start o).args in
    let made : List ℕ → List (List ℕ) = λ (r : List ℕ). (flood_made a.head.major a.head.minor a.head.id a.neighbour.now r 0).bytes ∷ [] in record { value = f.send_flood-2.ensures.value ∙ ap (λ (r : List ℕ). lengths (made r)) (held-is i); waiting_after = o.open_flood.ensures; output_after = f.send_flood-2.ensures.output_after ∙ ap (λ (r : List ℕ). sending (made r) a.output.now) (held-is i) }
