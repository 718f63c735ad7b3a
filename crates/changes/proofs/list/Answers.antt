-- `changes::list` meets its contract: no room, or the list. Assumes nothing.
use mathlib.Core.Path.{◌≡◌, ap, ap₂, ◌∙◌}
use mathlib.Core.List.{List}
use Prim.Native.Nat.{ℕ, ◌*◌, ◌≤◌}
use native.Mathlib.Omega.{arith}
use lib.ListN.{length}
use borrow.Author.Rules.{rules}
use Rattle.table.specs.Rows.{rows}
use Rattle.table.proofs.RowLaws.{rows-length}
use Rattle.changed.specs.Changes.{Change, changes}
use Rattle.gauge_commit.specs.declared.Answer.{Answer}
use Rattle.changes.specs.Listed.{listed}
use Rattle.changed.proofs.SizeLaws.{list_few}
use Rattle.changes.proofs.LentLaws.{no_room, some-room}
use Rattle.changes.proofs.list.Goals.{After-count-entries, Start}
use Rattle.changes.proofs.list.Goals as goal

abbrev start : After-count-entries → Start
start n = (goal.at.After-count-entries n).Start

abbrev whole : After-count-entries → List Change
whole n = let a = (start n).args in changes (rows 100 a.used a.«before».now) (rows 100 a.held a.«after».now)

-- at most two full caches
few : (n : After-count-entries) → n.count-entries.result ≤ 512
few n =
    let s = start n in
    let a = s.args in
    omega (
      arith,
      n.count-entries.ensures,
      list_few (rows 100 a.used a.«before».now) (rows 100 a.held a.«after».now),
      rows-length 100 a.used a.«before».now,
      rows-length 100 a.held a.«after».now,
      s.requires.2,
      s.requires.3,
    )

pub overflow_mul-size : goal.overflow_mul-size
overflow_mul-size c = omega (arith, few (goal.at.overflow_mul-size c).After-count-entries)

pub returns-then-output-size : goal.returns-then-output-size
returns-then-output-size c =
    let n = (goal.at.returns-then-output-size c).After-count-entries in
    let out = (start n).args.output.now in
    ap (λ (r : Answer). listed r out) c.answer_of.ensures ∙ no_room (whole n) out n.count-entries.result n.count-entries.ensures c.if-output-size.true

pub write-requires : goal.write-requires
write-requires c =
    let n = (goal.at.write-requires c).After-count-entries in
    let s = start n in
    (s.requires.0, s.requires.1, s.requires.2, s.requires.3, omega (arith, n.count-entries.ensures, c.if-output-size.false))

pub answer_of-requires-2 : goal.answer_of-requires-2
answer_of-requires-2 c = let h = few (goal.at.answer_of-requires-2 c).After-count-entries in (omega (arith, h), omega (arith, h))

pub returns : goal.returns
returns c =
    let w = c in
    let n = (goal.at.returns c).After-count-entries in
    let out = (start n).args.output.now in
    ap₂ listed c.answer_of-2.ensures w.write.ensures
    ∙ some-room (whole n) out n.count-entries.result n.count-entries.ensures (omega (arith, w.if-output-size.false))
