-- `next_row::is_taken` meets its contract: a record that is looked for, where none was found before it or it is closer. Assumes nothing.
use mathlib.Core.Path.{◌≡◌, refl, sym, ap, ap₂, ◌∙◌}
use mathlib.Core.Bool.{Bool, true, ◌&&◌}
use mathlib.Core.Option.{some}
use Prim.Native.Nat.{◌*◌}
use native.Mathlib.Omega.{arith}
use lib.ListN.{get_or}
use borrow.Author.Tests.{eq-eqb, ne_eqb}
use Rattle.octet.specs.Part.{part}
use Rattle.octet.proofs.PartLaws.{part_at}
use Rattle.key.specs.Number.{number}
use Rattle.key.specs.Around.{closer}
use Rattle.record.specs.Record.{key_of}
use Rattle.record.proofs.EntryLaws.{one_address}
use Rattle.table.specs.Rows.{rows}
use Rattle.cache.proofs.FormLaws.{key_of-row}
use Rattle.neighbours.proofs.ClosestLaws.{in_form}
use Rattle.neighbours.proofs.BesideLaws.{row_in}
use Rattle.next_row.specs.Walk.{wanted, row_at, takes_over}
use Rattle.next_row.proofs.is_taken.Goals.{After-is_wanted, Start}
use Rattle.next_row.proofs.is_taken.Goals as goal

abbrev start : After-is_wanted → Start
start c = (goal.at.After-is_wanted c).Start

-- the two parts of what is promised
abbrev looked : Start → Bool
looked s = let a = s.args in wanted a.path.now a.leave (number a.k) (part (100 * a.i) 100 a.s.now)

abbrev over : Start → Bool
over s = let a = s.args in takes_over (number a.target) (part (100 * a.i) 100 a.s.now) (row_at a.n a.s.now a.best)

pub is_wanted-requires : goal.is_wanted-requires
is_wanted-requires c =
    let a = c.args in
    let row = part (100 * a.i) 100 a.s.now in
    let formed = in_form row (rows 100 a.n a.s.now) c.requires.3 (row_in a.n a.i a.s.now c.requires.2) in
    let few : get_or row 34 0 ≡ 1 = one_address row formed in
    (omega (arith, c.requires.0, c.requires.2), omega (arith, few, part_at (100 * a.i) 100 34 a.s.now (omega arith)))

pub returns-then-not-is_wanted : goal.returns-then-not-is_wanted
returns-then-not-is_wanted c = let s = (goal.at.returns-then-not-is_wanted c).Start in sym (ap (λ (b : Bool). b && over s) (sym c.is_wanted.ensures ∙ c.if-not-is_wanted.true))

pub returns-then-best-n : goal.returns-then-best-n
returns-then-best-n c =
    let w = (goal.at.returns-then-best-n c).After-is_wanted in
    let s = start w in
    let a = s.args in
    let none : over s ≡ true = rw (eq-eqb a.best a.n c.if-best-n.true) refl in
    sym (ap₂ ◌&&◌ (sym w.is_wanted.ensures ∙ c.if-not-is_wanted.false) none)

pub returns : goal.returns
returns c =
    let w = (goal.at.returns c).After-is_wanted in
    let s = start w in
    let a = s.args in
    let t = number a.target in
    let row = part (100 * a.i) 100 a.s.now in
    let found = part (100 * a.best) 100 a.s.now in
    let at : row_at a.n a.s.now a.best ≡ some found = rw (ne_eqb a.best a.n c.if-best-n.false) refl in
    let some_one : over s ≡ closer t (key_of row) (key_of found) = ap (takes_over t row) at in
    let near = ap₂ (closer t) (key_of-row (100 * a.i) a.s.now ∙ sym c.key_at-other.ensures)
    (key_of-row (100 * a.best) a.s.now ∙ sym c.key_at-near.ensures) in
    let says : c.is_closer.result ≡ closer t (number c.key_at-other.result) (number c.key_at-near.result) = c.is_closer.ensures in
    sym (ap₂ ◌&&◌ (sym w.is_wanted.ensures ∙ c.if-not-is_wanted.false) (some_one ∙ near ∙ sym says))
