-- `changes::gauge_changes` meets its contract: each test that fails is the first row that applies; where none does, the list. Assumes nothing.
use mathlib.Core.Path.{◌≡◌, sym, ap, ◌∙◌}
use mathlib.Core.List.{List}
use Prim.Native.Nat.{ℕ}
use borrow.Author.Rules.{rules}
use Rattle.gauge_commit.specs.declared.Answer.{Answer}
use Rattle.changes.specs.Listed.{Listed, listed}
use Rattle.changes.proofs.LentLaws.{first-wrong, second-wrong, lengths-wrong, all_right, within}
use Rattle.changes.proofs.gauge_changes.Goals.{After-memory, Start}
use Rattle.changes.proofs.gauge_changes.Goals as goal

abbrev start : After-memory → Start
start m = (goal.at.After-memory m).Start

-- a refusal, with the output as it was lent
abbrev answered : Start → Answer → Listed
answered s r = listed r s.args.output.now

pub returns-in_default : goal.returns-in_default
returns-in_default c =
    let m = (goal.at.returns-in_default c).After-memory in
    let s = start m in
    let a = s.args in
    ap (answered s) c.answer_of.ensures
    ∙ first-wrong a.own.now a.«before».now a.«after».now a.output.now m.memory.ensures c.in_default.is

pub returns-in_default-form : goal.returns-in_default-form
returns-in_default-form c =
    let f = c in
    let first = c in
    let m = (goal.at.returns-in_default-form c).After-memory in
    let s = start m in
    let a = s.args in
    ap (answered s) c.answer_of-in_default-form.ensures
    ∙ second-wrong a.own.now a.«before».now a.«after».now a.output.now m.memory.ensures first.in-Some.is f.form.ensures
    c.in_default-form.is

pub returns-then-before-after : goal.returns-then-before-after
returns-then-before-after c =
    let second = c in
    let f = c in
    let first = c in
    let m = (goal.at.returns-then-before-after c).After-memory in
    let s = start m in
    let a = s.args in
    ap (answered s) c.answer_of-then-before-after.ensures
    ∙ lengths-wrong a.own.now a.«before».now a.«after».now a.output.now m.memory.ensures first.in-Some.is f.form.ensures
    second.in-Some-form.is c.if-before-after.true

pub list-requires : goal.list-requires
list-requires c =
    let second = c in
    let f = c in
    let first = c in
    let m = (goal.at.list-requires c).After-memory in
    let a = (start m).args in
    within a.own.now a.«before».now a.«after».now a.output.now m.memory.ensures first.in-Some.is f.form.ensures
    second.in-Some-form.is

pub returns : goal.returns
returns c =
    let called = c in
    let tested = c in
    let second = c in
    let f = c in
    let first = c in
    let m = (goal.at.returns c).After-memory in
    let a = (start m).args in
    called.list.ensures
    ∙ all_right a.own.now a.«before».now a.«after».now a.output.now m.memory.ensures first.in-Some.is f.form.ensures
    second.in-Some-form.is tested.if-before-after.false
