-- `plan_answer::plan_authority` meets its contract: by the place that is found, then by each test. Assumes nothing.
use mathlib.Core.Path.{◌≡◌, sym, ap, ◌∙◌}
use mathlib.Core.Bool.{not}
use Prim.Native.Nat.{ℕ, ◌<◌}
use native.Mathlib.Omega.{arith}
use borrow.Author.Rules.{rules}
use borrow.Author.Tests.{not-true, not-false}
use Rattle.key.specs.Number.{key_at}
use Rattle.table.specs.Rows.{rows}
use Rattle.table.specs.Seek.{seek}
use Rattle.waiting.specs.Seek.{is_at}
use Rattle.std.specs.Prelude.{Some}
use Rattle.plan_answer.proofs.AnsweringLaws.{place_within, place_key_lem, authority-none, authority-bare, authority-bad, authority-other, authority-right}
use Rattle.plan_answer.proofs.plan_authority.Goals.{In-Some, Start}
use Rattle.plan_answer.proofs.plan_authority.Goals as goal

-- where the inquiry waits
abbrev place : In-Some → ℕ
place c = c.in-Some.at

abbrev start : In-Some → Start
start c = (goal.at.In-Some c).Start

found : (c : In-Some)
    → seek (is_at (start c).args.acked 2) 0 (rows 140 (start c).args.used (start c).args.waiting.now) ≡ Some (place c)
found c = sym c.find.ensures ∙ c.in-Some.is

inside : (c : In-Some) → place c < (start c).args.used
inside c = let a = (start c).args in place_within (is_at a.acked 2) a.used (place c) a.waiting.now (found c)

pub returns-in_default : goal.returns-in_default
returns-in_default c =
    let a = c.args in
    sym (authority-none (rows 140 a.used a.waiting.now) a.held a.used a.verdict (key_at 0 a.key.now) a.acked a.cpa
    (sym c.find.ensures ∙ c.in_default.is))

pub returns-then-not-cpa : goal.returns-then-not-cpa
returns-then-not-cpa c =
    let a = (start (goal.at.returns-then-not-cpa c).In-Some).args in
    sym (authority-bare (rows 140 a.used a.waiting.now) a.held a.used a.verdict (key_at 0 a.key.now) a.acked a.cpa
    (found (goal.at.returns-then-not-cpa c).In-Some) (ap not c.if-not-cpa.true))

pub returns-then-verdict-ne1 : goal.returns-then-verdict-ne1
returns-then-verdict-ne1 c =
    let a = (start (goal.at.returns-then-verdict-ne1 c).In-Some).args in
    sym (authority-bad (rows 140 a.used a.waiting.now) a.held a.used a.verdict (key_at 0 a.key.now) a.acked a.cpa
    (found (goal.at.returns-then-verdict-ne1 c).In-Some) (ap not c.if-not-cpa.false) c.if-verdict-ne1.true)

pub overflow_mul-at : goal.overflow_mul-at
overflow_mul-at c = omega (arith, inside (goal.at.overflow_mul-at c).In-Some)

pub overflow_add-at : goal.overflow_add-at
overflow_add-at c = omega (arith, inside (goal.at.overflow_add-at c).In-Some)

pub same_at-requires : goal.same_at-requires
same_at-requires c = record { a_in_bounds = omega arith; b_in_bounds = omega (arith, inside (goal.at.same_at-requires c).In-Some) }

pub returns-then-not-same_at : goal.returns-then-not-same_at
returns-then-not-same_at c =
    let k = (goal.at.returns-then-not-same_at c).In-Some in
    let a = (start k).args in
    sym (authority-other (rows 140 a.used a.waiting.now) a.held a.used a.verdict (key_at 0 a.key.now) a.acked a.cpa
    (found k) (ap not c.if-not-cpa.false) c.if-verdict-ne1.false
    (place_key_lem (is_at a.acked 2) a.used (place k) a.waiting.now (found k)) (sym c.same_at.ensures ∙ c.if-not-same_at.true))

pub returns : goal.returns
returns c =
    let k = (goal.at.returns c).In-Some in
    let a = (start k).args in
    sym (authority-right (rows 140 a.used a.waiting.now) a.held a.used a.verdict (key_at 0 a.key.now) a.acked a.cpa
    (found k) (ap not c.if-not-cpa.false) c.if-verdict-ne1.false
    (place_key_lem (is_at a.acked 2) a.used (place k) a.waiting.now (found k)) (sym c.same_at.ensures ∙ c.if-not-same_at.false))
