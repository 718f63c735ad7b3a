-- `gauge_closest` meets its contract: what the search answers, with its place in 32 bits. Assumes nothing.
use mathlib.Core.Path.{◌≡◌, sym, ap, ap₂, ◌∙◌, subst}
use mathlib.Core.Bool.{true}
use Prim.Native.Nat.{ℕ, ◌+◌, ◌/◌, ◌≤◌, ◌<◌}
use native.Mathlib.Omega.{arith}
use lib.ListN.{length}
use borrow.Author.Tests.{not-false}
use borrow.Author.Rules.{rules}
use Rattle.std.specs.Prelude.{Result, Ok}
use Rattle.own.specs.Own.{own_keys}
use Rattle.own.proofs.FormLaws.{own_formed}
use Rattle.table.proofs.RowLaws.{rows-length}
use Rattle.cache.proofs.FormLaws.{true_form}
use Rattle.neighbours.specs.Calls.{Shown, shown_by, Inside, closest_call}
use Rattle.neighbours.specs.declared.nearest.Spot.{Spot}
use Rattle.neighbours.proofs.CallLaws.{closest-passes}
use Rattle.gauge_commit.specs.Sending.{answer}
use Rattle.gauge.specs.Nearest.{closest_answered, nearest_call, gauge_closest}
use Rattle.gauge.proofs.NearestLaws.{nearest-is}
use Rattle.gauge.proofs.SearchLaws.{closest_few}
use Rattle.gauge.proofs.gauge_closest.Goals.{After-closest_record-sighted, In-Ok-Held, In-Ok-Own, Start}
use Rattle.gauge.proofs.gauge_closest.Goals as goal

abbrev start : After-closest_record-sighted → Start
start c = (goal.at.After-closest_record-sighted c).Start

-- what was found, by what it is
found : (c : After-closest_record-sighted) {r : Result Spot ℕ} → c.closest_record-sighted.result.nearest ≡ r
    → (let a = (start c).args in
    closest_answered c.closest_record-sighted.result.compared r ≡ gauge_closest a.own.now a.cache.now a.path.now a.target.now)
found c e =
    let a = (start c).args in
    ap₂ closest_answered c.closest_record-sighted.ensures.compared_value
    (sym e ∙ nearest-is a.own.now a.cache.now a.path.now a.target.now c.closest_record-sighted.result.nearest
    c.closest_record-sighted.ensures.nearest_value c.closest_record-sighted.ensures.inside)

-- at most nine keys were compared
counted : (c : After-closest_record-sighted) → c.closest_record-sighted.result.compared ≤ 9
counted c =
    let a = (start c).args in
    omega (arith, c.closest_record-sighted.ensures.compared_value, (closest_few a.own.now a.cache.now a.path.now a.target.now).1)

-- a place of our own is one of four
few-own : (c : In-Ok-Own) → c.in-Ok-Own.i < 4
few-own c =
    let r = (goal.at.In-Ok-Own c).After-closest_record-sighted in
    let a = (start r).args in
    let e = c.in-Ok-Own.is ∙ ap Ok (rw c.in-Ok-Own.is at c.in-Ok-Own.field-0-is) in
    let inside = subst (Inside a.own.now a.cache.now) e r.closest_record-sighted.ensures.inside in
    let accepted = ap (λ (h : Shown). h.number) (sym r.closest_record-sighted.ensures.nearest_value ∙ ap (shown_by a.own.now a.cache.now) e) in
    let passes = closest-passes a.own.now a.cache.now a.path.now a.target.now accepted in
    let most = (own_formed a.own.now (not-false _ passes.0)).most in
    omega (arith, inside, most, rows-length 100 (length a.own.now / 100) a.own.now)

-- a place of the cache is one of 256
few : (c : In-Ok-Held) → c.in-Ok-Held.i < 256
few c =
    let r = (goal.at.In-Ok-Held c).After-closest_record-sighted in
    let a = (start r).args in
    let e = c.in-Ok-Held.is ∙ ap Ok (rw c.in-Ok-Held.is at c.in-Ok-Held.field-0-is) in
    let inside = subst (Inside a.own.now a.cache.now) e r.closest_record-sighted.ensures.inside in
    let accepted = ap (λ (h : Shown). h.number) (sym r.closest_record-sighted.ensures.nearest_value ∙ ap (shown_by a.own.now a.cache.now) e) in
    let passes = closest-passes a.own.now a.cache.now a.path.now a.target.now accepted in
    let most = (true_form (own_keys a.own.now) a.cache.now (not-false _ passes.1.0)).places.most in
    omega (arith, inside.1, most)

pub answer_of-requires-in-Ok-Own : goal.answer_of-requires-in-Ok-Own
answer_of-requires-in-Ok-Own c = (omega (arith, few-own (goal.at.answer_of-requires-in-Ok-Own c).In-Ok-Own), omega (arith, counted (goal.at.answer_of-requires-in-Ok-Own c).After-closest_record-sighted))

pub overflow_add-i : goal.overflow_add-i
overflow_add-i c = omega (arith, few (goal.at.overflow_add-i c).In-Ok-Held)

pub answer_of-requires-in-Ok-Held : goal.answer_of-requires-in-Ok-Held
answer_of-requires-in-Ok-Held c = (omega (arith, few (goal.at.answer_of-requires-in-Ok-Held c).In-Ok-Held), omega (arith, counted (goal.at.answer_of-requires-in-Ok-Held c).After-closest_record-sighted))

pub returns-in-Err : goal.returns-in-Err
returns-in-Err c = c.answer_of.ensures ∙ found (goal.at.returns-in-Err c).After-closest_record-sighted c.in-Err.is

pub returns-in-Ok-Own : goal.returns-in-Ok-Own
returns-in-Ok-Own c = c.answer_of-in-Ok-Own.ensures ∙ found (goal.at.returns-in-Ok-Own c).After-closest_record-sighted (c.in-Ok-Own.is ∙ ap Ok (rw c.in-Ok-Own.is at c.in-Ok-Own.field-0-is))

pub returns-in-Ok-Held : goal.returns-in-Ok-Held
returns-in-Ok-Held c = c.answer_of-in-Ok-Held.ensures ∙ found (goal.at.returns-in-Ok-Held c).After-closest_record-sighted (c.in-Ok-Held.is ∙ ap Ok (rw c.in-Ok-Held.is at c.in-Ok-Held.field-0-is))
