use mathlib.Core.Path.{◌≡◌, ap}
use lib.ListN.{length}
use native.Mathlib.Omega.{arith}
use Rattle.table.specs.Rows.{rows}
use Rattle.changed.specs.Changes.{changes}
use Rattle.merged.proofs.StepLaws.{Rest, Stepped, stepped, rest_all, rest-none}
use Rattle.merged.proofs.merge.count.Goals.{After-step-next}
use Rattle.merged.proofs.merge.count.Goals as goal

pub loop-i-init : goal.loop-i-init
loop-i-init c =
    let a = c.args in
    let all : length (Rest a.«before».now a.used a.«after».now a.held 0 0) ≡ length (changes (rows 100 a.used a.«before».now) (rows 100 a.held a.«after».now)) =
    ap length (rest_all a.«before».now a.used a.«after».now a.held) in
    (omega arith, omega arith, omega arith, omega (arith, all))

-- a step that was made
by : (p : After-step-next)
    → (let a = p.args in Stepped a.«before».now a.used a.«after».now a.held p.loop-i.i p.loop-i.j p.step-next.result)
by p =
    let a = p.args in
    stepped a.«before».now a.used a.«after».now a.held (λ k. omega (arith, p.type_inv.before k)) (omega arith) (omega arith)
    p.loop-i.i p.loop-i.j p.step-next.result p.step-next.ensures (omega arith) (omega arith) (omega arith)

pub overflow_add-i-in-loop-i : goal.overflow_add-i-in-loop-i
overflow_add-i-in-loop-i c = omega (arith, (by (goal.at.overflow_add-i-in-loop-i c).After-step-next).old-within)

pub overflow_add-j : goal.overflow_add-j
overflow_add-j c = omega (arith, (by (goal.at.overflow_add-j c).After-step-next).new-within)

pub overflow_add-n : goal.overflow_add-n
overflow_add-n c = let t = by (goal.at.overflow_add-n c).After-step-next in omega (arith, t.few, t.onward, t.old-within, t.new-within)

pub loop-i-smaller : goal.loop-i-smaller
loop-i-smaller c = let t = by (goal.at.loop-i-smaller c).After-step-next in omega (arith, t.onward, t.old-within, t.new-within)

pub loop-i-preserved : goal.loop-i-preserved
loop-i-preserved c =
    let p = (goal.at.loop-i-preserved c).After-step-next in
    let t = by p in
    (t.old-within, t.new-within, omega (arith, t.few, t.onward, p.loop-i.invariant.2), omega (arith, t.counted, p.loop-i.invariant.3))

pub returns : goal.returns
returns c =
    let l = c in
    let a = l.args in
    let none : length (Rest a.«before».now a.used a.«after».now a.held l.loop-i.i l.loop-i.j) ≡ 0 =
    ap length (rest-none a.«before».now a.used a.«after».now a.held l.loop-i.i l.loop-i.j (omega arith) (omega arith)) in
    omega (arith, none, l.loop-i.invariant.3)
