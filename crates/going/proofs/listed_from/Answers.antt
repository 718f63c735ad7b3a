use mathlib.Core.Path.{◌≡◌, sym, ap, ◌∙◌}
use mathlib.Core.Bool.{Bool}
use Prim.Native.Nat.{ℕ, ◌+◌, ◌-◌}
use native.Mathlib.Omega.{arith}
use Rattle.kept.specs.Turned.{wrapped}
use Rattle.round.specs.Over.{pass_over}
use Rattle.round.proofs.OverLaws.{over-on, over-here, over-end}
use Rattle.listed.specs.Runs.{in_runs}
use Rattle.going.proofs.listed_from.Goals.{After-is_listed, Start}
use Rattle.going.proofs.listed_from.Goals as goal

-- is the place so many steps on in a list?
abbrev skips : Start → ℕ → Bool
skips s j = let a = s.args in in_runs a.total (wrapped a.total (a.end + j)) a.runs

looked : (c : After-is_listed)
    → (skips (goal.at.After-is_listed c).Start c.loop-i.i ≡ c.is_listed.result)
looked c =
    let a = c.args in
    ap (λ (x : ℕ). in_runs a.total x a.runs) (sym c.wrap.ensures.0) ∙ sym c.is_listed.ensures

pub loop-i-init : goal.loop-i-init
loop-i-init c =
    let e : c.args.most ≡ c.args.most - 0 = omega arith in
    ap (pass_over (skips (goal.at.loop-i-init c).Start) 0) e

pub overflow_add-end : goal.overflow_add-end
overflow_add-end c = omega (arith, c.requires)

pub wrap-requires : goal.wrap-requires
wrap-requires c = omega (arith, c.requires)

pub is_listed-requires : goal.is_listed-requires
is_listed-requires c = let p = c.requires in (c.wrap.ensures.1, p.1, p.2)

pub returns-then-not-is_listed : goal.returns-then-not-is_listed
returns-then-not-is_listed c =
    let e = (goal.at.returns-then-not-is_listed c).After-is_listed in
    let head = c in
    let s = (goal.at.returns-then-not-is_listed c).Start in
    sym (head.loop-i.invariant
    ∙ over-here (skips s) s.args.most head.loop-i.i (omega arith)
    (looked e ∙ c.if-not-is_listed.true))

pub loop-i-preserved : goal.loop-i-preserved
loop-i-preserved c =
    let e = (goal.at.loop-i-preserved c).After-is_listed in
    let head = c in
    let s = (goal.at.loop-i-preserved c).Start in
    head.loop-i.invariant ∙ over-on (skips s) s.args.most head.loop-i.i (omega arith)
    (looked e ∙ c.if-not-is_listed.false)

pub returns : goal.returns
returns c =
    let l = c.loop-i in
    let s = (goal.at.returns c).Start in
    let e : c.args.most ≡ l.i = omega arith in
    e ∙ sym (l.invariant ∙ over-end (skips s) s.args.most l.i (omega arith))
