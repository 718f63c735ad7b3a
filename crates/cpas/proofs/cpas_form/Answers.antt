use mathlib.Core.Path.{◌≡◌, sym, ap, ◌∙◌}
use mathlib.Core.Bool.{true}
use Prim.Native.Nat.{ℕ, ◌-◌}
use native.Mathlib.Omega.{arith}
use lib.ListN.{drop, length-drop}
use Rattle.cpas.specs.Cpas.{cpa_form, cpas_form}
use Rattle.cpas.proofs.CpaLaws.{Whole, whole, form_turn, form_stop, form_done}
use Rattle.cpas.proofs.cpas_form.Goals.{Else-not-is_cpa}
use Rattle.cpas.proofs.cpas_form.Goals as goal

-- a CPA stands at the place
stands : (c : Else-not-is_cpa) → cpa_form (drop c.loop-i.at c.args.cpas.now) ≡ true
stands c = sym c.is_cpa.ensures ∙ c.if-not-is_cpa.false

inside : (c : Else-not-is_cpa) → Whole (drop c.loop-i.at c.args.cpas.now)
inside c = whole _ (stands c)

pub loop-i-init : goal.loop-i-init
loop-i-init c =
    let a = c.args in
    let all : a.n ≡ a.n - 0 = omega arith in
    (omega arith, ap (λ (m : ℕ). cpas_form m a.cpas.now) all)

pub returns-then-not-is_cpa : goal.returns-then-not-is_cpa
returns-then-not-is_cpa c =
    let a = c.args in
    let l = c.loop-i in
    sym (l.invariant.1 ∙ form_stop a.n l._i l.at a.cpas.now (omega arith) (sym c.is_cpa.ensures ∙ c.if-not-is_cpa.true))

pub size_at-requires : goal.size_at-requires
size_at-requires c =
    let a = c.args in
    let l = c.loop-i in
    omega (arith, (inside (goal.at.size_at-requires c).Else-not-is_cpa).room, length-drop l.at a.cpas.now)

pub loop-i-preserved : goal.loop-i-preserved
loop-i-preserved c =
    let a = c.args in
    let l = c.loop-i in (
      omega (arith, (inside (goal.at.loop-i-preserved c).Else-not-is_cpa).room, c.size_at.ensures.0, length-drop l.at a.cpas.now),
      l.invariant.1 ∙ form_turn a.n l._i l.at a.cpas.now (omega arith) (stands (goal.at.loop-i-preserved c).Else-not-is_cpa) c.size_at.ensures.0,
    )

pub returns : goal.returns
returns c =
    let a = c.args in
    let l = c.loop-i in
    sym (l.invariant.1 ∙ form_done a.n l._i l.at a.cpas.now (omega arith) l.invariant.0)
