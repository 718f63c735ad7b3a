-- `gauge_plan::memory::survey` meets its contract: own record, cache and waiting table, each by its own test. Assumes nothing.
use mathlib.Core.Path.{◌≡◌, sym, ◌∙◌}
use mathlib.Core.Bool.{true}
use Rattle.own.specs.Own.{own_form}
use Rattle.gauge_plan.proofs.MemoryLaws.{no_record, no-cache, no_table, all_fit}
use Rattle.gauge_plan.proofs.memory.survey.Goals.{Else-not-is_own_formed}
use Rattle.gauge_plan.proofs.memory.survey.Goals as goal

well : (c : Else-not-is_own_formed) → own_form c.args.own.now ≡ true
well c = sym c.is_own_formed.ensures ∙ c.if-not-is_own_formed.false

pub returns-then-not-is_own_formed : goal.returns-then-not-is_own_formed
returns-then-not-is_own_formed c m =
    let a = c.args in
    sym (no_record a.own.now _ (sym c.is_own_formed.ensures ∙ c.if-not-is_own_formed.true))

pub returns-in_default : goal.returns-in_default
returns-in_default c m =
    let e = (goal.at.returns-in_default c).Else-not-is_own_formed in
    sym (no-cache c.args.own.now _ (well e) (sym c.form.ensures ∙ c.in_default.is))

pub returns-in_default-form : goal.returns-in_default-form
returns-in_default-form c m =
    let e = (goal.at.returns-in_default-form c).Else-not-is_own_formed in
    sym (no_table c.args.own.now _ (well e) (sym c.form.ensures ∙ c.in-Some.is) (sym c.form-2.ensures ∙ c.in_default-form.is))

pub returns : goal.returns
returns c m =
    let e = (goal.at.returns c).Else-not-is_own_formed in
    sym (all_fit c.args.own.now _ (well e) (sym c.form.ensures ∙ c.in-Some.is) (sym c.form-2.ensures ∙ c.in-Some-form.is))
