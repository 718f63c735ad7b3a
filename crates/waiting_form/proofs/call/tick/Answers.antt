-- `waiting_form::call::tick` meets its contract: each return follows from the tests before it, by a law of CallLaws. Assumes nothing.
use Rattle.waiting.specs.Form.{waiting_form, used_of}
use mathlib.Core.Path.{◌≡◌, sym, subst, ◌∙◌}
use Prim.Native.Nat.{ℕ}
use Rattle.table.specs.Rows.{Laid}
use mathlib.Core.Bool.{true}
use native.Mathlib.Omega.{arith}
use Rattle.own.specs.Own.{own_keys, own_form}
use Rattle.waiting_form.specs.Call.{tick_done}
use Rattle.waiting.proofs.FormLaws.{form-size, form_laid, used_few}
use Rattle.waiting_form.proofs.FormedLaws.{bad_form, good_form}
use Rattle.waiting_form.proofs.CallLaws.{own-bad, table-bad, no_room, ticks}
use Rattle.waiting_form.proofs.call.tick.Goals.{Else-not-own_form, In-Some}
use Rattle.waiting_form.proofs.call.tick.Goals as goal

-- the table is in form where the form test said so, and its count is the table's
counted : (c : In-Some)
    → (waiting_form (own_keys c.args.own.now) c.args.table.now ≡ true)
    × (c.in-Some.used ≡ used_of c.args.table.now)
counted c =
    let a = c.args in
    good_form (own_keys a.own.now) a.table.now (sym c.form.ensures ∙ c.in-Some.is)

-- the own record is in form where the test let it pass
whole : (c : Else-not-own_form) → own_form c.args.own.now ≡ true
whole c = sym c.own_form.ensures ∙ c.if-not-own_form.false

pub returns-then-not-own_form : goal.returns-then-not-own_form
returns-then-not-own_form c =
    let a = c.args in
    sym (own-bad a.own.now a.table.now a.output.now (sym c.own_form.ensures ∙ c.if-not-own_form.true))

pub returns-in_default : goal.returns-in_default
returns-in_default c =
    let a = c.args in
    sym (table-bad a.own.now a.table.now a.output.now (whole (goal.at.returns-in_default c).Else-not-own_form)
    (bad_form (own_keys a.own.now) a.table.now (sym c.form.ensures ∙ c.in_default.is)))

pub returns-then-output-lt64 : goal.returns-then-output-lt64
returns-then-output-lt64 c =
    let known = (goal.at.returns-then-output-lt64 c).In-Some in
    let a = c.args in
    let good = whole (goal.at.returns-then-output-lt64 c).Else-not-own_form in
    sym (no_room a.own.now a.table.now a.output.now good (counted known).0 (omega arith))

pub tick_places-count-requires : goal.tick_places-count-requires
tick_places-count-requires c =
    let a = c.args in
    let good = counted (goal.at.tick_places-count-requires c).In-Some in (
      omega (arith, good.1, used_few a.table.now),
      form-size (own_keys a.own.now) a.table.now good.0,
      omega arith,
      subst (λ (n : ℕ). Laid 140 n a.table.now) (sym good.1) (form_laid (own_keys a.own.now) a.table.now good.0),
    )

pub returns : goal.returns
unfolding tick_done
returns c =
    let a = c.args in
    let good = counted (goal.at.returns c).In-Some in
    rw (c.tick_places-count.ensures.0, c.tick_places-count.ensures.1, c.tick_places-count.ensures.2, good.1)
    (sym (ticks a.own.now a.table.now a.output.now (whole (goal.at.returns c).Else-not-own_form) good.0 (omega arith)))
