-- `convert::convert` meets its contract: each return follows from the tests before it, by a law of CallLaws. Assumes nothing.
use mathlib.Core.Path.{◌≡◌, sym, ap, ap₂, subst, ◌∙◌}
use mathlib.Core.Bool.{true}
use mathlib.Core.List.{map}
use Prim.Native.Nat.{ℕ}
use lib.ListN.{length}
use Rattle.own.specs.Own.{own_keys}
use Rattle.table.specs.Rows.{rows, bytes_of, Laid}
use Rattle.waiting.specs.Form.{used_of}
use Rattle.convert.specs.Old.{old_own_form, old_held_in, old_cache_form, old_waiting_form}
use Rattle.cut.specs.Cut.{converted, converted_place}
use Rattle.convert.specs.Convert.{convert_handed, convert_done}
use Rattle.convert.proofs.HeldLaws.{good-is, bad-is}
use Rattle.convert.proofs.UsedLaws.{good_form, bad_form}
use Rattle.convert.proofs.CallLaws.{own-bad, cache-bad, table-bad, converts, cache-laid, table-laid}
use Rattle.convert.proofs.convert.Goals.{Else-not-form, In-Some, In-Some-form}
use Rattle.convert.proofs.convert.Goals as goal

-- what each test that was passed says
whole : (c : Else-not-form) → old_own_form c.args.own.now ≡ true
whole c = sym c.form.ensures ∙ c.if-not-form.false

holding : (k : In-Some)
    → (old_cache_form (own_keys k.args.own.now) k.args.cache.now ≡ true)
    × (old_held_in (own_keys k.args.own.now) k.args.cache.now ≡ k.in-Some.held)
holding k =
    let a = k.args in
    good-is (own_keys a.own.now) a.cache.now (sym k.form-2.ensures ∙ k.in-Some.is)

waits : (k : In-Some-form)
    → (old_waiting_form (own_keys k.args.own.now) k.args.waiting.now ≡ true)
    × (k.in-Some-form.used ≡ used_of k.args.waiting.now)
waits k =
    let a = k.args in
    good_form (own_keys a.own.now) a.waiting.now (sym k.form-3.ensures ∙ k.in-Some-form.is)

pub returns-then-not-form : goal.returns-then-not-form
returns-then-not-form c =
    let a = c.args in
    sym (own-bad a.own.now a.cache.now a.waiting.now (sym c.form.ensures ∙ c.if-not-form.true))

pub returns-in_default : goal.returns-in_default
returns-in_default c =
    let a = c.args in
    sym (cache-bad a.own.now a.cache.now a.waiting.now (whole (goal.at.returns-in_default c).Else-not-form)
    (bad-is (own_keys a.own.now) a.cache.now (sym c.form-2.ensures ∙ c.in_default.is)))

pub returns-in_default-form : goal.returns-in_default-form
returns-in_default-form c =
    let k = (goal.at.returns-in_default-form c).In-Some in
    let a = c.args in
    sym (table-bad a.own.now a.cache.now a.waiting.now (whole (goal.at.returns-in_default-form c).Else-not-form) (holding k).0
    (bad_form (own_keys a.own.now) a.waiting.now (sym c.form-3.ensures ∙ c.in_default-form.is)))

pub cut_records-requires : goal.cut_records-requires
cut_records-requires c =
    let k = (goal.at.cut_records-requires c).In-Some in
    let a = c.args in
    subst (λ (n : ℕ). Laid 100 n a.cache.now) (holding k).1 (cache-laid (own_keys a.own.now) a.cache.now (holding k).0)

pub cut_places-requires : goal.cut_places-requires
cut_places-requires c =
    let k = (goal.at.cut_places-requires c).In-Some-form in
    let a = k.args in
    subst (λ (n : ℕ). Laid 140 n a.waiting.now) (sym (waits k).1) (table-laid (own_keys a.own.now) a.waiting.now (waits k).0)

pub returns : goal.returns
unfolding convert_done
returns c =
    let used = (goal.at.returns c).In-Some-form in
    let held = (goal.at.returns c).In-Some in
    let a = c.args in
    ap₂ (convert_handed 0)
    (c.cut_records.ensures
    ∙ ap (λ (n : ℕ). bytes_of (length a.cache.now) (map converted (rows 100 n a.cache.now))) (sym (holding held).1))
    (c.cut_places.ensures
    ∙ ap (λ (n : ℕ). bytes_of (length a.waiting.now) (map converted_place (rows 140 n a.waiting.now))) (waits used).1)
    ∙ sym (converts a.own.now a.cache.now a.waiting.now (whole (goal.at.returns c).Else-not-form) (holding held).0
    (waits used).0)
