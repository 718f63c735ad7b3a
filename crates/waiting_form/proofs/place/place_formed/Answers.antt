-- `waiting_form::place::place_formed` meets its contract: its tests are those of its kind, and the first that fails decides. Assumes nothing.
use mathlib.Core.Path.{◌≡◌, refl, sym, ap, ◌∙◌}
use mathlib.Core.Bool.{Bool, true, false, not, ◌&&◌}
use borrow.Author.Tests.{ne_eqb}
use Rattle.record.specs.Record.{record_form}
use Rattle.own.specs.Own.{own_keys}
use Rattle.waiting.specs.Place.{kind_of}
use Rattle.waiting.proofs.PlaceLaws.{flood-is, inquiry-is, neither_is}
use Rattle.waiting_form.proofs.HeadLaws.{is_fresh, stale_is}
use Rattle.waiting_form.proofs.place.place_formed.Goals.{Else-not-is_fresh}
use Rattle.waiting_form.proofs.place.place_formed.Goals as goal

-- behind the first test
fresh : (c : Else-not-is_fresh) → true ≡ is_fresh c.args.place.now
fresh c = sym (c.if-not-is_fresh.false) ∙ c.is_fresh.ensures

pub returns-then-not-is_fresh : goal.returns-then-not-is_fresh
returns-then-not-is_fresh c =
    let a = c.args in
    stale_is (own_keys a.own.now) a.place.now (sym (c.if-not-is_fresh.true) ∙ c.is_fresh.ensures)

pub returns-then-place-eq1 : goal.returns-then-place-eq1
returns-then-place-eq1 c =
    let h = (goal.at.returns-then-place-eq1 c).Else-not-is_fresh in
    let a = c.args in
    ap (λ (t : Bool). t && c.zero_record.result) (fresh h)
    ∙ flood-is record_form (own_keys a.own.now) a.place.now _ c.if-place-eq1.true c.zero_record.ensures

pub returns-then-place-ne2 : goal.returns-then-place-ne2
returns-then-place-ne2 c =
    let a = c.args in
    let kind = kind_of a.place.now in
    neither_is record_form (own_keys a.own.now) a.place.now (ne_eqb kind 1 c.if-place-eq1.false) (ne_eqb kind 2 c.if-place-ne2.true)

pub returns-then-not-is_formed : goal.returns-then-not-is_formed
returns-then-not-is_formed c =
    let h = (goal.at.returns-then-not-is_formed c).Else-not-is_fresh in
    let a = c.args in
    let formed = sym (c.if-not-is_formed.true) ∙ c.is_formed.ensures in
    ap (λ (t : Bool). t && false) (fresh h)
    ∙ inquiry-is record_form (own_keys a.own.now) a.place.now c.if-place-ne2.false formed refl refl

pub returns-then-not-same_at : goal.returns-then-not-same_at
returns-then-not-same_at c =
    let h = (goal.at.returns-then-not-same_at c).Else-not-is_fresh in
    let a = c.args in
    let formed = sym (c.if-not-is_formed.false) ∙ c.is_formed.ensures in
    let keyed = sym (c.if-not-same_at.true) ∙ c.same_at.ensures in
    ap (λ (t : Bool). t && false) (fresh h)
    ∙ inquiry-is record_form (own_keys a.own.now) a.place.now c.if-place-ne2.false formed keyed refl

pub returns : goal.returns
returns c =
    let h = (goal.at.returns c).Else-not-is_fresh in
    let a = c.args in
    let formed = sym (c.if-not-is_formed.false) ∙ c.is_formed.ensures in
    let keyed = sym (c.if-not-same_at.false) ∙ c.same_at.ensures in
    ap (λ (t : Bool). t && not c.is_own-ours.result) (fresh h)
    ∙ inquiry-is record_form (own_keys a.own.now) a.place.now c.if-place-ne2.false formed keyed c.is_own-ours.ensures
