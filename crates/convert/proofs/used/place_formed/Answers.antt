-- `convert::used::place_formed` meets its contract: its tests are those of the definition for the place's kind. Assumes nothing.
use mathlib.Core.Path.{ap, ◌∙◌}
use mathlib.Core.Bool.{Bool, not, ◌&&◌}
use borrow.Author.Tests.{ne_eqb}
use Rattle.own.specs.Own.{own_keys}
use Rattle.waiting.specs.Place.{kind_of}
use Rattle.waiting.proofs.PlaceLaws.{flood-is, inquiry-is, neither_is}
use Rattle.convert.specs.Old.{old_record_form}
use Rattle.convert.proofs.used.place_formed.Goals.{After-is_fresh-head, Start}
use Rattle.convert.proofs.used.place_formed.Goals as goal

abbrev start : After-is_fresh-head → Start
start h = (goal.at.After-is_fresh-head h).Start

pub returns-then-place-eq1 : goal.returns-then-place-eq1
returns-then-place-eq1 c =
    let h = (goal.at.returns-then-place-eq1 c).After-is_fresh-head in
    let a = (start h).args in
    ap (λ (t : Bool). t && c.zero_record.result) h.is_fresh-head.ensures
    ∙ flood-is old_record_form (own_keys a.own.now) a.place.now _ c.if-place-eq1.true c.zero_record.ensures

pub returns-then-place-ne2 : goal.returns-then-place-ne2
returns-then-place-ne2 c =
    let a = (start (goal.at.returns-then-place-ne2 c).After-is_fresh-head).args in
    let kind = kind_of a.place.now in
    neither_is old_record_form (own_keys a.own.now) a.place.now (ne_eqb kind 1 c.if-place-eq1.false) (ne_eqb kind 2 c.if-place-ne2.true)

pub returns : goal.returns
returns c =
    let kind = c in
    let h = (goal.at.returns c).After-is_fresh-head in
    let a = (start h).args in
    ap (λ (t : Bool). t && (c.is_formed-formed.result && c.same_at-keyed.result && not c.is_own-ours.result)) h.is_fresh-head.ensures
    ∙ inquiry-is old_record_form (own_keys a.own.now) a.place.now kind.if-place-ne2.false c.is_formed-formed.ensures c.same_at-keyed.ensures
    c.is_own-ours.ensures
