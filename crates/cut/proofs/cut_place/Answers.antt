-- `cut::cut_place` meets its contract: the place of an inquiry has its record cut (place_at), another stays (place-stays). Assumes nothing.
use mathlib.Core.Path.{◌∙◌}
use Rattle.cut.proofs.CutLaws.{place_at, place_stays}
use Rattle.cut.proofs.cut_place.Goals as goal

pub returns-then-table-at-ne2 : goal.returns-then-table-at-ne2
returns-then-table-at-ne2 c =
    let s = c in
    place_stays s.args.at s.args.table.now s.requires c.if-table-at-ne2.true

pub returns : goal.returns
returns c =
    let left = c in
    let s = c in
    c.cut_record.ensures ∙ place_at s.args.at s.args.table.now s.requires left.if-table-at-ne2.false
