-- `waiting_form::tested::key_again` meets its contract: an inquiry's key is that of a later one where the walk finds one. Assumes nothing.
use Prim.Native.Nat.{◌+◌, ◌*◌}
use lib.ListN.{drop}
use Rattle.std.specs.Prelude.{is_some}
use Rattle.octet.specs.Part.{part}
use Rattle.table.specs.Rows.{rows}
use Rattle.waiting.specs.Form.{again}
use mathlib.Core.Path.{◌≡◌, sym, ◌∙◌}
use Rattle.waiting.proofs.WalkLaws.{again-not, again-found}
use Rattle.waiting_form.proofs.tested.key_again.Goals.{After-find_inquiry, Start}
use Rattle.waiting_form.proofs.tested.key_again.Goals as goal

-- where the function began
abbrev from : After-find_inquiry → Start
from c = (goal.at.After-find_inquiry c).Start

-- what the walk found says whether the key is there again
walked : (c : After-find_inquiry)
    → again (part (140 * (from c).args.at) 140 (from c).args.table.now)
    (drop ((from c).args.at + 1) (rows 140 (from c).args.used (from c).args.table.now))
    ≡ is_some c.find_inquiry.result
walked c =
    let a = c.args in
    again-found a.used a.table.now a.at c.if-table-from-ne2.false c.find_inquiry.ensures

pub returns-then-table-from-ne2 : goal.returns-then-table-from-ne2
returns-then-table-from-ne2 c =
    let a = c.args in
    sym (again-not a.used a.table.now a.at c.if-table-from-ne2.true)

pub returns : goal.returns
returns c = c.is_some.ensures ∙ sym (walked (goal.at.returns c).After-find_inquiry)
