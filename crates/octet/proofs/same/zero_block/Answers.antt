-- `octet::zero_block` meets its contract: four times 16 bytes. Assumes nothing.
use mathlib.Core.Path.{sym, ap₂, ◌∙◌}
use mathlib.Core.Bool.{◌&&◌}
use Rattle.octet.proofs.TestLaws.{zero_four}
use Rattle.octet.proofs.same.zero_block.Goals as goal

pub returns : goal.returns
returns c =
    let start = c in
    ap₂ ◌&&◌ (ap₂ ◌&&◌ c.zero_pair-a.ensures c.zero_pair-b.ensures)
    (ap₂ ◌&&◌ c.zero_pair-c.ensures c.zero_pair-d.ensures)
    ∙ sym (zero_four start.args.at start.args.s.now)
