-- `octet::read_u32` meets its contract: the four bytes the other way round. Assumes nothing.
use mathlib.Core.Path.{ap, ◌∙◌}
use native.Mathlib.Omega.{arith}
use Rattle.octet.proofs.LittleLaws.{swapped_of, swap_part}
use Rattle.octet.proofs.big.read_u32.Goals as goal

pub returns : goal.returns
returns c =
    let start = c in
    let known = c in
    c.swapped.ensures ∙ ap swapped_of c.read_u32_le.ensures
    ∙ swap_part start.args.at start.args.s.now (λ i. omega (arith, known.type_inv.s i)) start.requires
