-- `octet::zero_pair` meets its contract: 16 bytes are zero where two words are. Assumes nothing.
use mathlib.Core.Path.{sym, ap₂, ◌∙◌}
use mathlib.Core.Bool.{◌&&◌}
use Prim.Native.Nat.{ℕ}
use lib.Dec.{eqb}
use Rattle.octet.proofs.TestLaws.{zero-words_two}
use Rattle.octet.proofs.same.zero_pair.Goals as goal

pub returns : goal.returns
returns c =
    let start = c in
    ap₂ (λ (x y : ℕ). eqb x 0 && eqb y 0) c.read_u64_le-x.ensures c.read_u64_le-y.ensures
    ∙ sym (zero-words_two start.args.at start.args.s.now)
