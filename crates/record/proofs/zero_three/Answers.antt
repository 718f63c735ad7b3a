-- `record::zero_three` meets its contract: 24 bytes are zero where three words are. Assumes nothing.
use mathlib.Core.Path.{ap₂, ◌∙◌}
use mathlib.Core.Bool.{Bool, ◌&&◌}
use Prim.Native.Nat.{ℕ}
use lib.Dec.{eqb}
use Rattle.record.proofs.PlaceLaws.{zero-words-three}
use Rattle.record.proofs.zero_three.Goals as goal

pub returns : goal.returns
returns c =
    let a = c.args in
    ap₂ (λ (t : Bool) (n : ℕ). t && eqb n 0)
    (ap₂ (λ (x y : ℕ). eqb x 0 && eqb y 0) c.read_u64_le-x.ensures c.read_u64_le-y.ensures)
    c.read_u64_le-z.ensures
    ∙ zero-words-three a.at a.s.now
