-- `waiting_form::place::zero_record` meets its contract: 64 bytes, twice 16, and four. Assumes nothing.
use mathlib.Core.Path.{sym, ap, ap₂, ◌∙◌}
use mathlib.Core.Bool.{◌&&◌}
use Prim.Native.Nat.{ℕ}
use native.Mathlib.Omega.{arith}
use lib.Dec.{eqb}
use Rattle.octet.specs.Part.{part}
use Rattle.octet.proofs.TestLaws.{zero_two, zero_value}
use Rattle.waiting_form.proofs.place.zero_record.Goals as goal

pub returns : goal.returns
returns c =
    let s = c.args.place.now in
    let rest = ap (λ (n : ℕ). eqb n 0) c.read_u32_le-rest.ensures ∙ zero_value 256 (part 136 4 s) (omega arith) in
    ap₂ ◌&&◌ c.zero_block-most.ensures
    (ap₂ ◌&&◌ c.zero_pair-next.ensures (ap₂ ◌&&◌ c.zero_pair-last.ensures rest ∙ sym (zero_two 120 16 4 s))
    ∙ sym (zero_two 104 16 20 s))
    ∙ sym (zero_two 40 64 36 s)
