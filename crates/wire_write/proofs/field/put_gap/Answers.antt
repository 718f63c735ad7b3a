-- `wire_write::field::put_gap` meets its contract: as many zeros as the padding says. Assumes nothing.
use Prim.Native.Nat.{ℕ, ◌+◌}
use mathlib.Core.Path.{ap, ◌∙◌}
use lib.ListN.{replicate}
use Rattle.octet.specs.Part.{splice}
use Rattle.wire_write.proofs.field.put_gap.Goals as goal

pub returns : goal.returns
returns c =
    let a = c.args in
    let e = c.padding-n.ensures.value in
    record { value = ap (λ (n : ℕ). a.end + n) e; out_after = c.clear.ensures ∙ ap (λ (n : ℕ). splice a.end (replicate n 0) a.out.now) e }
