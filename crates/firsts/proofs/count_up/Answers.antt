-- `firsts::count_up` meets its contract: the byte's count is read, and written again. Assumes nothing.
use mathlib.Core.Path.{ap, ◌∙◌}
use Prim.Native.Nat.{ℕ, ◌+◌}
use Rattle.firsts.specs.Places.{with_count}
use Rattle.firsts.proofs.count_up.Goals as goal

pub returns : goal.returns
returns c =
    let read = c in
    let a = read.args in
    c.write_u16_le.ensures ∙ ap (λ (n : ℕ). with_count a.byte (n + 1) a.firsts.now) read.read_u16_le-n.ensures
