-- `runs::remove` meets its contract: the moved part and the cleared one are one replaced part. Assumes nothing.
use mathlib.Core.Path.{ap, ◌∙◌}
use Prim.Native.Nat.{ℕ, ◌+◌, ◌-◌}
use native.Mathlib.Omega.{arith}
use lib.ListN.{replicate, length-replicate}
use Rattle.octet.specs.Part.{part, splice}
use Rattle.octet.proofs.PartLaws.{length_part, splice_next}
use Rattle.runs.proofs.remove.Goals as goal

pub returns : goal.returns
returns c =
    let start = c in
    let at = start.args.at in
    let from = at + start.args.n in
    let s = start.args.s.now in
    let count = start.args.end - from in
    let zeros = replicate {A = ℕ} start.args.n 0 in
    c.clear.ensures
    ∙ ap (splice (at + count) zeros) c.move_down.ensures
    ∙ splice_next at count (part from count s) zeros s (length_part from count s (omega arith))
    (omega (arith, length-replicate {A = ℕ} start.args.n 0))
