-- `merged::written::put_held` meets its contract: two pieces, one behind the other. Assumes nothing.
use mathlib.Core.Path.{ap, ◌∙◌}
use Prim.Native.Nat.{◌+◌, ◌*◌}
use native.Mathlib.Omega.{arith}
use Rattle.octet.specs.Part.{part, splice}
use Rattle.merged.proofs.WriteLaws.{held_piece}
use Rattle.merged.proofs.written.put_held.Goals as goal

pub returns : goal.returns
returns c =
    let copied = c in
    let marked = c in
    let a = marked.args in
    copied.copy_piece.ensures
    ∙ ap (splice (a.at + 1) (part (100 * a.j) 100 a.«after».now)) marked.copy_to.ensures
    ∙ held_piece a.at a.kind a.j a.«after».now a.output.now (omega arith) (omega arith)
