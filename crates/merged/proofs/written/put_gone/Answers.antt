-- `merged::written::put_gone` meets its contract: three pieces, one behind the other. Assumes nothing.
use mathlib.Core.Path.{ap, ◌∙◌}
use Prim.Native.Nat.{◌+◌, ◌*◌}
use native.Mathlib.Omega.{arith}
use lib.ListN.{replicate}
use Rattle.octet.specs.Part.{part, splice}
use Rattle.merged.proofs.WriteLaws.{gone_piece}
use Rattle.merged.proofs.written.put_gone.Goals as goal

pub returns : goal.returns
returns c =
    let cleared = c in
    let copied = c in
    let marked = c in
    let a = marked.args in
    cleared.clear.ensures
    ∙ ap (splice (a.at + 33) (replicate 68 0)) (copied.copy_block.ensures ∙ ap (splice (a.at + 1) (part (100 * a.i) 32 a.«before».now)) marked.copy_to.ensures)
    ∙ gone_piece a.at a.i a.«before».now a.output.now (omega arith) (omega arith)
