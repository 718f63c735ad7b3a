use mathlib.Core.Path.{refl, sym, ◌∙◌}
use Prim.Native.Nat.{◌*◌}
use native.Mathlib.Omega.{arith}
use Rattle.waiting.specs.Seek.{is_at}
use Rattle.table.proofs.SeekLaws.{seek-here, seek-on, seek-end}
use Rattle.waiting.proofs.WalkLaws.{at_is}
use Rattle.waiting.proofs.seek.find.Goals as goal

pub loop-at-init : goal.loop-at-init
loop-at-init c = refl

pub returns-then-this-id : goal.returns-then-this-id
returns-then-this-id c =
    let a = c.args in
    let l = c.loop-at in
    sym (l.invariant ∙ seek-here 140 a.used a.table.now l.at (is_at a.id a.kind) (omega arith)
    (at_is a.id a.kind (140 * l.at) a.table.now c.read_u32_le-this.ensures ∙ c.if-this-id.true))

pub loop-at-preserved : goal.loop-at-preserved
loop-at-preserved c =
    let a = c.args in
    let l = c.loop-at in
    l.invariant ∙ seek-on 140 a.used a.table.now l.at (is_at a.id a.kind) (omega arith)
    (at_is a.id a.kind (140 * l.at) a.table.now c.read_u32_le-this.ensures ∙ c.if-this-id.false)

pub returns : goal.returns
returns c =
    let a = c.args in
    let l = c.loop-at in
    sym (l.invariant ∙ seek-end 140 a.used a.table.now l.at (is_at a.id a.kind) (omega arith))
