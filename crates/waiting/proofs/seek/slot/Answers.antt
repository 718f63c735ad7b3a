use mathlib.Core.Path.{sym, ◌∙◌}
use Prim.Native.Nat.{◌*◌}
use native.Mathlib.Nat.{zero-add}
use native.Mathlib.Omega.{arith}
use Rattle.table.specs.Rows.{rows}
use Rattle.waiting.specs.Slot.{slot_in}
use Rattle.waiting.proofs.PlaceLaws.{id-at}
use Rattle.waiting.proofs.WalkLaws.{slot-here, slot-on, slot-end}
use Rattle.waiting.proofs.seek.slot.Goals as goal

pub loop-at-init : goal.loop-at-init
loop-at-init c =
    let a = c.args in
    sym (zero-add (slot_in a.id (rows 140 a.used a.table.now)))

pub returns-then-id-this : goal.returns-then-id-this
returns-then-id-this c =
    let a = c.args in
    let l = c.loop-at in
    let is = id-at (140 * l.at) a.table.now ∙ sym c.read_u32_le-this.ensures in
    sym (l.invariant ∙ slot-here a.used a.table.now l.at a.id (omega arith) (omega (arith, is)))

pub loop-at-preserved : goal.loop-at-preserved
loop-at-preserved c =
    let a = c.args in
    let l = c.loop-at in
    let is = id-at (140 * l.at) a.table.now ∙ sym c.read_u32_le-this.ensures in
    l.invariant ∙ slot-on a.used a.table.now l.at a.id (omega arith) (omega (arith, is))

pub returns : goal.returns
returns c =
    let a = c.args in
    let l = c.loop-at in
    omega (arith, l.invariant, slot-end a.used a.table.now l.at a.id (omega arith))
