use mathlib.Core.Path.{refl, sym, ◌∙◌}
use Prim.Native.Nat.{◌*◌}
use native.Mathlib.Omega.{arith}
use borrow.Author.Tests.{eq-eqb, ne_eqb}
use Rattle.octet.specs.Part.{part}
use Rattle.waiting.specs.Place.{id_of}
use Rattle.waiting.specs.Seek.{has_id}
use Rattle.waiting.proofs.PlaceLaws.{id-at}
use Rattle.table.proofs.SeekLaws.{any_here, any-on, any_end}
use Rattle.waiting.proofs.seek.has_id.Goals as goal

pub loop-at-init : goal.loop-at-init
loop-at-init c = refl

pub returns-then-this-id : goal.returns-then-this-id
returns-then-this-id c =
    let a = c.args in
    let l = c.loop-at in
    let is = id-at (140 * l.at) a.table.now ∙ sym c.read_u32_le-this.ensures in
    sym (l.invariant ∙ any_here 140 a.used a.table.now l.at (has_id a.id) (omega arith)
    (eq-eqb (id_of (part (140 * l.at) 140 a.table.now)) a.id (is ∙ c.if-this-id.true)))

pub loop-at-preserved : goal.loop-at-preserved
loop-at-preserved c =
    let a = c.args in
    let l = c.loop-at in
    let is = id-at (140 * l.at) a.table.now ∙ sym c.read_u32_le-this.ensures in
    l.invariant ∙ any-on 140 a.used a.table.now l.at (has_id a.id) (omega arith)
    (ne_eqb (id_of (part (140 * l.at) 140 a.table.now)) a.id (λ e. c.if-this-id.false (sym is ∙ e)))

pub returns : goal.returns
returns c =
    let a = c.args in
    let l = c.loop-at in
    sym (l.invariant ∙ any_end 140 a.used a.table.now l.at (has_id a.id) (omega arith))
