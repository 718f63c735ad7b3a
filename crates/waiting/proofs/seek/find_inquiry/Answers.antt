use mathlib.Core.Path.{refl, sym, ◌∙◌}
use native.Mathlib.Omega.{arith}
use Rattle.key.specs.Number.{key_at}
use Rattle.waiting.specs.Form.{is_inquiry}
use Rattle.table.proofs.SeekLaws.{seek-here, seek-on, seek-end}
use Rattle.waiting.proofs.seek.find_inquiry.Goals as goal

pub loop-at-init : goal.loop-at-init
loop-at-init c = refl

pub is_inquiry-requires : goal.is_inquiry-requires
is_inquiry-requires c = (omega arith, omega arith)

pub returns-then-is_inquiry : goal.returns-then-is_inquiry
returns-then-is_inquiry c =
    let l = c in
    let a = l.args in
    let k = key_at a.place a.key.now in
    sym (l.loop-at.invariant ∙ seek-here 140 a.used a.table.now l.loop-at.at (is_inquiry k) (omega arith)
    (sym c.is_inquiry.ensures ∙ c.if-is_inquiry.true))

pub loop-at-preserved : goal.loop-at-preserved
loop-at-preserved c =
    let l = c in
    let a = l.args in
    let k = key_at a.place a.key.now in
    l.loop-at.invariant ∙ seek-on 140 a.used a.table.now l.loop-at.at (is_inquiry k) (omega arith)
    (sym c.is_inquiry.ensures ∙ c.if-is_inquiry.false)

pub returns : goal.returns
returns c =
    let a = c.args in
    let l = c.loop-at in
    sym (l.invariant ∙ seek-end 140 a.used a.table.now l.at (is_inquiry (key_at a.place a.key.now)) (omega arith))
