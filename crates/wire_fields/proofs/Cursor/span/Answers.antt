use native.Mathlib.Omega.{arith}
use mathlib.Core.Path.{sym}
use Rattle.wire_fields.proofs.SpanLaws.{span-short, span-other, span-low, span-past, span-whole}
use Rattle.wire_fields.proofs.Cursor.span.Goals as goal

pub returns-then-d-lt4 : goal.returns-then-d-lt4
returns-then-d-lt4 c = let a = c.args in sym (span-short a.d.now a.self.at a.number a.padded (omega arith))

pub returns-then-d-at : goal.returns-then-d-at
returns-then-d-at c = let a = c.args in sym (span-short a.d.now a.self.at a.number a.padded (omega arith))

pub returns-then-two-number : goal.returns-then-two-number
returns-then-two-number c =
    let a = c.args in
    sym (span-other a.d.now a.self.at a.number a.padded (omega arith) (omega arith))

pub returns-then-whole-lt4 : goal.returns-then-whole-lt4
returns-then-whole-lt4 c =
    let a = c.args in
    sym (span-low a.d.now a.self.at a.number a.padded (omega arith) (omega arith) (omega arith))

pub returns-then-d-next : goal.returns-then-d-next
returns-then-d-next c =
    let a = c.args in
    sym (span-past a.d.now a.self.at a.number a.padded _ _ c.two-whole.ensures
    c.padding.ensures.value (omega arith) (omega arith) (omega arith) (omega arith))

pub returns : goal.returns
returns c =
    let a = c.args in
    sym (span-whole a.d.now a.self.at a.number a.padded _ _ c.two-whole.ensures
    c.padding.ensures.value (omega arith) (omega arith) (omega arith) (omega arith))
