use native.Mathlib.Omega.{arith}
use mathlib.Core.Path.{sym, ◌∙◌}
use mathlib.Core.Bool.{false}
use Rattle.wire_shapes.specs.Shapes.{has_shape}
use Rattle.wire_shapes.specs.declared.Shape.TheVariants.{Split}
use Rattle.wire_fields.proofs.SpanLaws.{span_fits}
use Rattle.wire_fields.proofs.StepLaws.{need-good, need-bad, need-other, need-cut}
use Rattle.wire_fields.proofs.Cursor.split.Goals as goal

pub is_split-requires : goal.is_split-requires
is_split-requires c =
    let a = c.args in
    let f =
    span_fits a.d.now a.self.at 0x98 false _ _
    (sym c.span.ensures ∙ c.in-Whole.is) in
    omega arith

pub returns-then-is_split : goal.returns-then-is_split
unfolding has_shape
returns-then-is_split c =
    let a = c.args in
    need-good a.d.now a.self.at 0x98 false Split _ c.span.ensures _ _ c.in-Whole.is
    (sym c.is_split.ensures ∙ c.if-is_split.true)

pub returns-else-is_split : goal.returns-else-is_split
unfolding has_shape
returns-else-is_split c =
    let a = c.args in
    need-bad a.d.now a.self.at 0x98 false Split _ c.span.ensures _ _ c.in-Whole.is
    (sym c.is_split.ensures ∙ c.if-is_split.false)

pub returns-in-Other : goal.returns-in-Other
returns-in-Other c =
    let a = c.args in
    need-other a.d.now a.self.at 0x98 false Split _ c.span.ensures c.in-Other.is

pub returns-in-Cut : goal.returns-in-Cut
returns-in-Cut c =
    let a = c.args in
    need-cut a.d.now a.self.at 0x98 false Split _ c.span.ensures c.in-Cut.is
