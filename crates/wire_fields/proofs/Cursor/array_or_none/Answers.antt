use native.Mathlib.Omega.{arith}
use mathlib.Core.Path.{sym, ◌∙◌}
use Rattle.wire_shapes.specs.Shapes.{has_shape}
use Rattle.wire_shapes.specs.declared.Shape.TheVariants.{Array}
use Rattle.wire_fields.proofs.SpanLaws.{span_fits}
use Rattle.wire_fields.proofs.StepLaws.{maybe-good, maybe-bad, maybe-other, maybe-cut}
use Rattle.wire_fields.proofs.Cursor.array_or_none.Goals as goal

pub is_array-requires : goal.is_array-requires
is_array-requires c =
    let a = c.args in
    let f =
    span_fits a.d.now a.self.at a.number a.padded _ _
    (sym c.span.ensures ∙ c.in-Whole.is) in
    omega arith

pub returns-then-is_array : goal.returns-then-is_array
unfolding has_shape
returns-then-is_array c =
    let a = c.args in
    maybe-good a.d.now a.self.at a.number a.padded (Array a.element a.size a.least a.most) _
    c.span.ensures _ _ c.in-Whole.is
    (sym c.is_array.ensures ∙ c.if-is_array.true)

pub returns-else-is_array : goal.returns-else-is_array
unfolding has_shape
returns-else-is_array c =
    let a = c.args in
    maybe-bad a.d.now a.self.at a.number a.padded (Array a.element a.size a.least a.most) _
    c.span.ensures _ _ c.in-Whole.is
    (sym c.is_array.ensures ∙ c.if-is_array.false)

pub returns-in-Other : goal.returns-in-Other
returns-in-Other c =
    let a = c.args in
    maybe-other a.d.now a.self.at a.number a.padded (Array a.element a.size a.least a.most) _
    c.span.ensures c.in-Other.is

pub returns-in-Cut : goal.returns-in-Cut
returns-in-Cut c =
    let a = c.args in
    maybe-cut a.d.now a.self.at a.number a.padded (Array a.element a.size a.least a.most) _
    c.span.ensures c.in-Cut.is
