use native.Mathlib.Omega.{arith}
use mathlib.Core.Path.{sym, ◌∙◌}
use mathlib.Core.Bool.{true}
use Rattle.wire_shapes.specs.Shapes.{has_shape}
use Rattle.wire_shapes.specs.declared.Shape.TheVariants.{Entry}
use Rattle.wire_fields.proofs.SpanLaws.{span_fits}
use Rattle.wire_fields.proofs.StepLaws.{maybe-good, maybe-bad, maybe-other, maybe-cut}
use Rattle.wire_fields.proofs.Cursor.entry_or_none.Goals as goal

pub is_entry-requires : goal.is_entry-requires
is_entry-requires c =
    let a = c.args in
    let f =
    span_fits a.d.now a.self.at 0x9A true _ _
    (sym c.span.ensures ∙ c.in-Whole.is) in
    omega arith

pub returns-then-is_entry : goal.returns-then-is_entry
unfolding has_shape
returns-then-is_entry c =
    let a = c.args in
    maybe-good a.d.now a.self.at 0x9A true Entry _ c.span.ensures _ _ c.in-Whole.is
    (sym c.is_entry.ensures ∙ c.if-is_entry.true)

pub returns-else-is_entry : goal.returns-else-is_entry
unfolding has_shape
returns-else-is_entry c =
    let a = c.args in
    maybe-bad a.d.now a.self.at 0x9A true Entry _ c.span.ensures _ _ c.in-Whole.is
    (sym c.is_entry.ensures ∙ c.if-is_entry.false)

pub returns-in-Other : goal.returns-in-Other
returns-in-Other c =
    let a = c.args in
    maybe-other a.d.now a.self.at 0x9A true Entry _ c.span.ensures c.in-Other.is

pub returns-in-Cut : goal.returns-in-Cut
returns-in-Cut c =
    let a = c.args in
    maybe-cut a.d.now a.self.at 0x9A true Entry _ c.span.ensures c.in-Cut.is
