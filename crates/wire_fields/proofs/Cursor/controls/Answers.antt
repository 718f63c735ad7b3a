use native.Mathlib.Omega.{arith}
use mathlib.Core.Path.{sym, ◌∙◌}
use mathlib.Core.Bool.{false}
use Rattle.wire_shapes.specs.Shapes.{has_shape}
use Rattle.wire_shapes.specs.declared.Shape.TheVariants.{Lookup}
use Rattle.wire_fields.proofs.SpanLaws.{span_fits}
use Rattle.wire_fields.proofs.StepLaws.{need-good, need-bad, need-other, need-cut}
use Rattle.wire_fields.proofs.Cursor.controls.Goals as goal

pub is_lookup-requires : goal.is_lookup-requires
is_lookup-requires c =
    let a = c.args in
    let f =
    span_fits a.d.now a.self.at 0x45 false _ _
    (sym c.span.ensures ∙ c.in-Whole.is) in
    omega arith

pub returns-then-is_lookup : goal.returns-then-is_lookup
unfolding has_shape
returns-then-is_lookup c =
    let a = c.args in
    need-good a.d.now a.self.at 0x45 false Lookup _ c.span.ensures _ _ c.in-Whole.is
    (sym c.is_lookup.ensures ∙ c.if-is_lookup.true)

pub returns-else-is_lookup : goal.returns-else-is_lookup
unfolding has_shape
returns-else-is_lookup c =
    let a = c.args in
    need-bad a.d.now a.self.at 0x45 false Lookup _ c.span.ensures _ _ c.in-Whole.is
    (sym c.is_lookup.ensures ∙ c.if-is_lookup.false)

pub returns-in-Other : goal.returns-in-Other
returns-in-Other c =
    let a = c.args in
    need-other a.d.now a.self.at 0x45 false Lookup _ c.span.ensures c.in-Other.is

pub returns-in-Cut : goal.returns-in-Cut
returns-in-Cut c =
    let a = c.args in
    need-cut a.d.now a.self.at 0x45 false Lookup _ c.span.ensures c.in-Cut.is
