use mathlib.Core.Path.{refl}
use Rattle.wire_shapes.specs.Shapes.{has_shape}
use Rattle.wire_shapes.specs.declared.Shape.TheVariants.{Any}
use Rattle.wire_fields.proofs.StepLaws.{maybe-good, maybe-other, maybe-cut}
use Rattle.wire_fields.proofs.Cursor.any_or_none.Goals as goal

pub returns-in-Whole : goal.returns-in-Whole
unfolding has_shape
returns-in-Whole c =
    let a = c.args in
    maybe-good a.d.now a.self.at a.number a.padded Any _ c.span.ensures _ _ c.in-Whole.is refl

pub returns-in-Other : goal.returns-in-Other
returns-in-Other c =
    let a = c.args in
    maybe-other a.d.now a.self.at a.number a.padded Any _ c.span.ensures c.in-Other.is

pub returns-in-Cut : goal.returns-in-Cut
returns-in-Cut c =
    let a = c.args in
    maybe-cut a.d.now a.self.at a.number a.padded Any _ c.span.ensures c.in-Cut.is
