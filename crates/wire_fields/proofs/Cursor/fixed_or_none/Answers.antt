use borrow.Author.Tests.{eq-eqb, ne_eqb}
use mathlib.Core.Path.{sym, ◌∙◌}
use Rattle.wire_shapes.specs.Shapes.{has_shape}
use Rattle.wire_shapes.specs.declared.Shape.TheVariants.{Sized}
use Rattle.wire_fields.proofs.SpanLaws.{span-length}
use Rattle.wire_fields.proofs.StepLaws.{maybe-good, maybe-bad, maybe-other, maybe-cut}
use Rattle.wire_fields.proofs.Cursor.fixed_or_none.Goals as goal

pub returns-then-place-wanted : goal.returns-then-place-wanted
unfolding has_shape
returns-then-place-wanted c =
    let a = c.args in
    let q = sym c.span.ensures ∙ c.in-Whole.is in
    let m = span-length a.d.now a.self.at a.number a.padded _ _ q in
    maybe-good a.d.now a.self.at a.number a.padded (Sized a.wanted) _ c.span.ensures _ _
    c.in-Whole.is (eq-eqb _ _ (m ∙ c.if-place-wanted.true))

pub returns-else-place-wanted : goal.returns-else-place-wanted
unfolding has_shape
returns-else-place-wanted c =
    let a = c.args in
    let q = sym c.span.ensures ∙ c.in-Whole.is in
    let m = span-length a.d.now a.self.at a.number a.padded _ _ q in
    maybe-bad a.d.now a.self.at a.number a.padded (Sized a.wanted) _ c.span.ensures _ _
    c.in-Whole.is
    (ne_eqb _ _ (λ e. c.if-place-wanted.false (sym m ∙ e)))

pub returns-in-Other : goal.returns-in-Other
returns-in-Other c =
    let a = c.args in
    maybe-other a.d.now a.self.at a.number a.padded (Sized a.wanted) _ c.span.ensures c.in-Other.is

pub returns-in-Cut : goal.returns-in-Cut
returns-in-Cut c =
    let a = c.args in
    maybe-cut a.d.now a.self.at a.number a.padded (Sized a.wanted) _ c.span.ensures c.in-Cut.is
