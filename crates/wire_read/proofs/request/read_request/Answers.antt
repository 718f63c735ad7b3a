-- `wire_read::request::read_request` meets its contract: each field that is found, and the first that is not, is the definition's own step.
-- Assumes nothing.
use borrow.Author.Tests.{eq-eqb, ne_eqb}
use mathlib.Core.Path.{sym, ◌∙◌}
use Rattle.wire_fields.specs.Kinds.{joined_fields, sized}
use Rattle.wire_fields.specs.Reading.{places_at, fields_as}
use Rattle.wire_shapes.specs.declared.Shape.TheVariants.{Sized}
use Rattle.wire_fields.proofs.RefusalLaws.{split_value, maybe-four, sized_four}
use Rattle.wire_read.specs.Answers.{incoming_of}
use Rattle.wire_read.proofs.request.read_request.Goals as goal

pub returns-in_default : goal.returns-in_default
unfolding incoming_of fields_as joined_fields sized places_at
returns-in_default c =
    rw (sym c.fixed_or_none.ensures ∙ c.in_default.is)

pub returns-in_default-fixed_or_none : goal.returns-in_default-fixed_or_none
unfolding incoming_of fields_as joined_fields sized places_at
returns-in_default-fixed_or_none c =
    rw (
      sym c.fixed_or_none.ensures ∙ c.in-Some.is,
      sym c.fixed_or_none-2.ensures ∙ c.in_default-fixed_or_none.is,
    )

pub returns-in_default-fixed : goal.returns-in_default-fixed
unfolding incoming_of fields_as joined_fields sized places_at
returns-in_default-fixed c =
    rw (
      sym c.fixed_or_none.ensures ∙ c.in-Some.is,
      sym c.fixed_or_none-2.ensures ∙ c.in-Some-fixed_or_none.is,
      sym c.fixed.ensures ∙ c.in_default-fixed.is,
    )

pub returns-in_default-array : goal.returns-in_default-array
unfolding incoming_of fields_as joined_fields sized places_at
returns-in_default-array c =
    rw (
      sym c.fixed_or_none.ensures ∙ c.in-Some.is,
      sym c.fixed_or_none-2.ensures ∙ c.in-Some-fixed_or_none.is,
      sym c.fixed.ensures ∙ c.in-Some-fixed.is,
      sym c.array.ensures ∙ c.in_default-array.is,
    )

pub returns-in_default-any_or_none : goal.returns-in_default-any_or_none
unfolding incoming_of fields_as joined_fields sized places_at
returns-in_default-any_or_none c =
    rw (
      sym c.fixed_or_none.ensures ∙ c.in-Some.is,
      sym c.fixed_or_none-2.ensures ∙ c.in-Some-fixed_or_none.is,
      sym c.fixed.ensures ∙ c.in-Some-fixed.is,
      sym c.array.ensures ∙ c.in-Some-array.is,
      sym c.any_or_none.ensures ∙ c.in_default-any_or_none.is,
    )

pub returns-in_default-any_or_none-2 : goal.returns-in_default-any_or_none-2
unfolding incoming_of fields_as joined_fields sized places_at
returns-in_default-any_or_none-2 c =
    rw (
      sym c.fixed_or_none.ensures ∙ c.in-Some.is,
      sym c.fixed_or_none-2.ensures ∙ c.in-Some-fixed_or_none.is,
      sym c.fixed.ensures ∙ c.in-Some-fixed.is,
      sym c.array.ensures ∙ c.in-Some-array.is,
      sym c.any_or_none.ensures ∙ c.in-Some-any_or_none.is,
      sym c.any_or_none-2.ensures ∙ c.in_default-any_or_none-2.is,
    )

pub returns-in_default-any_or_none-3 : goal.returns-in_default-any_or_none-3
unfolding incoming_of fields_as joined_fields sized places_at
returns-in_default-any_or_none-3 c =
    rw (
      sym c.fixed_or_none.ensures ∙ c.in-Some.is,
      sym c.fixed_or_none-2.ensures ∙ c.in-Some-fixed_or_none.is,
      sym c.fixed.ensures ∙ c.in-Some-fixed.is,
      sym c.array.ensures ∙ c.in-Some-array.is,
      sym c.any_or_none.ensures ∙ c.in-Some-any_or_none.is,
      sym c.any_or_none-2.ensures ∙ c.in-Some-any_or_none-2.is,
      sym c.any_or_none-3.ensures ∙ c.in_default-any_or_none-3.is,
    )

pub returns-then-c-d : goal.returns-then-c-d
unfolding incoming_of fields_as joined_fields sized places_at
returns-then-c-d c =
    rw (
      sym c.fixed_or_none.ensures ∙ c.in-Some.is,
      sym c.fixed_or_none-2.ensures ∙ c.in-Some-fixed_or_none.is,
      sym c.fixed.ensures ∙ c.in-Some-fixed.is,
      sym c.array.ensures ∙ c.in-Some-array.is,
      sym c.any_or_none.ensures ∙ c.in-Some-any_or_none.is,
      sym c.any_or_none-2.ensures ∙ c.in-Some-any_or_none-2.is,
      sym c.any_or_none-3.ensures ∙ c.in-Some-any_or_none-3.is,
      ne_eqb _ _ c.if-c-d.true,
    )

pub is_whole-requires : goal.is_whole-requires
is_whole-requires c =
    maybe-four c.args.d.now _ _ _ (Sized 4) sized_four _ _ (sym c.fixed_or_none-2.ensures ∙ c.in-Some-fixed_or_none.is)

pub returns-then-not-is_whole : goal.returns-then-not-is_whole
unfolding incoming_of fields_as joined_fields sized places_at
returns-then-not-is_whole c =
    rw (
      sym c.fixed_or_none.ensures ∙ c.in-Some.is,
      sym c.fixed_or_none-2.ensures ∙ c.in-Some-fixed_or_none.is,
      sym c.fixed.ensures ∙ c.in-Some-fixed.is,
      sym c.array.ensures ∙ c.in-Some-array.is,
      sym c.any_or_none.ensures ∙ c.in-Some-any_or_none.is,
      sym c.any_or_none-2.ensures ∙ c.in-Some-any_or_none-2.is,
      sym c.any_or_none-3.ensures ∙ c.in-Some-any_or_none-3.is,
      eq-eqb _ _ c.if-c-d.false,
      split_value,
      sym c.is_whole.ensures ∙ c.if-not-is_whole.true,
    )

pub head-requires : goal.head-requires
head-requires c =
    c.requires

pub returns : goal.returns
unfolding incoming_of fields_as joined_fields sized places_at
returns c =
    rw (
      sym c.fixed_or_none.ensures ∙ c.in-Some.is,
      sym c.fixed_or_none-2.ensures ∙ c.in-Some-fixed_or_none.is,
      sym c.fixed.ensures ∙ c.in-Some-fixed.is,
      sym c.array.ensures ∙ c.in-Some-array.is,
      sym c.any_or_none.ensures ∙ c.in-Some-any_or_none.is,
      sym c.any_or_none-2.ensures ∙ c.in-Some-any_or_none-2.is,
      sym c.any_or_none-3.ensures ∙ c.in-Some-any_or_none-3.is,
      eq-eqb _ _ c.if-c-d.false,
      split_value,
      sym c.is_whole.ensures ∙ c.if-not-is_whole.false,
      c.is_some.ensures,
      c.is_some-2.ensures,
      c.head.ensures,
    )
