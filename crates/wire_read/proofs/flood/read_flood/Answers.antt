-- `wire_read::flood::read_flood` meets its contract: each field that is found, and the first that is not, is the definition's own step.
-- Assumes nothing.
use borrow.Author.Tests.{eq-eqb, ne_eqb}
use mathlib.Core.Path.{sym, ◌∙◌}
use Rattle.wire_fields.specs.Kinds.{joined_fields, sized}
use Rattle.wire_fields.specs.Reading.{places_at, fields_as}
use Rattle.wire_read.specs.Answers.{incoming_of}
use Rattle.wire_read.proofs.ReaderLaws.{present_value}
use Rattle.wire_read.proofs.flood.read_flood.Goals as goal

pub returns-in_default : goal.returns-in_default
unfolding incoming_of fields_as joined_fields sized places_at
returns-in_default c =
    rw (sym c.fixed.ensures ∙ c.in_default.is)

pub returns-in_default-fixed : goal.returns-in_default-fixed
unfolding incoming_of fields_as joined_fields sized places_at
returns-in_default-fixed c =
    rw (
      sym c.fixed.ensures ∙ c.in-Some.is,
      sym c.fixed-2.ensures ∙ c.in_default-fixed.is,
    )

pub returns-in_default-any_or_none : goal.returns-in_default-any_or_none
unfolding incoming_of fields_as joined_fields sized places_at
returns-in_default-any_or_none c =
    rw (
      sym c.fixed.ensures ∙ c.in-Some.is,
      sym c.fixed-2.ensures ∙ c.in-Some-fixed.is,
      sym c.any_or_none.ensures ∙ c.in_default-any_or_none.is,
    )

pub returns-in_default-any_or_none-2 : goal.returns-in_default-any_or_none-2
unfolding incoming_of fields_as joined_fields sized places_at
returns-in_default-any_or_none-2 c =
    rw (
      sym c.fixed.ensures ∙ c.in-Some.is,
      sym c.fixed-2.ensures ∙ c.in-Some-fixed.is,
      sym c.any_or_none.ensures ∙ c.in-Some-any_or_none.is,
      sym c.any_or_none-2.ensures ∙ c.in_default-any_or_none-2.is,
    )

pub returns-in_default-entry_or_none : goal.returns-in_default-entry_or_none
unfolding incoming_of fields_as joined_fields sized places_at
returns-in_default-entry_or_none c =
    rw (
      sym c.fixed.ensures ∙ c.in-Some.is,
      sym c.fixed-2.ensures ∙ c.in-Some-fixed.is,
      sym c.any_or_none.ensures ∙ c.in-Some-any_or_none.is,
      sym c.any_or_none-2.ensures ∙ c.in-Some-any_or_none-2.is,
      sym c.entry_or_none.ensures ∙ c.in_default-entry_or_none.is,
    )

pub returns-in_default-array_or_none : goal.returns-in_default-array_or_none
unfolding incoming_of fields_as joined_fields sized places_at
returns-in_default-array_or_none c =
    rw (
      sym c.fixed.ensures ∙ c.in-Some.is,
      sym c.fixed-2.ensures ∙ c.in-Some-fixed.is,
      sym c.any_or_none.ensures ∙ c.in-Some-any_or_none.is,
      sym c.any_or_none-2.ensures ∙ c.in-Some-any_or_none-2.is,
      sym c.entry_or_none.ensures ∙ c.in-Some-entry_or_none.is,
      sym c.array_or_none.ensures ∙ c.in_default-array_or_none.is,
    )

pub returns-then-c-d : goal.returns-then-c-d
unfolding incoming_of fields_as joined_fields sized places_at
returns-then-c-d c =
    rw (
      sym c.fixed.ensures ∙ c.in-Some.is,
      sym c.fixed-2.ensures ∙ c.in-Some-fixed.is,
      sym c.any_or_none.ensures ∙ c.in-Some-any_or_none.is,
      sym c.any_or_none-2.ensures ∙ c.in-Some-any_or_none-2.is,
      sym c.entry_or_none.ensures ∙ c.in-Some-entry_or_none.is,
      sym c.array_or_none.ensures ∙ c.in-Some-array_or_none.is,
      ne_eqb _ _ c.if-c-d.true,
    )

pub returns-then-not-just_one : goal.returns-then-not-just_one
unfolding incoming_of fields_as joined_fields sized places_at
returns-then-not-just_one c =
    rw (
      sym c.fixed.ensures ∙ c.in-Some.is,
      sym c.fixed-2.ensures ∙ c.in-Some-fixed.is,
      sym c.any_or_none.ensures ∙ c.in-Some-any_or_none.is,
      sym c.any_or_none-2.ensures ∙ c.in-Some-any_or_none-2.is,
      sym c.entry_or_none.ensures ∙ c.in-Some-entry_or_none.is,
      sym c.array_or_none.ensures ∙ c.in-Some-array_or_none.is,
      eq-eqb _ _ c.if-c-d.false,
      present_value,
      present_value,
      sym c.just_one.ensures ∙ c.if-not-just_one.true,
    )

pub head-requires : goal.head-requires
head-requires c =
    c.requires

pub returns : goal.returns
unfolding incoming_of fields_as joined_fields sized places_at
returns c =
    rw (
      sym c.fixed.ensures ∙ c.in-Some.is,
      sym c.fixed-2.ensures ∙ c.in-Some-fixed.is,
      sym c.any_or_none.ensures ∙ c.in-Some-any_or_none.is,
      sym c.any_or_none-2.ensures ∙ c.in-Some-any_or_none-2.is,
      sym c.entry_or_none.ensures ∙ c.in-Some-entry_or_none.is,
      sym c.array_or_none.ensures ∙ c.in-Some-array_or_none.is,
      eq-eqb _ _ c.if-c-d.false,
      present_value,
      present_value,
      sym c.just_one.ensures ∙ c.if-not-just_one.false,
      c.head.ensures,
      c.silent.ensures,
    )
