-- `wire_buffer::read_buffer` meets its contract: each field that is found, and the first that is not, is the definition's own step.
-- Assumes nothing.
use borrow.Author.Tests.{eq-eqb, ne_eqb}
use mathlib.Core.Path.{sym, ◌∙◌}
use Rattle.wire_fields.specs.Reading.{places_at}
use Rattle.wire_buffer.specs.Buffer.{buffer_at}
use Rattle.wire_buffer.proofs.read_buffer.Goals as goal

pub returns-in_default : goal.returns-in_default
unfolding buffer_at places_at
returns-in_default c =
    rw (sym c.fixed.ensures ∙ c.in_default.is)

pub returns-in_default-any_or_none : goal.returns-in_default-any_or_none
unfolding buffer_at places_at
returns-in_default-any_or_none c =
    rw (
      sym c.fixed.ensures ∙ c.in-Some.is,
      sym c.any_or_none.ensures ∙ c.in_default-any_or_none.is,
    )

pub returns-in_default-any_or_none-2 : goal.returns-in_default-any_or_none-2
unfolding buffer_at places_at
returns-in_default-any_or_none-2 c =
    rw (
      sym c.fixed.ensures ∙ c.in-Some.is,
      sym c.any_or_none.ensures ∙ c.in-Some-any_or_none.is,
      sym c.any_or_none-2.ensures ∙ c.in_default-any_or_none-2.is,
    )

pub returns-in_default-array_or_none : goal.returns-in_default-array_or_none
unfolding buffer_at places_at
returns-in_default-array_or_none c =
    rw (
      sym c.fixed.ensures ∙ c.in-Some.is,
      sym c.any_or_none.ensures ∙ c.in-Some-any_or_none.is,
      sym c.any_or_none-2.ensures ∙ c.in-Some-any_or_none-2.is,
      sym c.array_or_none.ensures ∙ c.in_default-array_or_none.is,
    )

pub returns-in_default-any_or_none-3 : goal.returns-in_default-any_or_none-3
unfolding buffer_at places_at
returns-in_default-any_or_none-3 c =
    rw (
      sym c.fixed.ensures ∙ c.in-Some.is,
      sym c.any_or_none.ensures ∙ c.in-Some-any_or_none.is,
      sym c.any_or_none-2.ensures ∙ c.in-Some-any_or_none-2.is,
      sym c.array_or_none.ensures ∙ c.in-Some-array_or_none.is,
      sym c.any_or_none-3.ensures ∙ c.in_default-any_or_none-3.is,
    )

pub returns-in_default-entry_or_none : goal.returns-in_default-entry_or_none
unfolding buffer_at places_at
returns-in_default-entry_or_none c =
    rw (
      sym c.fixed.ensures ∙ c.in-Some.is,
      sym c.any_or_none.ensures ∙ c.in-Some-any_or_none.is,
      sym c.any_or_none-2.ensures ∙ c.in-Some-any_or_none-2.is,
      sym c.array_or_none.ensures ∙ c.in-Some-array_or_none.is,
      sym c.any_or_none-3.ensures ∙ c.in-Some-any_or_none-3.is,
      sym c.entry_or_none.ensures ∙ c.in_default-entry_or_none.is,
    )

pub returns-in_default-any_or_none-4 : goal.returns-in_default-any_or_none-4
unfolding buffer_at places_at
returns-in_default-any_or_none-4 c =
    rw (
      sym c.fixed.ensures ∙ c.in-Some.is,
      sym c.any_or_none.ensures ∙ c.in-Some-any_or_none.is,
      sym c.any_or_none-2.ensures ∙ c.in-Some-any_or_none-2.is,
      sym c.array_or_none.ensures ∙ c.in-Some-array_or_none.is,
      sym c.any_or_none-3.ensures ∙ c.in-Some-any_or_none-3.is,
      sym c.entry_or_none.ensures ∙ c.in-Some-entry_or_none.is,
      sym c.any_or_none-4.ensures ∙ c.in_default-any_or_none-4.is,
    )

pub returns-then-c-d : goal.returns-then-c-d
unfolding buffer_at places_at
returns-then-c-d c =
    rw (
      sym c.fixed.ensures ∙ c.in-Some.is,
      sym c.any_or_none.ensures ∙ c.in-Some-any_or_none.is,
      sym c.any_or_none-2.ensures ∙ c.in-Some-any_or_none-2.is,
      sym c.array_or_none.ensures ∙ c.in-Some-array_or_none.is,
      sym c.any_or_none-3.ensures ∙ c.in-Some-any_or_none-3.is,
      sym c.entry_or_none.ensures ∙ c.in-Some-entry_or_none.is,
      sym c.any_or_none-4.ensures ∙ c.in-Some-any_or_none-4.is,
      ne_eqb _ _ c.if-c-d.true,
    )

pub returns : goal.returns
unfolding buffer_at places_at
returns c =
    rw (
      sym c.fixed.ensures ∙ c.in-Some.is,
      sym c.any_or_none.ensures ∙ c.in-Some-any_or_none.is,
      sym c.any_or_none-2.ensures ∙ c.in-Some-any_or_none-2.is,
      sym c.array_or_none.ensures ∙ c.in-Some-array_or_none.is,
      sym c.any_or_none-3.ensures ∙ c.in-Some-any_or_none-3.is,
      sym c.entry_or_none.ensures ∙ c.in-Some-entry_or_none.is,
      sym c.any_or_none-4.ensures ∙ c.in-Some-any_or_none-4.is,
      eq-eqb _ _ c.if-c-d.false,
      c.flag.ensures,
      c.flag-2.ensures,
      c.flag-3.ensures,
    )
