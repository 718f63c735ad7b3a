-- `wire_read::lookup::lookup_behind` meets its contract: each field that is found, and the first that is not, is the definition's own step.
-- Assumes nothing.
use borrow.Author.Tests.{eq-eqb, ne_eqb}
use mathlib.Core.Path.{sym, ◌∙◌}
use Rattle.wire_fields.specs.Reading.{places_at}
use Rattle.wire_read.proofs.lookup.lookup_behind.Goals as goal

pub returns-in_default : goal.returns-in_default
unfolding places_at
returns-in_default c =
    rw (sym c.entry_or_none.ensures ∙ c.in_default.is)

pub returns-in_default-array : goal.returns-in_default-array
unfolding places_at
returns-in_default-array c =
    rw (
      sym c.entry_or_none.ensures ∙ c.in-Some.is,
      sym c.array.ensures ∙ c.in_default-array.is,
    )

pub returns-in_default-any_or_none : goal.returns-in_default-any_or_none
unfolding places_at
returns-in_default-any_or_none c =
    rw (
      sym c.entry_or_none.ensures ∙ c.in-Some.is,
      sym c.array.ensures ∙ c.in-Some-array.is,
      sym c.any_or_none.ensures ∙ c.in_default-any_or_none.is,
    )

pub returns-in_default-any_or_none-2 : goal.returns-in_default-any_or_none-2
unfolding places_at
returns-in_default-any_or_none-2 c =
    rw (
      sym c.entry_or_none.ensures ∙ c.in-Some.is,
      sym c.array.ensures ∙ c.in-Some-array.is,
      sym c.any_or_none.ensures ∙ c.in-Some-any_or_none.is,
      sym c.any_or_none-2.ensures ∙ c.in_default-any_or_none-2.is,
    )

pub returns-in_default-any_or_none-3 : goal.returns-in_default-any_or_none-3
unfolding places_at
returns-in_default-any_or_none-3 c =
    rw (
      sym c.entry_or_none.ensures ∙ c.in-Some.is,
      sym c.array.ensures ∙ c.in-Some-array.is,
      sym c.any_or_none.ensures ∙ c.in-Some-any_or_none.is,
      sym c.any_or_none-2.ensures ∙ c.in-Some-any_or_none-2.is,
      sym c.any_or_none-3.ensures ∙ c.in_default-any_or_none-3.is,
    )

pub returns-then-c-d : goal.returns-then-c-d
unfolding places_at
returns-then-c-d c =
    rw (
      sym c.entry_or_none.ensures ∙ c.in-Some.is,
      sym c.array.ensures ∙ c.in-Some-array.is,
      sym c.any_or_none.ensures ∙ c.in-Some-any_or_none.is,
      sym c.any_or_none-2.ensures ∙ c.in-Some-any_or_none-2.is,
      sym c.any_or_none-3.ensures ∙ c.in-Some-any_or_none-3.is,
      ne_eqb _ _ c.if-c-d.true,
    )

pub head-requires : goal.head-requires
head-requires c =
    c.requires

pub returns : goal.returns
unfolding places_at
returns c =
    rw (
      sym c.entry_or_none.ensures ∙ c.in-Some.is,
      sym c.array.ensures ∙ c.in-Some-array.is,
      sym c.any_or_none.ensures ∙ c.in-Some-any_or_none.is,
      sym c.any_or_none-2.ensures ∙ c.in-Some-any_or_none-2.is,
      sym c.any_or_none-3.ensures ∙ c.in-Some-any_or_none-3.is,
      eq-eqb _ _ c.if-c-d.false,
      c.head.ensures,
      c.flag.ensures,
      c.precision.ensures,
      c.byte_from.ensures,
      c.byte_from-2.ensures,
    )
