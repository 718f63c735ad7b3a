-- `wire_read::solicit::read_solicit` meets its contract: each field that is found, and the first that is not, is the definition's own step.
-- Assumes nothing.
use borrow.Author.Tests.{eq-eqb, ne_eqb}
use mathlib.Core.Path.{sym, ◌∙◌}
use Rattle.wire_fields.specs.Kinds.{joined_fields, sized}
use Rattle.wire_fields.specs.Reading.{places_at, fields_as}
use Rattle.wire_read.specs.Answers.{incoming_of}
use Rattle.wire_read.proofs.solicit.read_solicit.Goals as goal

pub returns-in_default : goal.returns-in_default
unfolding incoming_of fields_as joined_fields sized places_at
returns-in_default c =
    rw (sym c.entry_or_none.ensures ∙ c.in_default.is)

pub returns-in_err-nonce : goal.returns-in_err-nonce
unfolding incoming_of fields_as joined_fields sized places_at
returns-in_err-nonce c =
    rw (
      c.from_residual.ensures,
      sym c.entry_or_none.ensures ∙ c.in-Some.is,
      sym c.fixed.ensures ∙ c.in_err-nonce.was,
    )

pub returns-then-c-d : goal.returns-then-c-d
unfolding incoming_of fields_as joined_fields sized places_at
returns-then-c-d c =
    rw (
      sym c.entry_or_none.ensures ∙ c.in-Some.is,
      sym c.fixed.ensures ∙ c.in_ok-nonce.was,
      ne_eqb _ _ c.if-c-d.true,
    )

pub returns : goal.returns
unfolding incoming_of fields_as joined_fields sized places_at
returns c =
    rw (
      sym c.entry_or_none.ensures ∙ c.in-Some.is,
      sym c.fixed.ensures ∙ c.in_ok-nonce.was,
      eq-eqb _ _ c.if-c-d.false,
      c.head.ensures,
    )
