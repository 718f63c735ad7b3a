-- `wire_read::lookup::read_lookup` meets its contract: each field that is found, and the first that is not, is the definition's own step.
-- Assumes nothing.
use mathlib.Core.Path.{sym, ◌∙◌}
use Rattle.wire_fields.specs.Kinds.{joined_fields, sized}
use Rattle.wire_fields.specs.Reading.{places_at, fields_as}
use Rattle.wire_read.specs.Answers.{incoming_of}
use Rattle.wire_read.proofs.ReaderLaws.{lookup-front}
use Rattle.wire_read.proofs.lookup.read_lookup.Goals as goal

pub returns-in_default : goal.returns-in_default
unfolding incoming_of fields_as joined_fields sized places_at
returns-in_default c =
    rw (sym c.controls.ensures ∙ c.in_default.is)

pub returns-in_default-fixed : goal.returns-in_default-fixed
unfolding incoming_of fields_as joined_fields sized places_at
returns-in_default-fixed c =
    rw (
      sym c.controls.ensures ∙ c.in-Some.is,
      sym c.fixed.ensures ∙ c.in_default-fixed.is,
    )

pub returns-in_default-fixed-2 : goal.returns-in_default-fixed-2
unfolding incoming_of fields_as joined_fields sized places_at
returns-in_default-fixed-2 c =
    rw (
      sym c.controls.ensures ∙ c.in-Some.is,
      sym c.fixed.ensures ∙ c.in-Some-fixed.is,
      sym c.fixed-2.ensures ∙ c.in_default-fixed-2.is,
    )

pub lookup_behind-requires : goal.lookup_behind-requires
lookup_behind-requires c = c.requires

pub returns : goal.returns
returns c =
    c.lookup_behind.ensures
    ∙ lookup-front _ _ _ _ _ _ _ (sym c.controls.ensures ∙ c.in-Some.is)
    (sym c.fixed.ensures ∙ c.in-Some-fixed.is)
    (sym c.fixed-2.ensures ∙ c.in-Some-fixed-2.is)
