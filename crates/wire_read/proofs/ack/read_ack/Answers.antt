-- `wire_read::ack::read_ack` meets its contract: each field that is found, and the first that is not, is the definition's own step. Assumes nothing.
use borrow.Author.Tests.{eq-eqb, ne_eqb}
use native.Mathlib.Omega.{arith}
use mathlib.Core.Path.{sym, ◌∙◌}
use Rattle.wire_fields.specs.Kinds.{joined_fields, sized}
use Rattle.wire_fields.specs.Reading.{places_at, fields_as}
use Rattle.wire_shapes.specs.declared.Shape.TheVariants.{Sized}
use Rattle.wire_fields.proofs.RefusalLaws.{need-four, sized_four}
use Rattle.wire_read.specs.Answers.{incoming_of}
use Rattle.wire_read.proofs.ack.read_ack.Goals as goal

pub returns-in_err-acked : goal.returns-in_err-acked
unfolding incoming_of fields_as joined_fields sized places_at
returns-in_err-acked c =
    rw (
      c.from_residual.ensures,
      sym c.fixed.ensures ∙ c.in_err-acked.was,
    )

pub returns-in_default : goal.returns-in_default
unfolding incoming_of fields_as joined_fields sized places_at
returns-in_default c =
    rw (
      sym c.fixed.ensures ∙ c.in_ok-acked.was,
      sym c.fixed_or_none.ensures ∙ c.in_default.is,
    )

pub returns-then-c-d : goal.returns-then-c-d
unfolding incoming_of fields_as joined_fields sized places_at
returns-then-c-d c =
    rw (
      sym c.fixed.ensures ∙ c.in_ok-acked.was,
      sym c.fixed_or_none.ensures ∙ c.in-Some.is,
      ne_eqb _ _ c.if-c-d.true,
    )

pub read_u32-requires : goal.read_u32-requires
read_u32-requires c =
    let q = need-four c.args.d.now _ _ _ (Sized 4) sized_four _ _
    (sym c.fixed.ensures ∙ c.in_ok-acked.was) in
    omega (arith, q.0, q.1)

pub returns : goal.returns
unfolding incoming_of fields_as joined_fields sized places_at
returns c =
    rw (
      sym c.fixed.ensures ∙ c.in_ok-acked.was,
      sym c.fixed_or_none.ensures ∙ c.in-Some.is,
      eq-eqb _ _ c.if-c-d.false,
      c.head.ensures,
      c.read_u32.ensures,
      c.is_some.ensures,
      c.flag_in.ensures,
    )
