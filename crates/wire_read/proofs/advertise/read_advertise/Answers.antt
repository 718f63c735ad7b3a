-- `wire_read::advertise::read_advertise` meets its contract: each field that is found, and the first that is not, is the definition's own step.
-- Assumes nothing.
use borrow.Author.Tests.{eq-eqb, ne_eqb}
use native.Mathlib.Omega.{arith}
use mathlib.Core.Path.{sym, ◌∙◌}
use Rattle.wire_fields.specs.Kinds.{joined_fields, sized}
use Rattle.wire_fields.specs.Reading.{places_at, fields_as}
use Rattle.wire_shapes.specs.declared.Shape.TheVariants.{Sized}
use Rattle.wire_fields.proofs.RefusalLaws.{need-four, sized_four}
use Rattle.wire_read.specs.Answers.{incoming_of}
use Rattle.wire_read.proofs.advertise.read_advertise.Goals as goal

pub returns-in_err-acked : goal.returns-in_err-acked
unfolding incoming_of fields_as joined_fields sized places_at
returns-in_err-acked c =
    rw (
      c.from_residual.ensures,
      sym c.fixed.ensures ∙ c.in_err-acked.was,
    )

pub returns-in_err-keys : goal.returns-in_err-keys
unfolding incoming_of fields_as joined_fields sized places_at
returns-in_err-keys c =
    rw (
      c.from_residual-in_err-keys.ensures,
      sym c.fixed.ensures ∙ c.in_ok-acked.was,
      sym c.array.ensures ∙ c.in_err-keys.was,
    )

pub returns-in_err-nonce : goal.returns-in_err-nonce
unfolding incoming_of fields_as joined_fields sized places_at
returns-in_err-nonce c =
    rw (
      c.from_residual-in_err-nonce.ensures,
      sym c.fixed.ensures ∙ c.in_ok-acked.was,
      sym c.array.ensures ∙ c.in_ok-keys.was,
      sym c.fixed-2.ensures ∙ c.in_err-nonce.was,
    )

pub returns-then-c-d : goal.returns-then-c-d
unfolding incoming_of fields_as joined_fields sized places_at
returns-then-c-d c =
    rw (
      sym c.fixed.ensures ∙ c.in_ok-acked.was,
      sym c.array.ensures ∙ c.in_ok-keys.was,
      sym c.fixed-2.ensures ∙ c.in_ok-nonce.was,
      ne_eqb _ _ c.if-c-d.true,
    )

pub read_u32-requires : goal.read_u32-requires
read_u32-requires c =
    let q = need-four c.args.d.now _ _ _ (Sized 4) sized_four _ _
    (sym c.fixed.ensures ∙ c.in_ok-acked.was) in
    omega (arith, q.0, q.1)

pub returns : goal.returns
unfolding incoming_of fields_as joined_fields sized places_at
returns c =
    rw (
      sym c.fixed.ensures ∙ c.in_ok-acked.was,
      sym c.array.ensures ∙ c.in_ok-keys.was,
      sym c.fixed-2.ensures ∙ c.in_ok-nonce.was,
      eq-eqb _ _ c.if-c-d.false,
      c.head.ensures,
      c.read_u32.ensures,
    )
