-- `wire_read::authority::read_authority` meets its contract: the two fields before the buffer by their own steps, the rest by the buffer's.
-- Assumes nothing.
use native.Mathlib.Omega.{arith}
use mathlib.Core.Path.{sym, ◌∙◌}
use Rattle.wire_fields.specs.Refusals.{in_part}
use Rattle.wire_fields.specs.Reading.{fields_as, places_at}
use Rattle.wire_shapes.specs.declared.Shape.TheVariants.{Sized, Split}
use Rattle.wire_fields.proofs.RefusalLaws.{need-four, sized_four, split_four}
use Rattle.wire_read.specs.Answers.{incoming_of}
use Rattle.wire_read.proofs.ReaderLaws.{authority-bad, authority-good}
use Rattle.wire_read.proofs.authority.read_authority.Goals as goal

pub returns-in_default : goal.returns-in_default
unfolding incoming_of in_part fields_as places_at
returns-in_default c = rw (sym c.fixed.ensures ∙ c.in_default.is)

pub returns-in_default-split : goal.returns-in_default-split
unfolding incoming_of in_part fields_as places_at
returns-in_default-split c =
    rw (sym c.fixed.ensures ∙ c.in-Some.is, sym c.split.ensures ∙ c.in_default-split.is)

pub is_whole-requires : goal.is_whole-requires
is_whole-requires c =
    need-four c.args.d.now _ _ _ Split split_four _ _ (sym c.split.ensures ∙ c.in-Some-split.is)

pub returns-then-not-is_whole : goal.returns-then-not-is_whole
unfolding incoming_of in_part
returns-then-not-is_whole c =
    rw (
      sym c.fixed.ensures ∙ c.in-Some.is,
      sym c.split.ensures ∙ c.in-Some-split.is,
      sym c.is_whole.ensures ∙ c.if-not-is_whole.true,
    )

pub returns-in_default-read_buffer : goal.returns-in_default-read_buffer
returns-in_default-read_buffer c =
    let d = c.args.d.now in
    let q = sym c.fixed.ensures ∙ c.in-Some.is in
    let q₂ = sym c.split.ensures ∙ c.in-Some-split.is in
    let w = sym c.is_whole.ensures ∙ c.if-not-is_whole.false in
    sym (authority-bad d _ _ _ _ q q₂ w (sym c.read_buffer.ensures ∙ c.in_default-read_buffer.is))

pub head-requires : goal.head-requires
head-requires c = c.requires

pub read_u32-requires : goal.read_u32-requires
read_u32-requires c =
    let q = need-four c.args.d.now _ _ _ (Sized 4) sized_four _ _
    (sym c.fixed.ensures ∙ c.in-Some.is) in
    omega (arith, q.0, q.1)

pub returns : goal.returns
returns c =
    let d = c.args.d.now in
    let q = sym c.fixed.ensures ∙ c.in-Some.is in
    let q₂ = sym c.split.ensures ∙ c.in-Some-split.is in
    let w = sym c.is_whole.ensures ∙ c.if-not-is_whole.false in
    rw (c.head.ensures, c.read_u32.ensures)
    (sym (authority-good d _ _ _ _ q q₂ w _ (sym c.read_buffer.ensures ∙ c.in-Some-read_buffer.is)))
