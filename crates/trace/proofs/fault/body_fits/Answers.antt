-- `trace::fault::body_fits` meets its contract. Assumes nothing.
use mathlib.Core.Path.{refl}
use borrow.Author.Tests.{eq-eqb, ne_eqb}
use Rattle.trace.specs.Trace.{body_fits}
use Rattle.trace.proofs.fault.body_fits.Goals as goal

pub returns-then-kind-eq1 : goal.returns-then-kind-eq1
unfolding body_fits
returns-then-kind-eq1 c = simp (eq-eqb _ _ c.if-kind-eq1.true) refl

pub returns-then-kind-eq2 : goal.returns-then-kind-eq2
unfolding body_fits
returns-then-kind-eq2 c = simp (ne_eqb _ _ c.if-kind-eq1.false, eq-eqb _ _ c.if-kind-eq2.true) refl

pub returns-then-kind-eq3 : goal.returns-then-kind-eq3
unfolding body_fits
returns-then-kind-eq3 c = simp (ne_eqb _ _ c.if-kind-eq1.false, ne_eqb _ _ c.if-kind-eq2.false, eq-eqb _ _ c.if-kind-eq3.true) refl

pub returns-then-kind-ne4 : goal.returns-then-kind-ne4
unfolding body_fits
returns-then-kind-ne4 c =
    simp (
      ne_eqb _ _ c.if-kind-eq1.false,
      ne_eqb _ _ c.if-kind-eq2.false,
      ne_eqb _ _ c.if-kind-eq3.false,
      ne_eqb _ _ c.if-kind-ne4.true,
    ) refl

pub returns : goal.returns
unfolding body_fits
returns c =
    simp (
      ne_eqb _ _ c.if-kind-eq1.false,
      ne_eqb _ _ c.if-kind-eq2.false,
      ne_eqb _ _ c.if-kind-eq3.false,
      eq-eqb _ _ c.if-kind-ne4.false,
    ) refl
