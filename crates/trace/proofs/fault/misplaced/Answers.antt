-- `trace::fault::misplaced` meets its contract. Assumes nothing.
use mathlib.Core.Path.{refl}
use native.Mathlib.Omega.{arith}
use borrow.Author.Tests.{eq-eqb, ne_eqb, lt-ltb}
use Rattle.refusal.specs.Table.{first_of}
use Rattle.trace.proofs.fault.misplaced.Goals as goal

pub returns-then-kind-ne4 : goal.returns-then-kind-ne4
unfolding first_of
returns-then-kind-ne4 c = simp (c.if-at-eq0.true, ne_eqb _ _ c.if-kind-ne4.true) refl

pub returns-then-at-eq0 : goal.returns-then-at-eq0
unfolding first_of
returns-then-at-eq0 c = simp (c.if-at-eq0.true, eq-eqb _ _ c.if-kind-ne4.false) refl

pub returns-then-kind-eq4 : goal.returns-then-kind-eq4
unfolding first_of
returns-then-kind-eq4 c = simp (ne_eqb _ _ c.if-at-eq0.false, lt-ltb 0 c.args.at (omega arith), eq-eqb _ _ c.if-kind-eq4.true) refl

pub returns : goal.returns
unfolding first_of
returns c = simp (ne_eqb _ _ c.if-at-eq0.false, lt-ltb 0 c.args.at (omega arith), ne_eqb _ _ c.if-kind-eq4.false) refl
