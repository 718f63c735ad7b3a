-- `merged::written::put` meets its contract, by the kind. Assumes nothing.
use mathlib.Core.Path.{◌∙◌}
use native.Mathlib.Omega.{arith}
use Rattle.merged.proofs.WriteLaws.{kind-none, kind-gone, kind-held}
use Rattle.merged.proofs.written.put.Goals as goal

pub returns-then-kind-eq0 : goal.returns-then-kind-eq0
returns-then-kind-eq0 c =
    let a = c.args in
    kind-none a.«before».now a.i a.«after».now a.j a.at a.output.now a.kind c.if-kind-eq0.true

pub put_gone-requires : goal.put_gone-requires
put_gone-requires c =
    let s = c in
    let one = c.if-kind-eq1.true in
    record { i_in_bounds = s.requires.0 one; at_in_bounds = s.requires.2 (omega (arith, one)) }

pub returns-then-kind-eq1 : goal.returns-then-kind-eq1
returns-then-kind-eq1 c =
    let called = c in
    let tested = c in
    let a = tested.args in
    called.put_gone.ensures ∙ kind-gone a.«before».now a.i a.«after».now a.j a.at a.output.now a.kind tested.if-kind-eq1.true

pub put_held-requires : goal.put_held-requires
put_held-requires c =
    let s = c in
    record { j_in_bounds = s.requires.1 (omega (arith, c.if-kind-eq1.false, c.if-kind-eq0.false)); at_in_bounds = s.requires.2 (omega (arith, c.if-kind-eq0.false)) }

pub returns : goal.returns
returns c =
    let called = c in
    let tested = c in
    let a = tested.args in
    called.put_held.ensures
    ∙ kind-held a.«before».now a.i a.«after».now a.j a.at a.output.now a.kind (omega (arith, tested.if-kind-eq1.false, tested.if-kind-eq0.false))
