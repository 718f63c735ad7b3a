-- `night::call::make` meets its contract. Assumes nothing.
use mathlib.Core.Path.{ap, ◌∙◌}
use Rattle.night.specs.Step.{night_in}
use Rattle.night.specs.Told.{called_told}
use Rattle.trace.proofs.FaultLaws.{fits_1, fits_2}
use Rattle.night.proofs.CallLaws.{call-1, call-2, call-3}
use borrow.Author.Rules.{rules}
use Rattle.night.proofs.call.make.Goals as goal

pub receive-requires : goal.receive-requires
receive-requires c =
    record { state_len = c.requires.state_len; in_bounds = fits_1 _ _ c.if-kind-eq1.true c.requires.body_value; output_value = c.requires.output_value }

pub returns-then-kind-eq1 : goal.returns-then-kind-eq1
returns-then-kind-eq1 c =
    let a = c.args in
    c.receive.ensures ∙ ap (called_told _) (call-1 (night_in a.state.now).opening a.kind a.body.now c.if-kind-eq1.true)

pub send-requires : goal.send-requires
send-requires c =
    record { state_len = c.requires.state_len; body_len = fits_2 _ _ c.if-kind-eq2.true c.requires.body_value; output_value = c.requires.output_value }

pub returns-then-kind-eq2 : goal.returns-then-kind-eq2
returns-then-kind-eq2 c =
    let a = c.args in
    c.send.ensures
    ∙ ap (called_told _) (call-2 (night_in a.state.now).opening a.kind a.body.now c.if-kind-eq1.false c.if-kind-eq2.true)

pub tick-requires : goal.tick-requires
tick-requires c =
    record { state_len = c.requires.state_len; output_value = c.requires.output_value }

pub returns : goal.returns
returns c =
    let a = c.args in
    c.tick.ensures
    ∙ ap (called_told _) (call-3 (night_in a.state.now).opening a.kind a.body.now c.if-kind-eq1.false c.if-kind-eq2.false)
