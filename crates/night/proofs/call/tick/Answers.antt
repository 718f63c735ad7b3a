-- `night::call::tick` meets its contract. Assumes nothing.
use mathlib.Core.Path.{◌∙◌}
use native.Mathlib.Omega.{arith}
use Rattle.night.specs.Step.{night_in}
use Rattle.night.proofs.CallLaws.{taken_out, own-taken, tick-called}
use borrow.Author.Rules.{rules}
use Rattle.night.proofs.call.tick.Goals as goal

pub returns : goal.returns
returns c =
    let s = c.args.state.now in
    let fit = c.requires.state_len in
    tick-called s fit _ _ _ c.requires.output_value _ _ _ _ (own-taken s fit)
    (c.copy_to.ensures ∙ taken_out 6912 2240 s (omega (arith, fit))) c.gauge_tick-answer.auto.waiting
    c.copy_to-2.ensures (c.gauge_tick-answer.ensures (night_in s).memory)
