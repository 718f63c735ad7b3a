-- `night::call::send` meets its contract. Assumes nothing.
use mathlib.Core.Path.{sym, ◌∙◌}
use native.Mathlib.Omega.{arith}
use lib.Seq.{length-take-le}
use Rattle.night.specs.Step.{night_in}
use Rattle.night.proofs.CallLaws.{taken_out, own-copied, major-taken, minor-taken, send-called}
use borrow.Author.Rules.{rules}
use Rattle.night.proofs.call.send.Goals as goal

pub slice_bounds-gauge_send-end-3 : goal.slice_bounds-gauge_send-end-3
slice_bounds-gauge_send-end-3 c =
    sym (length-take-le 6400 c.args.state.now (omega (arith, c.requires.state_len)))

pub returns : goal.returns
returns c =
    let s = c.args.state.now in
    let fit = c.requires.state_len in
    send-called s fit _ _ _ c.requires.output_value _ _ _ _
    (c.copy_to.ensures ∙ own-copied s fit)
    (c.copy_to-2.ensures ∙ taken_out 6912 2240 s (omega (arith, fit))) c.gauge_send-answer.auto.waiting
    c.args.body.now _ _ _ (major-taken s fit) (minor-taken s fit) c.read_u32_le-id.ensures
    c.copy_to-3.ensures (c.gauge_send-answer.ensures (night_in s).memory)
