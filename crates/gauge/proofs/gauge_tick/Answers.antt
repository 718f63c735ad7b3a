-- `gauge_tick` meets its contract: waiting's tick, with its count in 32 bits. Assumes nothing.
use mathlib.Core.Path.{ap, ◌∙◌}
use native.Mathlib.Omega.{arith}
use Rattle.waiting_form.specs.Call.{Ticked}
use Rattle.gauge_plan.specs.Lent.{with_waiting, tick}
use Rattle.gauge.specs.Counts.{tick_answered}
use Rattle.gauge.specs.Ours.{ours}
use Rattle.gauge.proofs.CountLaws.{tick-called, tick_few}
use borrow.Author.Rules.{rules}
use Rattle.gauge.proofs.gauge_tick.Goals as goal

pub answer_of-requires : goal.answer_of-requires
answer_of-requires c =
    let t = c in
    let a = t.args in
    (omega (arith, ap (λ (d : Ticked). d.count) t.tick-done.ensures, tick_few a.own.now a.waiting.now a.output.now), omega arith)

pub returns : goal.returns
returns c o =
    let t = c in
    let a = t.args in
    let m = with_waiting a.waiting.now o in
    rw c.answer_of.ensures (ap (tick_answered m) t.tick-done.ensures ∙ tick-called m (tick a.own.now a.output.now))
