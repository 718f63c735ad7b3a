-- `gauge_receive` meets its contract: own records out of form are refused, as the plan would refuse them. Assumes nothing.
use mathlib.Core.Path.{◌≡◌, sym, ◌∙◌}
use borrow.Author.Tests.{not-true}
use Rattle.gauge_plan.specs.Lent.{memory, receive}
use Rattle.gauge.specs.Receive.{carried}
use Rattle.gauge.specs.Ours.{ours}
use Rattle.gauge.proofs.ReceiveLaws.{call_by, plan_own}
use borrow.Author.Rules.{rules}
use Rattle.gauge.proofs.gauge_receive.Goals as goal

pub returns-then-not-is_own_formed : goal.returns-then-not-is_own_formed
unfolding carried
returns-then-not-is_own_formed c =
    let o = c in
    let a = o.args in
    let m = memory a.cache.now a.firsts.now a.waiting.now in
    let l = receive a.own.now a.cpas.now a.major a.minor a.id a.nonce.now a.verdict a.key.now a.datagram.now a.output.now in
    rw c.answer_of.ensures (sym (call_by m l (plan_own m l (sym o.is_own_formed.ensures ∙ c.if-not-is_own_formed.true))))

pub returns : goal.returns
returns c = c.plan_and_commit.ensures
