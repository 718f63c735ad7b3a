-- `plan_answer::plan_ack` meets its contract: by the place that is found. Assumes nothing.
use mathlib.Core.Path.{sym, ◌∙◌}
use borrow.Author.Rules.{rules}
use Rattle.table.specs.Rows.{rows}
use Rattle.plan_answer.proofs.AnsweringLaws.{ack-none, ack-by}
use Rattle.plan_answer.proofs.plan_ack.Goals as goal

pub returns-in_default : goal.returns-in_default
returns-in_default c =
    let a = c.args in
    sym (ack-none (rows 140 a.used a.waiting.now) a.held a.used a.acked a.n
    (sym c.find.ensures ∙ c.in_default.is))

pub returns : goal.returns
returns c =
    let a = c.args in
    sym (ack-by (rows 140 a.used a.waiting.now) a.held a.used a.acked a.n
    (sym c.find.ensures ∙ c.in-Some.is))
