-- `gauge_plan::opening::open_refusal` meets its contract: row by row, each test is the code's. Assumes nothing.
use mathlib.Core.Path.{sym, ◌∙◌}
use Rattle.table.specs.Rows.{rows}
use Rattle.gauge_plan.proofs.OpeningLaws.{open_none, open-waits, open_full, open_free}
use Rattle.gauge_plan.proofs.opening.open_refusal.Goals as goal

pub returns-then-not-opens : goal.returns-then-not-opens
returns-then-not-opens c =
    let a = c.args in
    sym (open_none (rows 140 a.used a.waiting.now) a.used a.id a.opens (c.if-not-opens.true))

pub returns-then-has_id : goal.returns-then-has_id
returns-then-has_id c =
    let a = c.args in
    sym (open-waits (rows 140 a.used a.waiting.now) a.used a.id a.opens (c.if-not-opens.false) (sym c.has_id.ensures ∙ c.if-has_id.true))

pub returns-then-used-eq16 : goal.returns-then-used-eq16
returns-then-used-eq16 c =
    let a = c.args in
    sym (open_full (rows 140 a.used a.waiting.now) a.used a.id a.opens (c.if-not-opens.false) (sym c.has_id.ensures ∙ c.if-has_id.false)
    c.if-used-eq16.true)

pub returns : goal.returns
returns c =
    let a = c.args in
    sym (open_free (rows 140 a.used a.waiting.now) a.used a.id a.opens (c.if-not-opens.false) (sym c.has_id.ensures ∙ c.if-has_id.false)
    c.if-used-eq16.false)
