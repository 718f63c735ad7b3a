-- `plan_send::held_at` meets its contract: the cache's search, told as the first record with the key. Assumes nothing.
use mathlib.Core.Path.{◌∙◌}
use Rattle.key.specs.Number.{key_at}
use Rattle.table.specs.Rows.{rows}
use Rattle.plan_send.proofs.SendLaws.{held-ok}
use Rattle.plan_send.proofs.held_at.Goals as goal

pub returns : goal.returns
returns c =
    let a = c.args in
    c.ok.ensures.value ∙ held-ok (key_at 0 a.key.now) (rows 100 a.held a.cache.now) c.requires.2 c.find.ensures
