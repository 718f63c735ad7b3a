-- `listed::is_smaller` meets its contract. Assumes nothing.
use mathlib.Core.Path.{ap, ◌∙◌}
use Rattle.std.specs.Ordering.{is_lt}
use Rattle.record.specs.Record.{key_of}
use Rattle.key.proofs.OrderLaws.{less_by}
use Rattle.listed.proofs.is_smaller.Goals as goal

pub returns : goal.returns
returns c =
    let a = c.args in
    c.is_lt.ensures ∙ ap is_lt c.order_at.ensures ∙ less_by (key_of a.«record».now) (key_of a.own.now)
