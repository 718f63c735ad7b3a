-- `key::is_less` meets its contract: of the three answers one says that it is. Assumes nothing.
use Rattle.std.proofs.Common.{◌∙◌, ap, arith}
use Rattle.std.specs.Ordering.{is_lt, is_some_and}
use Rattle.key.specs.Number.{number}
use Rattle.key.proofs.OrderLaws.{less_by}
use Rattle.key.proofs.KeyLaws.{by_fields}
use Rattle.key.specs.contracts.KeyOrd.TheImpl.Laws.{matches_partial_cmp-law}
use Rattle.key.proofs.ordered.is_less.Goals as goal

pub returns : goal.returns
returns c =
    let x = c.args.x in
    let y = c.args.y in
    c.lt.ensures ∙ ap (is_some_and is_lt) (matches_partial_cmp-law x y) ∙ ap is_lt (by_fields x y (omega arith) (omega arith))
    ∙ less_by (number x) (number y)
