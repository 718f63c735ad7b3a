-- `key::compare` meets its contract: the first words that differ decide, and lists of digits stand as their numbers do. Assumes nothing.
use Rattle.std.proofs.Common.{◌∙◌, arith}
use Rattle.key.proofs.KeyLaws.{by_fields}
use Rattle.key.proofs.ordered.compare.Goals as goal

pub returns : goal.returns
returns c = c.cmp.ensures ∙ by_fields c.args.x c.args.y (omega arith) (omega arith)
