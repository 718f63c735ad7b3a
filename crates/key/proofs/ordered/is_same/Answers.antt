-- `key::is_same` meets its contract: lists of digits are the same where their numbers are. Assumes nothing.
use Rattle.std.proofs.Common.{◌∙◌, arith}
use Rattle.key.proofs.KeyLaws.{same_fields}
use Rattle.key.proofs.ordered.is_same.Goals as goal

pub returns : goal.returns
returns c = c.eq.ensures ∙ same_fields c.args.x c.args.y (omega arith) (omega arith)
