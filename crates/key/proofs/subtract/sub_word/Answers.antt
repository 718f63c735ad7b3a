-- `key::sub_word` meets its contract: where a wrapping difference wraps, one was borrowed. Assumes nothing.
use Rattle.std.proofs.Common.{arith}
use Rattle.key.proofs.subtract.sub_word.Goals as goal

pub returns-then-x-y : goal.returns-then-x-y
returns-then-x-y c = (omega arith, omega arith)

pub returns-then-part-borrow : goal.returns-then-part-borrow
returns-then-part-borrow c = (omega arith, omega arith)

pub returns : goal.returns
returns c = (omega arith, omega arith)
