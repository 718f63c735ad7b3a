-- `firsts::first_byte` meets its contract: the key's first word begins with it. Assumes nothing.
use native.Mathlib.Omega.{arith}
use Rattle.firsts.proofs.ByteLaws.{word_begins}
use Rattle.firsts.proofs.first_byte.Goals as goal

pub returns : goal.returns
returns c = word_begins c.args.key (omega arith)
