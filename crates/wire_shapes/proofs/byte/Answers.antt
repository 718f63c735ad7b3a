use mathlib.Core.Path.{sym}
use lib.ListN.{get_or-eq_default}
use Rattle.wire_shapes.proofs.byte.Goals as goal

pub returns-else-at-d : goal.returns-else-at-d
returns-else-at-d c = sym (get_or-eq_default c.args.d.now 0 c.if-at-d.false)
