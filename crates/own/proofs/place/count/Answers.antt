-- `own::place::count` meets its contract. Assumes nothing.
use mathlib.Core.Path.{sym}
use Prim.Native.Nat.{◌/◌}
use lib.ListN.{length}
use Rattle.table.proofs.RowLaws.{rows-length}
use Rattle.own.proofs.place.count.Goals as goal

pub returns : goal.returns
returns c = let own = c.args.own.now in sym (rows-length 100 (length own / 100) own)
