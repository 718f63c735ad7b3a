-- `cut::cut_records` meets its contract: the first i records are changed, and the next is as it was (changed-next). Assumes nothing.
use mathlib.Core.Path.{◌≡◌}
use lib.ListN.{length}
use Rattle.cut.specs.Cut.{converted}
use Rattle.cut.proofs.CutLaws.{Changed, converted-length}
use Rattle.cut.proofs.cut_records.Given as goal

abbrev pub invariant-loop-i : goal.invariant-loop-i
invariant-loop-i l = (length l.cache ≡ length l.initial.cache) × (l.cache ≡ Changed 100 converted converted-length l.initial.cache l.i)
