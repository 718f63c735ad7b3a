-- `cut::cut_places` meets its contract: the first i places are changed, and the next is as it was (changed-next). Assumes nothing.
use mathlib.Core.Path.{◌≡◌}
use lib.ListN.{length}
use Rattle.cut.specs.Cut.{converted_place}
use Rattle.cut.proofs.CutLaws.{Changed, place_length}
use Rattle.cut.proofs.cut_places.Given as goal

abbrev pub invariant-loop-i : goal.invariant-loop-i
invariant-loop-i l = (length l.table ≡ length l.initial.table) × (l.table ≡ Changed 140 converted_place place_length l.initial.table l.i)
