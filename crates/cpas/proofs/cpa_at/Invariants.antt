-- `cpas::cpa_at` meets its contract: what is sought is always there in what is left. Assumes nothing.
use Prim.Native.Nat.{◌≤◌}
use lib.ListN.{length}
use Rattle.cpas.proofs.CpaLaws.{Left}
use Rattle.cpas.proofs.cpa_at.Given as goal

abbrev pub invariant-loop-i : goal.invariant-loop-i
invariant-loop-i l = (l.at ≤ length l.cpas) × Left l.place l._i l.at l.cpas
