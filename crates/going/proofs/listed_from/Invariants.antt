-- `going::listed_from` meets its contract: what the whole walk answers is what the walk from number i on answers. Assumes nothing.
use mathlib.Core.Path.{◌≡◌}
use Prim.Native.Nat.{ℕ, ◌+◌, ◌-◌}
use Rattle.kept.specs.Turned.{wrapped}
use Rattle.round.specs.Over.{pass_over}
use Rattle.listed.specs.Runs.{in_runs}
use Rattle.going.proofs.listed_from.Given as goal

abbrev pub invariant-loop-i : goal.invariant-loop-i
invariant-loop-i l =
    pass_over (λ (j : ℕ). in_runs l.total (wrapped l.total (l.end + j)) l.runs) 0 l.most
    ≡ pass_over (λ (j : ℕ). in_runs l.total (wrapped l.total (l.end + j)) l.runs) l.i (l.most - l.i)
