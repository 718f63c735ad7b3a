-- `neighbours::nearest::skipped_down` meets its contract: what the whole walk answers is what the walk from number i on answers. Assumes nothing.
use mathlib.Core.Path.{◌≡◌}
use Prim.Native.Nat.{ℕ, ◌-◌}
use Rattle.round.specs.Over.{pass_over}
use Rattle.neighbours.specs.Where.{steps_down, skips_at}
use Rattle.neighbours.proofs.nearest.skipped_down.Given as goal

abbrev pub invariant-loop-i : goal.invariant-loop-i
invariant-loop-i l =
    pass_over (λ (j : ℕ). skips_at l.path l.cache (steps_down l.used l.at j)) 0 l.used
    ≡ pass_over (λ (j : ℕ). skips_at l.path l.cache (steps_down l.used l.at j)) l.i (l.used - l.i)
