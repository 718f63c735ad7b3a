-- The replay, record by record. In this order: at the end; at a record; the numbers that a call can be given. Assumes nothing.
use mathlib.Core.Path.{◌≡◌, refl}
use mathlib.Core.Bool.{true, false, cond}
use mathlib.Core.List.{List, [], ◌∷◌}
use Prim.Native.Nat.{ℕ, ◌+◌}
use Rattle.trace.specs.Fault.{ends}
use Rattle.night.specs.Step.{Night, step_of}
use Rattle.night.specs.Replay.{line_of, replayed, behind, at_end, replay_from}

module _ (at : ℕ) (n : Night) where
  pub at_end_lem : replay_from at n [] ≡ replayed (at_end at) n
  unfolding replay_from
  at_end_lem = refl

  module _ (r : List ℕ) (rs : List (List ℕ)) where
    -- the replay goes on behind a record that is not bad ..
    pub goes_on : ends (step_of at n r).answer ≡ false
        → replay_from at n (r ∷ rs) ≡ behind (line_of at (step_of at n r).answer) (replay_from (at + 1) (step_of at n r).night rs)
    unfolding replay_from
    goes_on e = rw e refl

    -- .. and ends with one that is
    pub ends_there : ends (step_of at n r).answer ≡ true
        → replay_from at n (r ∷ rs) ≡ replayed (line_of at (step_of at n r).answer) (step_of at n r).night
    unfolding replay_from
    ends_there e = rw e refl
