-- To believe. One record of a night, told whole: the number that it is answered with and both counts, the night with it, and what its call wrote into "an output of
-- 2,464 bytes". A record that is no call, and a bad one, has the number alone: counts 0, and an output of zero bytes. Assumes nothing.
use Rattle.std.specs.Prelude.{ℕ, not, cond, List, [], ◌∷◌, eqb, length, replicate}
use Rattle.refusal.specs.Table.{when, or_refuse}
use Rattle.gauge_plan.specs.Lent.{Call}
use Rattle.gauge_commit.specs.declared.Answer.{Answer}
use Rattle.gauge_commit.specs.Sending.{answer}
use Rattle.gauge.specs.Ours.{ours}
use Rattle.trace.specs.Trace.{kind_of, body_of}
use Rattle.trace.specs.Fault.{faults}
use Rattle.night.specs.Step.{Night, night, call_of}

-- all that a record hands back: number and counts, the night, the output
pub record Told : Type 0 where
  pub answer : Answer
  pub night : Night
  pub output : List ℕ

abbrev pub told : Answer → Night → List ℕ → Told
told a n output = record { answer = a; night = n; output = output }

-- the number alone, with so many bytes lent for the output
abbrev pub number_alone : ℕ → ℕ → Night → Told
number_alone room number n = told (answer number 0 0) n (replicate room 0)

-- the call is made on the memory so far, and tells all that it hands back
unfoldable pub called_told : Night → Call → Told
called_told n c =
    let g = ours n.memory c in
    told g.answer (night n.opening g.memory) g.output

abbrev pub taken_told : ℕ → Night → List ℕ → Told
taken_told room n r = cond (eqb (kind_of r) 4) (number_alone room 0 (night (body_of r) n.memory)) (called_told n (call_of n.opening (kind_of r) (body_of r)))

-- record number `at` as in `step_of`; what is lent for the output has 2,464 bytes, else 1 as in document 01
unfoldable pub step_told : ℕ → Night → List ℕ → ℕ → Told
step_told at n r room =
    or_refuse (λ k. number_alone room k n) (when 1 (not (eqb (length n.opening) 102)) ∷ when 1 (not (eqb room 2464)) ∷ faults at r) (taken_told room n r)
