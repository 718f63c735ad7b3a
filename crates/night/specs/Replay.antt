-- To believe. The replay of a trace: "writes for each later record its number from 1, a space and the answer"; "each is written as that record's line, the
-- replay stops there with the state so far, a bad first record has line number 0, an empty trace gives "0 17"". Assumes nothing.
use Rattle.std.specs.Prelude.{ℕ, ◌+◌, cond, ◌&&◌, List, [], ◌∷◌, ◌++◌, eqb}
use Rattle.trace.specs.Trace.{records_of}
use Rattle.trace.specs.Fault.{ends}
use Rattle.night.specs.Step.{Night, Stepped, start, step_of}

pub record Line : Type 0 where
  pub place : ℕ
  pub answer : ℕ

abbrev pub line : ℕ → ℕ → Line
line place answer = record { place = place; answer = answer }

-- records are counted from 0: the first has a line only where it is bad
abbrev pub line_of : ℕ → ℕ → List Line
line_of at answer = cond (eqb at 0 && eqb answer 0) [] (line at answer ∷ [])

pub record Replayed : Type 0 where
  pub lines : List Line
  pub night : Night

abbrev pub replayed : List Line → Night → Replayed
replayed lines n = record { lines = lines; night = n }

abbrev pub behind : List Line → Replayed → Replayed
behind lines r = replayed (lines ++ r.lines) r.night

-- the end of the trace: nothing more, but for a trace of no record
abbrev pub at_end : ℕ → List Line
at_end at = cond (eqb at 0) (line 0 17 ∷ []) []

unfoldable pub replay_from : ℕ → Night → List (List ℕ) → Replayed
replay_from at n [] = replayed (at_end at) n
replay_from at n (r ∷ rs) =
    let s = step_of at n r in
    cond (ends s.answer) (replayed (line_of at s.answer) s.night) (behind (line_of at s.answer) (replay_from (at + 1) s.night rs))

abbrev pub replay : List ℕ → Replayed
replay bytes = replay_from 0 start (records_of bytes)
