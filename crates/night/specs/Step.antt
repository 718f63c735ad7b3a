-- To believe. One record of a night: it opens the night, or is one call. "Start empty with C 64 and an output of 2,464 bytes. Versions and own record stand in
-- a first record of kind 4, body 102 bytes: major, minor, record; the own CPA is one zero byte", lent behind its length. Assumes nothing.
use Rattle.std.specs.Prelude.{ℕ, not, cond, List, [], ◌∷◌, eqb, length, drop, get_or, replicate}
use Rattle.octet.specs.Number.{value_le}
use Rattle.octet.specs.Part.{part}
use Rattle.refusal.specs.Table.{when, or_refuse}
use Rattle.gauge_plan.specs.Lent.{Memory, memory, empty, receive, send, tick, Call, receives, sends, ticks}
use Rattle.gauge_commit.specs.Sending.{Handed}
use Rattle.gauge.specs.Ours.{ours}
use Rattle.trace.specs.Trace.{kind_of, body_of}
use Rattle.trace.specs.Fault.{faults}

-- ---- the calls that records are

abbrev pub major_of : List ℕ → ℕ
major_of opening = get_or opening 0 0

abbrev pub minor_of : List ℕ → ℕ
minor_of opening = get_or opening 1 0

abbrev pub night_own : List ℕ → List ℕ
night_own opening = part 2 100 opening

abbrev pub output : List ℕ
output = replicate 2464 0

abbrev pub received : List ℕ → List ℕ → Call
received opening body =
    receives (receive (night_own opening) (1 ∷ 0 ∷ 0 ∷ []) (major_of opening) (minor_of opening) (value_le 256 (part 0 4 body)) (part 37 16 body) (get_or body 4 0)
    (part 5 32 body) (drop 53 body) output)

abbrev pub sent : List ℕ → List ℕ → Call
sent opening body =
    sends (send (night_own opening) (major_of opening) (minor_of opening) (value_le 256 (part 0 4 body)) (part 4 32 body) (part 36 32 body) output)

abbrev pub ticked : List ℕ → Call
ticked opening = ticks (tick (night_own opening) output)

-- by the body of the record that opened the night, the kind and the body
abbrev pub call_of : List ℕ → ℕ → List ℕ → Call
call_of opening kind body = cond (eqb kind 1) (received opening body) (cond (eqb kind 2) (sent opening body) (ticked opening))

-- ---- the night so far

-- the body of the record that opened it, and what the calls have left
pub record Night : Type 0 where
  pub opening : List ℕ
  pub memory : Memory

abbrev pub night : List ℕ → Memory → Night
night opening memory = record { opening = opening; memory = memory }

-- the same as it lies in one slice of so many bytes: cache, counts by first byte, waiting table and opening, one behind the other
abbrev pub night_in : List ℕ → Night
night_in s = night (drop 9152 s) (memory (part 0 6400 s) (part 6400 512 s) (part 6912 2240 s))

abbrev pub state_len : ℕ
state_len = 9254

abbrev pub start : Night
start = night (replicate 102 0) (empty 64)

-- the answer to a record, and the night with it
pub record Stepped : Type 0 where
  pub answer : ℕ
  pub night : Night

abbrev pub stepped : ℕ → Night → Stepped
stepped answer n = record { answer = answer; night = n }

-- the call is made on the memory so far
unfoldable pub called : Night → Call → Stepped
called n c =
    let g = ours n.memory c in
    stepped g.answer.number (night n.opening g.memory)

abbrev pub taken : Night → List ℕ → Stepped
taken n r = cond (eqb (kind_of r) 4) (stepped 0 (night (body_of r) n.memory)) (called n (call_of n.opening (kind_of r) (body_of r)))

-- record number `at`, counted from 0; a bad one leaves the night as it was. What is lent for the opening has 102 bytes, else 1 as in document 01
unfoldable pub step_of : ℕ → Night → List ℕ → Stepped
step_of at n r = or_refuse (λ k. stepped k n) (when 1 (not (eqb (length n.opening) 102)) ∷ faults at r) (taken n r)
