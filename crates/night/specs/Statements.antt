-- Beside the demands. What is proved of the replay, for any trace whatsoever; the theorems stand in proofs/Theorems.antt. Assumes nothing.
use Rattle.std.specs.Prelude.{ℕ, ◌+◌, ◌<◌, cond, true, false, List, [], ◌∷◌, ◌++◌, ◌≡◌, length, replicate}
use Rattle.refusal.specs.Table.{first_of}
use Rattle.kept.specs.Keys.{Every}
use Rattle.table.specs.Rows.{joined}
use Rattle.gauge_plan.specs.Lent.{empty, Call}
use Rattle.gauge.specs.Words.{Entry, left, log}
use Rattle.gauge.specs.Ours.{ours}
use Rattle.trace.specs.Trace.{kind_of, body_of, records_of, Piece, written, all_written, trace_of, piece_of}
use Rattle.trace.specs.Fault.{faults, is_good}
use Rattle.night.specs.Step.{Night, night, start, call_of, stepped, step_of}
use Rattle.night.specs.Told.{step_told}
use Rattle.night.specs.Replay.{Line, line, replayed, replay_from, replay, at_end}

-- ---- the calls of a trace: those of its records behind the first, up to the first that is bad

unfoldable pub calls_behind : ℕ → List ℕ → List (List ℕ) → List Call
calls_behind at opening [] = []
calls_behind at opening (r ∷ rs) = cond (is_good at r) (call_of opening (kind_of r) (body_of r) ∷ calls_behind (at + 1) opening rs) []

abbrev pub calls_of : List (List ℕ) → List Call
calls_of [] = []
calls_of (r ∷ rs) = cond (is_good 0 r) (calls_behind 1 (body_of r) rs) []

abbrev pub opening_of : List (List ℕ) → List ℕ
opening_of [] = start.opening
opening_of (r ∷ rs) = cond (is_good 0 r) (body_of r) start.opening

-- a line for each call, from 1 on, with the number that it was given
unfoldable pub numbered : ℕ → List Entry → List Line
numbered at [] = []
numbered at (e ∷ es) = line at e.number ∷ numbered (at + 1) es

-- the line of the first bad record, if there is one
unfoldable pub stop_of : ℕ → List (List ℕ) → List Line
stop_of at [] = at_end at
stop_of at (r ∷ rs) = cond (is_good at r) (stop_of (at + 1) rs) (line at (first_of (faults at r)) ∷ [])

-- "Proved: the end state is that of the same calls made one by one", from empty memory; the lines are those calls' numbers, and the bad record's
abbrev pub OneByOne : Type 0
OneByOne =
    (rs : List (List ℕ)) → replay_from 0 start rs
    ≡ replayed (numbered 1 (log ours (empty 64) (calls_of rs)) ++ stop_of 0 rs) (night (opening_of rs) (left ours (empty 64) (calls_of rs)))

-- "the replay stops there with the state so far": the bad record has the last line, the night is as without it, and what stands behind is not looked at
abbrev pub AllGood : ℕ → List (List ℕ) → Type 0
AllGood at [] = Unit {0}
AllGood at (r ∷ rs) = (is_good at r ≡ true) × AllGood (at + 1) rs

abbrev pub Stops : Type 0
Stops =
    (good more : List (List ℕ)) (bad : List ℕ) → AllGood 0 good → is_good (length good) bad ≡ false
    → replay_from 0 start (good ++ (bad ∷ more))
    ≡ replayed (numbered 1 (log ours (empty 64) (calls_of good)) ++ (line (length good) (first_of (faults (length good) bad)) ∷ []))
    (replay_from 0 start good).night

-- a record told whole is the same step: its number and its night are those of the replay
abbrev pub ToldSame : Type 0
ToldSame = (at : ℕ) (n : Night) (r : List ℕ) → stepped (step_told at n r 2464).answer.number (step_told at n r 2464).night ≡ step_of at n r

-- "reading a written trace gives it back": kinds have 2 bytes, and so have lengths
abbrev pub Writable : Piece → Type 0
Writable p = (p.kind < 65536) × (length p.body < 65534)

abbrev pub TraceReadsBack : Type 0
TraceReadsBack =
    (ps : List Piece) → Every Writable ps → (records_of (trace_of ps) ≡ all_written ps) × Every (λ (p : Piece). piece_of (written p) ≡ p) ps

-- no byte of a trace is lost: its records joined are the trace
abbrev pub Whole : Type 0
Whole = (bytes : List ℕ) → joined (records_of bytes) ≡ bytes

-- "Kind 4, then the tick 02 00 03 00, gives one line, "1 0"": key 100, port 5000, one address; and "an empty trace gives "0 17""
abbrev pub own_record : List ℕ
own_record = replicate 31 0 ++ (100 ∷ 19 ∷ 136 ∷ 1 ∷ 0 ∷ []) ++ replicate 64 0

abbrev pub Example : Type 0
Example =
    ((replay (trace_of (record { kind = 4; body = 6 ∷ 101 ∷ own_record } ∷ record { kind = 3; body = [] } ∷ []))).lines ≡ line 1 0 ∷ [])
    × (written (record { kind = 3; body = [] }) ≡ 2 ∷ 0 ∷ 3 ∷ 0 ∷ [])
    × ((replay []).lines ≡ line 0 17 ∷ [])
