-- `replay::stream::feed` meets its contract. Assumes nothing.
use mathlib.Core.Path.{◌≡◌, refl, ◌∙◌}
use Prim.Native.Nat.{◌+◌, ◌-◌, ◌*◌, ◌≤◌}
use native.Mathlib.Omega.{arith}
use lib.ListN.{length, take, drop}
use Rattle.night.specs.Step.{night_in}
use Rattle.replay.specs.Stream.{stream, after, fed}
use Rattle.replay.specs.Room.{Begun}
use Rattle.replay.proofs.RoomLaws.{piece-turn, piece-over, piece-end, Run, run_of_lem, run-asks, run-closer, run-lines, run-numbers, length_run, up_to, up_to_end, at_piece_end}
use Rattle.replay.proofs.stream.feed.Given as goal

abbrev pub invariant-loop-i : goal.invariant-loop-i
invariant-loop-i l =
    (fed (stream l.initial.h.at (night_in l.initial.state) (take l.initial.h.begun l.initial.room) l.initial.h.over) l.piece
    ≡ after (take l.h.end l.text) (fed (stream l.h.at (night_in l.state) (take l.h.begun l.room) l.h.over) (drop l.i l.piece)))
    × (l.i ≤ length l.piece)
    × (l.h.end ≤ 42 * l.i)
    × (l.h.at ≤ l.initial.h.at + l.i)
    × Begun l.h.begun l.room
    × (length l.state ≡ length l.initial.state)
    × (length l.room ≡ length l.initial.room)
    × (length l.text ≡ length l.initial.text)

abbrev pub decreases-loop-i : goal.decreases-loop-i
decreases-loop-i l = length l.piece - l.i
