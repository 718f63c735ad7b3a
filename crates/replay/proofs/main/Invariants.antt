-- `replay::main` meets its contract: so far 4096 bytes a read at most have come, and the rooms keep their lengths. Assumes nothing.
use mathlib.Core.Path.{◌≡◌}
use Prim.Native.Nat.{◌*◌, ◌≤◌}
use lib.ListN.{length}
use Rattle.night.specs.Step.{state_len}
use Rattle.replay.specs.Room.{Begun}
use Rattle.replay.proofs.main.Given as goal

abbrev pub invariant-loop-reads : goal.invariant-loop-reads
invariant-loop-reads l =
    (l.held.at ≤ 4096 * l._reads) × Begun l.held.begun l.room
    × (state_len ≡ length l.state)
    × (65537 ≡ length l.room)
    × (4096 ≡ length l.piece)
    × (172032 ≡ length l.text)
