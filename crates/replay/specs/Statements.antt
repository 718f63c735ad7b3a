-- Beside the demands. The whole of what the program writes for a trace; that it is the same however the trace arrives; and "Kind 4, then the tick .., gives one line,
-- "1 0"", "an empty trace gives "0 17"" as text. The trace's lines are night's (Example). Assumes nothing.
use Rattle.std.specs.Prelude.{ℕ, List, [], ◌∷◌, ◌++◌, ◌≡◌}
use Rattle.table.specs.Rows.{joined}
use Rattle.night.specs.Replay.{line, replay}
use Rattle.replay.specs.Text.{texts_of}
use Rattle.replay.specs.Stream.{opened, fed_all, closed}

abbrev pub replay_text : List ℕ → List ℕ
replay_text trace = texts_of (replay trace).lines

-- fed any pieces, and closed: the text and the night are those of the pieces joined
abbrev pub Streams : Type 0
Streams =
    (pieces : List (List ℕ))
    → (let f = fed_all opened pieces in
    let c = closed f.left in
    (f.text ++ c.text ≡ replay_text (joined pieces)) × (c.night ≡ (replay (joined pieces)).night))

abbrev pub Example : Type 0
Example = (texts_of (line 1 0 ∷ []) ≡ 49 ∷ 32 ∷ 48 ∷ 10 ∷ []) × (texts_of (line 0 17 ∷ []) ≡ 48 ∷ 32 ∷ 49 ∷ 55 ∷ 10 ∷ [])
