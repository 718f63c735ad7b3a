-- Helps the code. How many bytes an ACK has. Tied to document 01 by `ours-meets` (sentences/Theorems). Assumes nothing.
use Rattle.std.specs.Prelude.{ℕ, Bool, cond}

abbrev pub ack_room : Bool → Bool → ℕ
ack_room silent n = cond silent 0 (cond n 26 20)
