-- Helps the code. What is known of the room in which a record is put together, between two pieces. Assumes nothing.
use Rattle.std.specs.Prelude.{ℕ, ◌≤◌, ◌<◌, List, length, take}
use Rattle.replay.specs.Stream.{wanted}

-- the first n bytes are those of a record that is not whole, and there is room for the longest: a length of 2 bytes, and 65,535 behind it
pub record Begun (n : ℕ) (room : List ℕ) : Type 0 where
  pub roomy : 65537 ≤ length room
  pub inside : n ≤ length room
  pub partly : n < wanted (take n room)
