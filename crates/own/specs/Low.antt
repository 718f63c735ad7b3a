-- Helps the code. What the key of place i has to be at least, for the keys to rise: above the one before it. Assumes nothing.
use Rattle.std.specs.Prelude.{ℕ, zero, suc, ◌*◌, List}
use Rattle.key.specs.Number.{key_at}

unfoldable pub low_at : List ℕ → ℕ → ℕ
low_at s zero = 0
low_at s (suc i) = suc (key_at (100 * i) s)
