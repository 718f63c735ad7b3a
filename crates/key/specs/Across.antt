-- Helps the code. The point of the ring opposite a key, half the ring on from it: by it the keys above our own are found in plain key order.
-- Assumes nothing.
use Rattle.std.specs.Prelude.{ℕ, ◌+◌, ◌-◌, cond, nat_lt}
use Rattle.key.specs.Around.{half}

unfoldable pub across : ℕ → ℕ
across k = cond (nat_lt k half) (k + half) (k - half)
