-- Helps the code. Places that a walk passes over. Assumes nothing.
use Rattle.std.specs.Prelude.{ℕ, zero, suc, Bool, cond}

-- of n numbers from i on, the first at which the test fails; the one behind them where it holds at all
unfoldable pub pass_over : (ℕ → Bool) → ℕ → ℕ → ℕ
pass_over f i zero = i
pass_over f i (suc n) = cond (f i) (pass_over f (suc i) n) i
