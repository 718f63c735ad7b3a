-- To believe. "The balance is litres in minus litres out, signed". Assumes nothing.
use Rattle.std.specs.Prelude.{ℕ, ℤ, pos, ◌-ℤ◌}

abbrev pub balance_of : ℕ → ℕ → ℤ
balance_of inflow outflow = pos inflow -ℤ pos outflow
