-- Helps the code. What a search for k among rising keys tells: how many of them are smaller, as its place where it is one of them, or else as that before
-- which it would stand; how many were compared.
-- Assumes nothing.
use Rattle.std.specs.Prelude.{ℕ, Bool, cond, List, Result, Ok, Err}
use Rattle.kept.specs.Keys.{has}
use Rattle.kept.specs.Turned.{count_under}
use Rattle.search.specs.Halving.{halvings}
use Rattle.search.specs.declared.Sought.{Sought}

-- so many are smaller: the place where k stands, or would
abbrev pub stands : Bool → ℕ → Result ℕ ℕ
stands held at = cond held (Ok at) (Err at)

abbrev pub sought_in : ℕ → List ℕ → Sought
sought_in k keys = record { found = stands (has k keys) (count_under k keys); compared = halvings keys k }
