-- Helps the code. The walk from the point opposite the first own key, which of two places goes, and what the one that goes must be (`Goes`). Assumes nothing.
use Rattle.std.specs.Prelude.{ℕ, ◌+◌, ◌-◌, ◌<◌, min, ◌≡◌, cond, List, ltb, length, get_or}
use Rattle.key.specs.Around.{up}
use Rattle.kept.specs.Turned.{wrapped}
use Rattle.kept.specs.Ponds.{drops_of}
use Rattle.round.specs.Over.{pass_over}
use Rattle.listed.specs.declared.Runs.{Runs}
use Rattle.listed.specs.Runs.{in_runs}

-- how many places in a list there are before the first in none: from a place on, and from before it back
abbrev pub listed_from : ℕ → ℕ → ℕ → Runs → ℕ
listed_from n end most runs = pass_over (λ (i : ℕ). in_runs n (wrapped n (end + i)) runs) 0 most

abbrev pub listed_before : ℕ → ℕ → ℕ → Runs → ℕ
listed_before n end most runs = pass_over (λ (i : ℕ). in_runs n (wrapped n (end - (i + 1))) runs) 0 most

-- of the places x, whose key is above our own, and y, whose is below, the one with the key farther from it; the lower where they are equally far
unfoldable pub farther_of : ℕ → List ℕ → ℕ → ℕ → ℕ
farther_of own keys x y =
    let over = up own (get_or keys x 0) in
    let under = up (get_or keys y 0) own in
    cond (ltb over under) y (cond (ltb under over) x (min x y))

-- the key at place i is the one that the drop rule names
pub record Goes (first : ℕ) (owns keys : List ℕ) (i : ℕ) : Type 0 where
  pub inside : i < length keys
  pub named : drops_of first owns keys ≡ get_or keys i 0
