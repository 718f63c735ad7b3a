-- Helps the code. Whether a key is one of ours. Tied to document 01 by `ours-meets` (sentences/Theorems). Assumes nothing.
use Rattle.std.specs.Prelude.{ℕ, Bool, not, List}
use Rattle.key.specs.Number.{key_at}
use Rattle.own.specs.Own.{Own, is_own}

-- is the key at a place none of ours?
abbrev pub not_ours : Own → ℕ → List ℕ → Bool
not_ours own at d = not (is_own own (key_at at d))
