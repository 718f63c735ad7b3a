-- Beside the demands. What the theorems ask of an order round our own key and of a drop rule. `ok` says which numbers may be keys of the cache.
-- Assumes nothing.
use Rattle.std.specs.Prelude.{◌≡◌, List, ℕ, ◌<◌, length}
use Rattle.kept.specs.Keys.{◌∈◌, Every, Rising, plain}
use Rattle.key.specs.Around.{Side}
use Rattle.kept.specs.Neighbours.{neighbours_by}

-- two keys on one side are not equally near
pub record Order (ok : ℕ → Type 0) (side : ℕ → Side) (near : ℕ → ℕ) : Type 0 where
  pub apart : (a b : ℕ) → ok a → ok b → side a ≡ side b → near a ≡ near b → a ≡ b

-- of more than C keys the rule names one of them that is in neither neighbour list
pub record DropRule (ok : ℕ → Type 0) (side : ℕ → Side) (near : ℕ → ℕ) (drops : List ℕ → ℕ) (C : ℕ) : Type 0 where
  pub held : (keys : List ℕ) → Rising plain 0 keys → Every ok keys → C < length keys → drops keys ∈ keys
  pub spare : (keys : List ℕ) → Rising plain 0 keys → Every ok keys → C < length keys → (s : Side) → ¬ (drops keys ∈ neighbours_by side near s keys)
