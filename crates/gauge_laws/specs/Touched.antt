-- Beside the demands. What a call does to the counts by first byte: "one learned, dropped or removed key touches only its own byte's count" (02, Wish 12). That
-- every gauge which meets the sentences does so stands in sentences/Firsts. Assumes nothing.
use Rattle.std.specs.Prelude.{ℕ, ◌+◌, ◌≤◌, ◌<◌, ◌↔◌, List, ◌≡◌, length}
use Rattle.own.specs.Own.{Own}
use Rattle.kept.specs.Keys.{◌∈◌}
use Rattle.cache.specs.Form.{keys_of, held_of}
use Rattle.firsts.specs.Firsts.{count}
use Rattle.firsts.specs.Places.{count_at}
use Rattle.gauge_plan.specs.Lent.{Memory}

abbrev pub keys_held : Own → Memory → List ℕ
keys_held own m = keys_of (held_of own m.cache)

-- at most one key came and at most one went; each byte's count is what it was, with one more where the key that came begins with it, and one less where the key
-- that went does
pub record Touched (own : Own) (m left : Memory) : Type 0 where
  pub came : List ℕ
  pub went : List ℕ
  pub few : (length came ≤ 1) × (length went ≤ 1)
  pub are-new : (k : ℕ) → (k ∈ came) ↔ ((k ∈ keys_held own left) × (¬ (k ∈ keys_held own m)))
  pub are-gone : (k : ℕ) → (k ∈ went) ↔ ((k ∈ keys_held own m) × (¬ (k ∈ keys_held own left)))
  pub counts : (b : ℕ) → b < 256 → count_at b left.firsts + count b went ≡ count_at b m.firsts + count b came
