-- To believe. The search for a key as the radio program is told of it, and the bound that "the battery people plan by": "at most the number of
-- binary digits of the records used: 0 for none, 9 for 256" (02, Wish 8), of the two calls that tell how many keys they compared. Assumes nothing.
use Rattle.std.specs.Prelude.{ℕ, suc, ◌≤◌, ◌≡◌, ◌↔◌, List, length, get_or}
use Rattle.key.specs.Number.{key_at}
use Rattle.kept.specs.Keys.{◌∈◌}
use Rattle.search.specs.Halving.{digits}
use Rattle.cache.specs.Form.{keys_of}
use Rattle.cache.specs.Calls.{held_by}
use Rattle.cache.specs.Searching.{search_call}
use Rattle.cache.specs.declared.calls.Searched.{Searched}
use Rattle.gauge_commit.specs.declared.Answer.{Answer}
use Rattle.gauge_commit.specs.Sending.{answer}
use Rattle.gauge.specs.Nearest.{gauge_closest}

-- 0 where the key is not held, one more than its place where it is; and how many keys were compared
abbrev pub search_answered : Searched → Answer
search_answered s = answer s.number s.place s.compared

abbrev pub gauge_search : (own cache key : List ℕ) → Answer
gauge_search own cache key = search_answered (search_call own cache key)

-- ---- what is said of it

-- of an accepted search: `first` is 0 exactly where the key is not held, and else the key stands at the place before
pub record Tells (own cache key : List ℕ) : Type 0 where
  pub none : ((gauge_search own cache key).first ≡ 0) ↔ (¬ (key_at 0 key ∈ keys_of (held_by own cache)))
  pub place : (i : ℕ) → (gauge_search own cache key).first ≡ suc i → get_or (keys_of (held_by own cache)) i 0 ≡ key_at 0 key

abbrev pub SearchTells : Type 0
SearchTells = (own cache key : List ℕ) → (gauge_search own cache key).number ≡ 0 → Tells own cache key

-- a count, by how many records are held; and whatever is lent
abbrev pub Few : List ℕ → List ℕ → ℕ → Type 0
Few own cache compared = (compared ≤ digits (length (held_by own cache))) × (compared ≤ 9)

abbrev pub SearchComparesFew : Type 0
SearchComparesFew = (own cache key : List ℕ) → Few own cache (gauge_search own cache key).second

abbrev pub ClosestComparesFew : Type 0
ClosestComparesFew = (own cache path target : List ℕ) → Few own cache (gauge_closest own cache path target).second
