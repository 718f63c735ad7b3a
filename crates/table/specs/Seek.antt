-- Helps the code. The first row that passes a test, and where it stands. Tied to `any_of` by `any_found` (SeekLaws). Assumes nothing.
use Rattle.std.specs.Prelude.{ℕ, ◌+◌, Bool, cond, List, [], ◌∷◌, Option, Some, None}

-- where the first row stands that passes the test; the list's first is number n
unfoldable pub seek : (List ℕ → Bool) → ℕ → List (List ℕ) → Option ℕ
seek test n [] = None
seek test n (r ∷ rs) = cond (test r) (Some n) (seek test (n + 1) rs)
