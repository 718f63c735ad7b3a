-- To believe. Rows of any width in lent memory, as document 01 lays out the cache and the waiting table: the used ones first, "the rest all zero".
-- Assumes nothing.
use Rattle.std.specs.Prelude.{ℕ, zero, suc, ◌-◌, ◌*◌, ◌≤◌, ◌≡◌, Bool, true, false, ◌||◌, List, [], ◌∷◌, ◌++◌, length, take, drop, replicate}
use Rattle.octet.specs.Part.{all_zero}

-- the first n rows of w bytes
unfoldable pub rows : ℕ → ℕ → List ℕ → List (List ℕ)
rows w zero s = []
rows w (suc n) s = take w s ∷ rows w n (drop w s)

-- rows, one after the other
unfoldable pub joined : List (List ℕ) → List ℕ
joined [] = []
joined (r ∷ rs) = r ++ joined rs

-- rows, one after the other, then zeros up to so many bytes
unfoldable pub bytes_of : ℕ → List (List ℕ) → List ℕ
bytes_of size rs = joined rs ++ replicate (size - length (joined rs)) 0

-- each row has w bytes
abbrev pub Sized : ℕ → List (List ℕ) → Type 0
Sized w [] = Unit {0}
Sized w (r ∷ rs) = (length r ≡ w) × Sized w rs

-- s has room for n rows of w bytes, and zeros after them
pub record Laid (w n : ℕ) (s : List ℕ) : Type 0 where
  pub room : w * n ≤ length s
  pub clear : all_zero (drop (w * n) s) ≡ true

-- a row more, which stands at place i
abbrev pub insert_at : ℕ → List ℕ → List (List ℕ) → List (List ℕ)
insert_at i r rs = take i rs ++ (r ∷ drop i rs)

-- the row at place i taken out
abbrev pub remove_at : ℕ → List (List ℕ) → List (List ℕ)
remove_at i rs = take i rs ++ drop (suc i) rs

-- does one of the rows pass a test?
unfoldable pub any_of : (List ℕ → Bool) → List (List ℕ) → Bool
any_of test [] = false
any_of test (r ∷ rs) = test r || any_of test rs
