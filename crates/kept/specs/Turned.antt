-- Helps the code. The cache keeps plain key order; the keys read round the ring, from the first above our own number on. Assumes nothing.
use Rattle.std.specs.Prelude.{ℕ, ◌+◌, ◌-◌, ◌≡◌, Bool, cond, List, ◌++◌, leb, ltb, length, take, drop}
use Rattle.kept.specs.Keys.{among}

-- a list read from place n to its end and then from its start
unfoldable pub turned : {A : Type 0} → ℕ → List A → List A
turned n l = drop n l ++ take n l

-- another key than the one
abbrev pub NotKey : ℕ → ℕ → Type 0
NotKey own k = ¬ (k ≡ own)

-- how many of the keys are smaller numbers than our own
abbrev pub count_under : ℕ → List ℕ → ℕ
count_under own keys = length (among (λ (k : ℕ). ltb k own) keys)

-- and how many are at most a number
abbrev pub count_upto : ℕ → List ℕ → ℕ
count_upto n keys = length (among (λ (k : ℕ). leb k n) keys)

-- the keys by the steps up from our own key
abbrev pub going_up : ℕ → List ℕ → List ℕ
going_up own keys = turned (count_under own keys) keys

-- place i of n, counted on round: i is less than 2 n
unfoldable pub wrapped : ℕ → ℕ → ℕ
wrapped n i = cond (ltb i n) i (i - n)

-- is place x of n among the five from a place on or the five before it, counted round, where so many are before it? At most those are that there are
abbrev pub in_run : ℕ → ℕ → ℕ → ℕ → Bool
in_run n x first before =
    let i = wrapped n (x + (n - first)) in
    cond (ltb i (n - before)) (ltb i 5) (ltb ((n - 1) - i) 5)
