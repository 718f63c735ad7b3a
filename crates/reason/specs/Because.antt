-- To believe. Why a record is named for a target: "one reason, the first that holds: the only candidate; it has the target key; another candidate
-- is equally near (that key shown) and the tie rule chose; strictly nearest, with the next nearest key (of two equally near, the one that the tie
-- rule in force takes)" (02, Wish 5). The record named is the closest of the candidates; how far keys are apart, which of two is taken before the
-- other, and the tie rule are key's (Around). Assumes nothing.
use Rattle.std.specs.Prelude.{ℕ, ◌<◌, ◌≡◌, true, false, List, [], ◌∷◌, map, length}
use Rattle.key.specs.Around.{apart, tie, closer}
use Rattle.record.specs.Record.{key_of}
use Rattle.kept.specs.Keys.{◌∈◌}
use Rattle.closest_row.specs.Closest.{closest_of}

-- the reasons, in the order in which they are tried, with the key that is shown
pub data Because : Type 0 where
  only target : Because
  tied nearest : ℕ → Because

abbrev pub rank : Because → ℕ
rank only = 0
rank target = 1
rank (tied k) = 2
rank (nearest k) = 3

-- the key of the record that is named
abbrev pub named_key : ℕ → List (List ℕ) → ℕ
named_key t cands = key_of (closest_of t cands)

-- another candidate, and one with the key k
abbrev pub Another : ℕ → List (List ℕ) → List ℕ → Type 0
Another t cands r = (r ∈ cands) × ¬ (key_of r ≡ named_key t cands)

abbrev pub AnotherWith : ℕ → List (List ℕ) → ℕ → Type 0
AnotherWith t cands k = (r : List ℕ) × Another t cands r × (key_of r ≡ k)

-- what each reason says
abbrev pub Holds : ℕ → List (List ℕ) → Because → Type 0
Holds t cands only = length cands ≡ 1
Holds t cands target = named_key t cands ≡ t
Holds t cands (tied k) =
    AnotherWith t cands k × (apart t k ≡ apart t (named_key t cands)) × (tie t (named_key t cands) k ≡ true)
Holds t cands (nearest k) =
    ((r : List ℕ) → Another t cands r → apart t (named_key t cands) < apart t (key_of r))
    × AnotherWith t cands k
    × ((r : List ℕ) → Another t cands r → closer t (key_of r) k ≡ false)

-- it holds, and none that is tried before it does
abbrev pub First : ℕ → List (List ℕ) → Because → Type 0
First t cands b = Holds t cands b × ((c : Because) → rank c < rank b → ¬ Holds t cands c)

-- candidates: one at least, and no key twice
abbrev pub Once : List ℕ → Type 0
Once [] = Unit {0}
Once (k ∷ ks) = ¬ (k ∈ ks) × Once ks

abbrev pub Candidates : List (List ℕ) → Type 0
Candidates cands = (0 < length cands) × Once (map key_of cands)
