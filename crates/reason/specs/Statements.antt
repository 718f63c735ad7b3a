-- To believe. "The reason printed must be true of the definition, and exactly one is given" (02, Wish 5), of any candidates. Assumes nothing.
use Rattle.std.specs.Prelude.{ℕ, ◌≡◌, List}
use Rattle.key.specs.Around.{apart}
use Rattle.reason.specs.Because.{Because, named_key, AnotherWith, First, Candidates}
use Rattle.reason.specs.Reason.{reason_of}

-- the reason given is the first that holds, and no other is
abbrev pub OneReason : Type 0
OneReason =
    (t : ℕ) (cands : List (List ℕ)) → Candidates cands
    → First t cands (reason_of t cands) × ((b : Because) → First t cands b → b ≡ reason_of t cands)

-- "another candidate is equally near (that key shown)": there is one such key at most
abbrev pub OneOther : Type 0
OneOther =
    (t : ℕ) (cands : List (List ℕ)) → Candidates cands → (j k : ℕ) → AnotherWith t cands j → AnotherWith t cands k
    → apart t j ≡ apart t (named_key t cands) → apart t k ≡ apart t (named_key t cands) → j ≡ k
