-- Worked cases. Request 5's own: the key that is named for a target among our own and those held, and why. Assumes nothing.
use Rattle.std.specs.Prelude.{ℕ, ◌≡◌, List, [], ◌∷◌, map}
use Rattle.octet.specs.Number.{digits_be}
use Rattle.reason.specs.Because.{Because, only, target, tied, nearest, named_key}
use Rattle.reason.specs.Reason.{reason_of}

-- what closeness asks of a record is its key
unfoldable pub keyed : List ℕ → List (List ℕ)
keyed keys = map (digits_be 256 32) keys

abbrev pub Case : List ℕ → ℕ → ℕ → Because → Type 0
Case keys t k b = (named_key t (keyed keys) ≡ k) × (reason_of t (keyed keys) ≡ b)

-- own 50 alone; 99 held, and the target; 99 and 101 held, target 100; 90 and 105; own 5 and 97, 110, 90, of which 90 and 110 are equally near
abbrev pub Cases : Type 0
Cases =
    Case (50 ∷ []) 7 50 only
    × Case (50 ∷ 99 ∷ []) 99 99 target
    × Case (50 ∷ 99 ∷ 101 ∷ []) 100 99 (tied 101)
    × Case (50 ∷ 90 ∷ 105 ∷ []) 100 105 (nearest 90)
    × Case (5 ∷ 90 ∷ 97 ∷ 110 ∷ []) 100 97 (nearest 90)
