-- Helps the code. The reason, computed: by the record that is named and the closest of the others, if there are any. Tied to what is believed by
-- `one-reason` (Theorems). Assumes nothing.
use Rattle.std.specs.Prelude.{ℕ, Bool, not, cond, List, [], ◌∷◌, eqb}
use Rattle.std.proofs.Math.Option.{Option, some, none}
use Rattle.key.specs.Around.{apart}
use Rattle.record.specs.Record.{key_of}
use Rattle.closest_row.specs.Closest.{closest_from}
use Rattle.reason.specs.Because.{Because, only, target, tied, nearest, named_key}
use Rattle.reason.specs.declared.Reason.{Reason}
use Rattle.reason.specs.declared.Reason.TheVariants.{Only, Target, Tied, Nearest}

-- the records that pass a test
unfoldable pub passing : (List ℕ → Bool) → List (List ℕ) → List (List ℕ)
passing f [] = []
passing f (r ∷ rs) = cond (f r) (r ∷ passing f rs) (passing f rs)

-- has the record another key?
abbrev pub differs : ℕ → List ℕ → Bool
differs k r = not (eqb (key_of r) k)

-- the closest of some records, if there are any; and of these and one that was found before them, if one was
abbrev pub closest_in : ℕ → List (List ℕ) → Option (List ℕ)
closest_in t [] = none
closest_in t (r ∷ rs) = some (closest_from t r rs)

abbrev pub closest_with : ℕ → Option (List ℕ) → List (List ℕ) → Option (List ℕ)
closest_with t none rs = closest_in t rs
closest_with t (some r) rs = some (closest_from t r rs)

-- the closest of the candidates but the one that is named
abbrev pub next_of : ℕ → List (List ℕ) → Option (List ℕ)
next_of t cands = closest_in t (passing (differs (named_key t cands)) cands)

-- the reason where there are two, by their keys; and where there may be one
abbrev pub because_by : (t k next : ℕ) → Because
because_by t k next = cond (eqb k t) target (cond (eqb (apart t next) (apart t k)) (tied next) (nearest next))

abbrev pub reason_by : ℕ → ℕ → Option (List ℕ) → Because
reason_by t k none = only
reason_by t k (some r) = because_by t k (key_of r)

unfoldable pub reason_of : ℕ → List (List ℕ) → Because
reason_of t cands = reason_by t (named_key t cands) (next_of t cands)

-- the code's answer: whether the record is alone, and else by the keys of the two
abbrev pub given_by : Bool → (t k next : ℕ) → Reason
given_by alone t k next = cond alone Only (cond (eqb k t) Target (cond (eqb (apart t next) (apart t k)) Tied Nearest))

-- it with the key of the other candidate
abbrev pub because_of : Reason → ℕ → Because
because_of Only k = only
because_of Target k = target
because_of Tied k = tied k
because_of Nearest k = nearest k
