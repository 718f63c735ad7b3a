-- To believe. The ways in which a record can be bad: "Refusals: 16 for a record cut short or of wrong length, 17 for an unknown kind or a kind 4 missing or
-- repeated". Assumes nothing.
use Rattle.std.specs.Prelude.{ℕ, ◌+◌, Bool, not, ◌&&◌, ◌||◌, List, [], ◌∷◌, eqb, ltb, length}
use Rattle.refusal.specs.Table.{Refusal, when, first_of}
use Rattle.trace.specs.Trace.{length_of, kind_of, body_of, is_kind, body_fits}

-- the first record, number 0, is of kind 4, and no later one is
abbrev pub misplaced : ℕ → ℕ → List Refusal
misplaced at kind = when 17 (eqb at 0 && not (eqb kind 4)) ∷ when 17 (ltb 0 at && eqb kind 4) ∷ []

-- cut short, or longer than its length says; too short to have a kind; not as long as its kind is; unknown; out of place
unfoldable pub faults : ℕ → List ℕ → List Refusal
faults at r =
    when 16 (not (eqb (length r) (2 + length_of r)))
    ∷ when 16 (ltb (length_of r) 2)
    ∷ when 16 (not (body_fits (kind_of r) (length (body_of r))))
    ∷ when 17 (not (is_kind (kind_of r)))
    ∷ misplaced at (kind_of r)

abbrev pub is_good : ℕ → List ℕ → Bool
is_good at r = eqb (first_of (faults at r)) 0

-- the replay stops at a bad record, not at a call that is refused
abbrev pub ends : ℕ → Bool
ends answer = eqb answer 16 || eqb answer 17
