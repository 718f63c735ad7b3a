-- Beside the demands. What is proved of a call; the theorems stand in proofs/Theorems.antt. `listed r output ≡ list_call ..` is the contract of `gauge_changes`.
-- Assumes nothing.
use Rattle.std.specs.Prelude.{ℕ, ◌<◌, ◌≡◌, true, false, ◌↔◌, List, length}
use Rattle.refusal.specs.Table.{applies_in}
use Rattle.table.specs.Rows.{bytes_of}
use Rattle.cache.specs.Calls.{held_by}
use Rattle.changed.specs.Changes.{apply}
use Rattle.changed.specs.Statements.{Lists}
use Rattle.gauge_commit.specs.Sending.{OnlyFirst}
use Rattle.changes.specs.Listed.{changes_of, refused_with, list_done, list_wrong, list_call}

-- an accepted call
pub record Tells (own first second output : List ℕ) : Type 0 where
  -- what is handed back is the list, which has each difference of the two caches' records and no other, in key order
  pub handed : list_call own first second output ≡ list_done (changes_of own first second) output
  pub lists : Lists (held_by own first) (held_by own second) (changes_of own first second)
  -- "changing the first cache by that list gives the second", byte for byte
  pub back : bytes_of (length first) (apply (changes_of own first second) (held_by own first)) ≡ second
  -- and no entry is there exactly where the two are equal
  pub empty : (length (changes_of own first second) ≡ 0) ↔ (first ≡ second)

abbrev pub ListTells : Type 0
ListTells = (own first second output : List ℕ) → (list_call own first second output).given.number ≡ 0 → Tells own first second output

-- a number is given exactly where it applies and no lower one does; then nothing is written, and no counts are given
abbrev pub ListExactly : Type 0
ListExactly =
    (own first second output : List ℕ) (n : ℕ) → 0 < n
    → ((list_call own first second output).given.number ≡ n)
    ↔ ((applies_in n (list_wrong own first second output) ≡ true) × ((m : ℕ) → m < n → applies_in m (list_wrong own first second output) ≡ false))

abbrev pub ListKeeps : Type 0
ListKeeps =
    (own first second output : List ℕ) → 0 < (list_call own first second output).given.number
    → list_call own first second output ≡ refused_with output (list_call own first second output).given.number

-- "On acceptance the output changes only in its first bytes, as many as returned." So it is with a refusal, which returns none
abbrev pub ListFirst : Type 0
ListFirst =
    (own first second output : List ℕ)
    → OnlyFirst (list_call own first second output).given.second output (list_call own first second output).output
