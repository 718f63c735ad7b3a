-- Beside the demands. What is proved of the list; the theorems stand in proofs/Theorems.antt. Assumes nothing.
use Rattle.std.specs.Prelude.{ℕ, ◌≡◌, ◌↔◌, List, [], map}
use Rattle.record.specs.Record.{key_of}
use Rattle.kept.specs.Keys.{◌∈◌, Rising, plain}
use Rattle.cache.specs.Form.{keys_of}
use Rattle.changed.specs.Changes.{Change, gone, new, other, key_in, changes, apply}

-- what an entry says of the two caches' records: a key of the first only; a record of the second whose key is not in the first, or is there, but not the
-- very record
abbrev pub Differs : List (List ℕ) → List (List ℕ) → Change → Type 0
Differs a b (gone k) = (k ∈ keys_of a) × (¬ (k ∈ keys_of b))
Differs a b (new r) = (r ∈ b) × (¬ (key_of r ∈ keys_of a))
Differs a b (other r) = (r ∈ b) × (key_of r ∈ keys_of a) × (¬ (r ∈ a))

-- "List, in key order, each key .. and no other"
pub record Lists (a b : List (List ℕ)) (l : List Change) : Type 0 where
  pub ordered : Rising plain 0 (map key_in l)
  pub exactly : (c : Change) → (c ∈ l) ↔ Differs a b c

-- records with strictly increasing keys, as every cache in form holds them
abbrev pub InOrder : List (List ℕ) → Type 0
InOrder a = Rising plain 0 (keys_of a)

abbrev pub ChangesLists : Type 0
ChangesLists = (a b : List (List ℕ)) → InOrder a → InOrder b → Lists a b (changes a b)

-- no other list does
abbrev pub ListsOne : Type 0
ListsOne = (a b : List (List ℕ)) → InOrder a → InOrder b → (l : List Change) → Lists a b l → l ≡ changes a b

-- "changing the first cache by that list gives the second"
abbrev pub AppliesBack : Type 0
AppliesBack = (a b : List (List ℕ)) → InOrder a → InOrder b → apply (changes a b) a ≡ b

-- nothing is listed exactly where nothing changed
abbrev pub EmptySame : Type 0
EmptySame = (a b : List (List ℕ)) → InOrder a → InOrder b → (changes a b ≡ []) ↔ (a ≡ b)
