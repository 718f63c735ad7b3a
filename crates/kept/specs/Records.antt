-- Helps the code. The same on records of any kind, which have keys, strictly increasing: "a held key has its record replaced", and what is dropped or removed
-- goes with its record. Tied to the keys by `keys-learn` and `keys-without` (proofs/RecordLaws). Assumes nothing.
use Rattle.std.specs.Prelude.{cond, List, [], ◌∷◌, map, ℕ, ltb, eqb, length}

-- the record put in by its key, in place of one that has the key
unfoldable pub put_by : {A : Type 0} → (A → ℕ) → A → List A → List A
put_by key r [] = r ∷ []
put_by key r (q ∷ l) = cond (ltb (key r) (key q)) (r ∷ q ∷ l) (cond (ltb (key q) (key r)) (q ∷ put_by key r l) (r ∷ l))

unfoldable pub without_by : {A : Type 0} → (A → ℕ) → ℕ → List A → List A
without_by key k [] = []
without_by key k (q ∷ l) = cond (eqb k (key q)) (without_by key k l) (q ∷ without_by key k l)

-- learning a record: with more than C, the one whose key the drop rule names goes
unfoldable pub learn_by : {A : Type 0} → (A → ℕ) → (List ℕ → ℕ) → ℕ → List A → A → List A
learn_by key drops C records r =
    let more = put_by key r records in
    cond (ltb C (length more)) (without_by key (drops (map key more)) more) more
