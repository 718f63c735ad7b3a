-- To believe. Lists of keys, which are numbers. An order is given by a measure f: the cache's own is `plain` (01: "keys strictly increasing"), that of a
-- side is how near a key is.
-- Assumes nothing.
use Rattle.std.specs.Prelude.{◌≡◌, ◌⊎◌, Bool, false, ◌||◌, cond, List, [], ◌∷◌, ℕ, suc, ◌≤◌, ltb, eqb}

infix 40 ◌∈◌
-- k stands in the list
abbrev pub ◌∈◌ : {A : Type 0} → A → List A → Type 0
k ∈ [] = ⊥
k ∈ (j ∷ l) = (k ≡ j) ⊎ (k ∈ l)

-- is the key k in the list?
unfoldable pub has : ℕ → List ℕ → Bool
has k [] = false
has k (j ∷ l) = eqb k j || has k l

-- each entry of the list is as P says
abbrev pub Every : {A : Type 0} → (A → Type 0) → List A → Type 0
Every P [] = Unit {0}
Every P (a ∷ l) = P a × Every P l

-- strictly increasing by f, and from b on: so each once
abbrev pub Rising : (ℕ → ℕ) → ℕ → List ℕ → Type 0
Rising f b [] = Unit {0}
Rising f b (j ∷ l) = (b ≤ f j) × Rising f (suc (f j)) l

-- plain number order
abbrev pub plain : ℕ → ℕ
plain k = k

-- k put in its place in a list that rises by f; a list that has it stays
unfoldable pub put : (ℕ → ℕ) → ℕ → List ℕ → List ℕ
put f k [] = k ∷ []
put f k (j ∷ l) = cond (ltb (f k) (f j)) (k ∷ j ∷ l) (cond (ltb (f j) (f k)) (j ∷ put f k l) (j ∷ l))

-- the list without k
unfoldable pub without : ℕ → List ℕ → List ℕ
without k [] = []
without k (j ∷ l) = cond (eqb k j) (without k l) (j ∷ without k l)

-- those that pass the test
unfoldable pub among : (ℕ → Bool) → List ℕ → List ℕ
among p [] = []
among p (j ∷ l) = cond (p j) (j ∷ among p l) (among p l)

-- the same keys, rising by f
unfoldable pub in_order : (ℕ → ℕ) → List ℕ → List ℕ
in_order f [] = []
in_order f (j ∷ l) = put f j (in_order f l)

-- the last of d and then the list
unfoldable pub last_or : ℕ → List ℕ → ℕ
last_or d [] = d
last_or d (j ∷ l) = last_or j l
