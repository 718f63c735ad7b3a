-- To believe. "A new key joins. If there are now C + 1 .. drop the key .., even the newcomer"; "a removal is a held key taken out by a revocation or by N; a
-- drop is not one": what a history of such events leaves, and all the keys ever learned.
-- Assumes nothing.
use Rattle.std.specs.Prelude.{◌≡◌, ◌⊎◌, cond, List, [], ◌∷◌, ℕ, ltb, length}
use Rattle.kept.specs.Keys.{◌∈◌, plain, put, without}

-- what an accepted call does to the keys: it learns one, or takes one out
pub data Event : Type 0 where
  learned removed : ℕ → Event

-- more than C keys: the one that the drop rule names goes
unfoldable pub trimmed : (List ℕ → ℕ) → ℕ → List ℕ → List ℕ
trimmed drops C keys = cond (ltb C (length keys)) (without (drops keys) keys) keys

-- learning k: it joins, unless held, and if there are now C + 1, one is dropped, even k
unfoldable pub learn_with : (List ℕ → ℕ) → ℕ → List ℕ → ℕ → List ℕ
learn_with drops C keys k = trimmed drops C (put plain k keys)

unfoldable pub happen : (List ℕ → ℕ) → ℕ → List ℕ → Event → List ℕ
happen drops C keys (learned k) = learn_with drops C keys k
happen drops C keys (removed k) = without k keys

-- the keys kept after the events, the first event first
unfoldable pub after : (List ℕ → ℕ) → ℕ → List ℕ → List Event → List ℕ
after drops C keys [] = keys
after drops C keys (e ∷ es) = after drops C (happen drops C keys e) es

-- from an empty cache
abbrev pub kept_by : (List ℕ → ℕ) → ℕ → List Event → List ℕ
kept_by drops C events = after drops C [] events

-- every key learned, with those that were there before
unfoldable pub gathered : List ℕ → List Event → List ℕ
gathered keys [] = keys
gathered keys (learned k ∷ es) = gathered (put plain k keys) es
gathered keys (removed k ∷ es) = gathered keys es

abbrev pub learned_all : List Event → List ℕ
learned_all events = gathered [] events

-- the events learn k
abbrev pub Learns : ℕ → List Event → Type 0
Learns k [] = ⊥
Learns k (learned j ∷ es) = (k ≡ j) ⊎ Learns k es
Learns k (removed j ∷ es) = Learns k es

-- no removal: a call that would take a key out finds it not held
abbrev pub NoRemoval : (List ℕ → ℕ) → ℕ → List ℕ → List Event → Type 0
NoRemoval drops C keys [] = Unit {0}
NoRemoval drops C keys (learned k ∷ es) = NoRemoval drops C (learn_with drops C keys k) es
NoRemoval drops C keys (removed k ∷ es) = (¬ (k ∈ keys)) × NoRemoval drops C keys es
