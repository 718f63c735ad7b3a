-- To believe. The search for a key: "return, beside each search, the number of keys compared" (02, Wish 8); refused with 1 where "lent memory is
-- not as above" or the key has not 32 bytes. Our own key is searched for like any other: it is not held. Assumes nothing.
use Rattle.std.specs.Prelude.{ℕ, suc, cond, List, [], ◌∷◌, ltb, length}
use Rattle.key.specs.Number.{key_at}
use Rattle.refusal.specs.Table.{Refusal, or_refuse}
use Rattle.kept.specs.Keys.{has, among}
use Rattle.search.specs.Halving.{halvings}
use Rattle.cache.specs.Form.{keys_of}
use Rattle.cache.specs.Calls.{memory_wrong, key_wrong, held_by}
use Rattle.cache.specs.declared.calls.Searched.{Searched}

abbrev pub searched : ℕ → ℕ → ℕ → Searched
searched n place compared = record { number = n; place = place; compared = compared }

-- 0 where k is none of the keys, else one more than its place: so many of them are smaller
unfoldable pub place_among : ℕ → List ℕ → ℕ
place_among k keys = cond (has k keys) (suc (length (among (λ (j : ℕ). ltb j k) keys))) 0

abbrev pub search_wrong : List ℕ → List ℕ → List ℕ → List Refusal
search_wrong own cache key = memory_wrong own cache (key_wrong key ∷ [])

unfoldable pub search_call : (own cache key : List ℕ) → Searched
search_call own cache key =
    let keys = keys_of (held_by own cache) in
    or_refuse (λ (n : ℕ). searched n 0 0) (search_wrong own cache key)
    (searched 0 (place_among (key_at 0 key) keys) (halvings keys (key_at 0 key)))
