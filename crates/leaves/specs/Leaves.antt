-- Helps the code. What the leaf functions answer to C, on any input. Assumes nothing.
use Rattle.std.specs.Prelude.{ℕ, ◌+◌, Bool, cond, ◌&&◌, List, [], eqb, leb, length}
use Rattle.octet.specs.Number.{value_be}
use Rattle.octet.specs.Part.{part}
use Rattle.key.specs.Number.{key_at}
use Rattle.key.specs.Around.{closer}
use Rattle.own.specs.Own.{own_keys}
use Rattle.cache.specs.Form.{cache_form, held_in}
use Rattle.neighbours.specs.Calls.{closest_call}

unfoldable pub word_or0 : ℕ → List ℕ → ℕ
word_or0 at s = cond (leb (at + 8) (length s)) (value_be 256 (part at 8 s)) 0

unfoldable pub closer_or2 : List ℕ → List ℕ → List ℕ → ℕ
closer_or2 target k j =
    cond (eqb (length target) 32 && eqb (length k) 32 && eqb (length j) 32)
    (cond (closer (key_at 0 target) (key_at 0 k) (key_at 0 j)) 1 0)
    2

unfoldable pub held_or257 : List ℕ → List ℕ → ℕ
held_or257 own cache = cond (leb 32 (length own) && cache_form (own_keys own) cache) (held_in (own_keys own) cache) 257

abbrev pub closest_word : List ℕ → List ℕ → List ℕ → ℕ
closest_word own cache target = word_or0 24 (closest_call own cache [] target).bytes
