-- Helps the code. What learning and removing leave of the records held. What they do to records and keys is in kept. Tied to document 01 by `ours-meets`
-- (sentences/Theorems). Assumes nothing.
use Rattle.std.specs.Prelude.{ℕ, List}
use Rattle.record.specs.Record.{key_of}
use Rattle.own.specs.Own.{Own}
use Rattle.kept.specs.Records.{without_by, learn_by}
use Rattle.kept.specs.Plain.{drops}
use Rattle.cache.specs.Form.{places_in}

-- what is held after the record r is learned, in a cache of so many bytes
abbrev pub after_learn : Own → ℕ → List (List ℕ) → List ℕ → List (List ℕ)
after_learn own size recs r = learn_by key_of (drops own) (places_in size) recs r

-- and after the key k is removed
abbrev pub after_remove : ℕ → List (List ℕ) → List (List ℕ)
after_remove k recs = without_by key_of k recs
