-- Helps the code. What learning and removing do to the keys held: whether one joins them, whether one leaves, and which (0 where none does). Assumes nothing.
use Rattle.std.specs.Prelude.{ℕ, Bool, true, false, cond, List, ltb, eqb, length}
use Rattle.key.specs.Number.{number}
use Rattle.record.specs.Record.{key_of}
use Rattle.own.specs.Own.{Own}
use Rattle.kept.specs.Keys.{has}
use Rattle.kept.specs.Records.{put_by}
use Rattle.kept.specs.Plain.{drops}
use Rattle.cache.specs.Form.{keys_of, places_in}
use Rattle.cache.specs.declared.learning.Change.{Change}

pub record Changes : Type 0 where
  pub joined : Bool
  pub left : Bool
  pub gone : ℕ

abbrev pub changes : Bool → Bool → ℕ → Changes
changes joined left gone = record { joined = joined; left = left; gone = gone }

-- what the code answers
abbrev pub changes_of : Change → Changes
changes_of c = changes c.joined c.left (number c.gone)

-- a held key has its record replaced; another joins, and where that is one too many the one dropped leaves, which may be the newcomer itself
unfoldable pub learned : Own → ℕ → List (List ℕ) → List ℕ → Changes
learned own size recs r =
    let more = put_by key_of r recs in
    let k = drops own (keys_of more) in
    cond (has (key_of r) (keys_of recs)) (changes false false 0)
    (cond (ltb (places_in size) (length more)) (cond (eqb k (key_of r)) (changes false false 0) (changes true true k)) (changes true false 0))

unfoldable pub removed : ℕ → List (List ℕ) → Changes
removed k recs = cond (has k (keys_of recs)) (changes false true k) (changes false false 0)
