-- To believe. "A conversion turns an old cache and waiting table into the new form, the count 1 and the other addresses zero, keys and order the same";
-- "Refusals: 1 for memory not in the new form, or, to the conversion, not in the old." Assumes nothing.
use Rattle.std.specs.Prelude.{ℕ, not, List, [], ◌∷◌, map, length}
use Rattle.own.specs.Own.{own_keys}
use Rattle.refusal.specs.Table.{Refusal, when, or_refuse}
use Rattle.table.specs.Rows.{bytes_of}
use Rattle.waiting.specs.Form.{places_of}
use Rattle.cut.specs.Cut.{converted, converted_place}
use Rattle.convert.specs.Old.{old_own_form, old_held_of, old_cache_form, old_waiting_form}

-- what a conversion hands back: the number, the cache and the waiting table
pub record Converted : Type 0 where
  pub number : ℕ
  pub cache : List ℕ
  pub waiting : List ℕ

abbrev pub convert_handed : ℕ → List ℕ → List ℕ → Converted
convert_handed n cache t = record { number = n; cache = cache; waiting = t }

unfoldable pub convert_wrong : List ℕ → List ℕ → List ℕ → List Refusal
convert_wrong own cache t =
    when 1 (not (old_own_form own)) ∷ when 1 (not (old_cache_form (own_keys own) cache)) ∷ when 1 (not (old_waiting_form (own_keys own) t)) ∷ []

unfoldable pub convert_done : List ℕ → List ℕ → List ℕ → Converted
convert_done own cache t =
    convert_handed 0 (bytes_of (length cache) (map converted (old_held_of (own_keys own) cache))) (bytes_of (length t) (map converted_place (places_of t)))

unfoldable pub convert_call : List ℕ → List ℕ → List ℕ → Converted
convert_call own cache t = or_refuse (λ (n : ℕ). convert_handed n cache t) (convert_wrong own cache t) (convert_done own cache t)
