-- Helps the code. What the code answers, as places: the two walks, the closer of what they found, and the reason by that and the next. What is told by
-- it is what is believed of the call: `name-right` (NamedLaws). Assumes nothing.
use Rattle.std.specs.Prelude.{ℕ, ◌*◌, ◌/◌, Bool, true, false, cond, List, [], eqb, length, Option, Some, None, Result, Ok, Err}
use Rattle.refusal.specs.Table.{or_refuse}
use Rattle.key.specs.Number.{key_at}
use Rattle.key.specs.Around.{closer}
use Rattle.record.specs.Record.{key_of}
use Rattle.own.specs.Own.{own_keys}
use Rattle.wire_read.specs.Answers.{read_in}
use Rattle.wire_read.specs.declared.Incoming.{Incoming}
use Rattle.cache.specs.Form.{held_in}
use Rattle.cache.specs.Calls.{memory_wrong}
use Rattle.reason.specs.Reason.{given_by}
use Rattle.next_row.specs.Walk.{wanted, place_among}
use Rattle.named.specs.Call.{answer_to}
use Rattle.named.specs.Spots.{record_at, is_nowhere}
use Rattle.neighbours.specs.declared.nearest.Spot.{Spot}
use Rattle.neighbours.specs.declared.nearest.Spot.TheVariants.{Own, Held}
use Rattle.named.specs.declared.Choice.{Choice}

-- which of place i of m own records and place j of n held ones is the closer to t, ours where the other is not; m and n stand for none
unfoldable pub closer_spot : ℕ → (own : List ℕ) (m i : ℕ) (cache : List ℕ) (n j : ℕ) → Option Spot
closer_spot t own m i cache n j =
    cond (eqb i m) (cond (eqb j n) None (Some (Held j)))
    (cond (eqb j n) (Some (Own i)) (cond (closer t (key_at (100 * j) cache) (key_at (100 * i) own)) (Some (Held j)) (Some (Own i))))

-- where the closest of the candidates stands; where one is to be left out, of those that have not the key k
abbrev pub spot_for : (own cache : List ℕ) (used : ℕ) (path : List ℕ) (t : ℕ) (leave : Bool) (k : ℕ) → Option Spot
spot_for own cache used path t leave k =
    closer_spot t own (length own / 100) (place_among t (wanted [] leave k) (length own / 100) own) cache used
    (place_among t (wanted path leave k) used cache)

-- the reason by the two places
abbrev pub choice_by : (own cache : List ℕ) (t : ℕ) (chosen other : Option Spot) → Choice
choice_by own cache t chosen other = record {
  chosen = chosen;
  reason = given_by (is_nowhere other) t (key_of (record_at own cache chosen)) (key_of (record_at own cache other));
  other = other;
}

abbrev pub choice_for : (own cache : List ℕ) (used : ℕ) (path : List ℕ) (t : ℕ) → Choice
choice_for own cache used path t =
    let chosen = spot_for own cache used path t false t in
    choice_by own cache t chosen (spot_for own cache used path t true (key_of (record_at own cache chosen)))

abbrev pub chosen_by : (own cache : List ℕ) (used : ℕ) (d : List ℕ) → Incoming → Result Choice ℕ
chosen_by own cache used d a = answer_to Err (λ (path : List ℕ) (t : ℕ). Ok (choice_for own cache used path t)) d a

unfoldable pub name_at : (own cache : List ℕ) (major : ℕ) (d : List ℕ) → Result Choice ℕ
name_at own cache major d = or_refuse Err (memory_wrong own cache []) (chosen_by own cache (held_in (own_keys own) cache) d (read_in d major))
