-- Helps the code. The closest record as the radio program is told of it: which one it is, and no copy. Tied to what is believed of it by `nearest-shows` and
-- `closest-fixed` (neighbours/CallLaws). Assumes nothing.
use Rattle.std.specs.Prelude.{ℕ, ◌+◌, List, Option, Some, None, Result, Ok, Err}
use Rattle.octet.specs.Part.{same}
use Rattle.key.specs.Number.{key_at}
use Rattle.record.specs.Record.{key_of}
use Rattle.own.specs.Own.{own_keys, own_place}
use Rattle.refusal.specs.Table.{or_refuse}
use Rattle.table.specs.Seek.{seek}
use Rattle.cache.specs.Calls.{held_by}
use Rattle.neighbours.specs.Closest.{closest_past}
use Rattle.neighbours.specs.Calls.{closest_wrong, closest_compared}
use Rattle.neighbours.specs.declared.nearest.Spot.{Spot}
use Rattle.neighbours.specs.declared.nearest.Spot.TheVariants.{Own, Held}
use Rattle.gauge_commit.specs.declared.Answer.{Answer}
use Rattle.gauge_commit.specs.Sending.{answer}

-- the place of the cache whose record it is, or the place i of our own where it is none of them
abbrev pub standing : ℕ → Option ℕ → Spot
standing i (Some j) = Held j
standing i None = Own i

unfoldable pub nearest_call : (own cache path target : List ℕ) → Result Spot ℕ
nearest_call own cache path target =
    let r = closest_past own (held_by own cache) path (key_at 0 target) in
    or_refuse Err (closest_wrong own cache path target)
    (Ok (standing (own_place (own_keys own) (key_of r)) (seek (λ (q : List ℕ). same q r) 0 (held_by own cache))))

-- its place, 0 to 3, for a record of our own, 4 more than its place for one of the cache; and how many keys were compared
abbrev pub closest_answered : ℕ → Result Spot ℕ → Answer
closest_answered compared (Err n) = answer n 0 0
closest_answered compared (Ok (Own i)) = answer 0 i compared
closest_answered compared (Ok (Held j)) = answer 0 (4 + j) compared

abbrev pub gauge_closest : (own cache path target : List ℕ) → Answer
gauge_closest own cache path target = closest_answered (closest_compared own cache path target) (nearest_call own cache path target)
