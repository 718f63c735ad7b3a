-- Helps the code. A FLOOD to send: "12: .. a FLOOD to send whose neighbour is not held, or whose record is neither ours nor held"; "13: a place must be opened
-- and its ID is waiting already"; "14: .. all 16 are used"; "15: output needs more bytes than lent". What is refused, and what is planned. Tied to document 01
-- by `ours-meets` (sentences/Theorems). Assumes nothing.
use Rattle.std.specs.Prelude.{ℕ, ◌+◌, ◌*◌, Bool, true, not, cond, ◌&&◌, List, [], ◌∷◌, ◌++◌, eqb, ltb, length, Option, Result, Ok, Err}
use Rattle.octet.specs.Part.{part}
use Rattle.key.specs.Number.{key_at}
use Rattle.record.specs.Record.{key_of, count_of}
use Rattle.own.specs.Own.{own_keys, own_record, own_place, is_own}
use Rattle.refusal.specs.Table.{Refusal, when, or_refuse}
use Rattle.cache.specs.Form.{held_of}
use Rattle.waiting.specs.Form.{used_of, places_of}
use Rattle.table.specs.Seek.{seek}
use Rattle.gauge_plan.specs.Lent.{Memory}
use Rattle.gauge_plan.specs.Memory.{tables_fit}
use Rattle.gauge_plan.specs.Found.{is_nothing, place_of}
use Rattle.gauge_plan.specs.Opening.{open_rows}
use Rattle.plan_send.specs.declared.Flood.{Flood}

-- "A key handed in has 32 bytes, else 1"
abbrev pub keys_fit : List ℕ → List ℕ → Bool
keys_fit neighbour key = eqb (length neighbour) 32 && eqb (length key) 32

-- where the record with a key stands among those held
abbrev pub held_at : ℕ → List (List ℕ) → Option ℕ
held_at k recs = seek (λ (r : List ℕ). eqb (key_of r) k) 0 recs

-- where the record with a key stands: among our own, or among those held
abbrev pub sent_at : List ℕ → List (List ℕ) → ℕ → ℕ
sent_at own recs k = cond (is_own (own_keys own) k) (own_place (own_keys own) k) (place_of (held_at k recs))

-- the record sent: the one at a place of our own, or of the cache
abbrev pub record_sent : List ℕ → List ℕ → Bool → ℕ → List ℕ
record_sent own cache ours at = cond ours (own_record own at) (part (100 * at) 100 cache)

-- how many bytes the FLOOD of a record has
abbrev pub flood_room : List ℕ → ℕ
flood_room r = 100 + 16 * count_of r

-- the neighbour's key, and the key k of the record, where memory is in form: the records held, the places used and how many they are
abbrev pub send_table : (own cache : List ℕ) (recs ps : List (List ℕ)) (used id room neighbour k : ℕ) → List Refusal
send_table own cache recs ps used id room neighbour k =
    let ours = is_own (own_keys own) k in
    when 12 (is_nothing (held_at neighbour recs))
    ∷ when 12 (not ours && is_nothing (held_at k recs))
    ∷ (open_rows true ps used id ++ (when 15 (ltb room (flood_room (record_sent own cache ours (sent_at own recs k)))) ∷ []))

-- a FLOOD is planned, the used places and where the record stands being these
abbrev pub sends_at : ℕ → Bool → ℕ → Result Flood ℕ
sends_at used ours at = Ok (record { used = used; ours = ours; at = at })

abbrev pub send_done : List ℕ → List (List ℕ) → ℕ → ℕ → Result Flood ℕ
send_done own recs used k = sends_at used (is_own (own_keys own) k) (sent_at own recs k)

-- of all that is lent, the room of the output last
abbrev pub send_refusals : (own : List ℕ) (m : Memory) (id : ℕ) (neighbour key : List ℕ) (room : ℕ) → List Refusal
send_refusals own m id neighbour key room =
    when 1 (not (tables_fit own m))
    ∷ when 1 (not (keys_fit neighbour key))
    ∷ send_table own m.cache (held_of (own_keys own) m.cache) (places_of m.waiting) (used_of m.waiting) id room (key_at 0 neighbour) (key_at 0 key)

unfoldable pub sending_plan : (own : List ℕ) (m : Memory) (id : ℕ) (neighbour key : List ℕ) (room : ℕ) → Result Flood ℕ
sending_plan own m id neighbour key room =
    or_refuse Err (send_refusals own m id neighbour key room)
    (send_done own (held_of (own_keys own) m.cache) (used_of m.waiting) (key_at 0 key))
