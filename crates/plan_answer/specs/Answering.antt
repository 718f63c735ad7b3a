-- Helps the code. AUTHORITY, ACK, INQUIRE and LOOKUP received: what is refused, and what is planned. "8: ACK whose acked ID is no waiting flood, AUTHORITY
-- whose acked ID is no waiting inquiry"; "9: AUTHORITY without CPA, or verdict not 1 where a CPA is needed"; "10: AUTHORITY's verdict is good for another key
-- than the one inquired"; "12: INQUIRE for a key other than ours"; "15: output needs more bytes than lent". Tied to document 01 by `ours-meets`
-- (sentences/Theorems). Assumes nothing.
use Rattle.std.specs.Prelude.{ℕ, ◌+◌, ◌*◌, Bool, true, false, not, ◌||◌, List, [], ◌∷◌, ◌++◌, eqb, ltb, length, get_or}
use Rattle.octet.specs.Part.{part}
use Rattle.key.specs.Number.{key_at}
use Rattle.record.specs.Record.{count_of}
use Rattle.own.specs.Own.{Own, own_keys, own_records, own_place}
use Rattle.refusal.specs.Table.{Refusal, when, or_refuse}
use Rattle.cpas.specs.Cpas.{cpa_of}
use Rattle.neighbours.specs.Closest.{candidates, off_path, closest_of}
use Rattle.waiting.specs.Place.{place_key}
use Rattle.table.specs.Seek.{seek}
use Rattle.waiting.specs.Seek.{is_at}
use Rattle.gauge_plan.specs.Own.{not_ours}
use Rattle.gauge_plan.specs.Opening.{open_rows}
use Rattle.asking.specs.Asking.{asks_for, inquire_room}
use Rattle.asking.specs.Ids.{id_after}
use Rattle.gauge_plan.specs.Found.{is_nothing, place_of}
use Rattle.gauge_plan.specs.declared.Plan.{Plan}
use Rattle.gauge_plan.specs.declared.Plan.TheVariants.{Refuse, Learn, Free, Certify, Show}

-- an AUTHORITY answers the inquiry that waits with the acked ID
abbrev pub authority_refusals : List (List ℕ) → ℕ → ℕ → ℕ → Bool → List Refusal
authority_refusals ps verdict k acked cpa =
    when 8 (is_nothing (seek (is_at acked 2) 0 ps))
    ∷ when 9 (not cpa || not (eqb verdict 1))
    ∷ when 10 (not (eqb k (place_key (get_or ps (place_of (seek (is_at acked 2) 0 ps)) []))))
    ∷ []

unfoldable pub authority_plan : (ps : List (List ℕ)) (held used verdict k acked : ℕ) (cpa : Bool) → Plan
authority_plan ps held used verdict k acked cpa =
    or_refuse Refuse (authority_refusals ps verdict k acked cpa) (Learn held used (place_of (seek (is_at acked 2) 0 ps)))

-- an ACK answers the flood that waits with the acked ID
abbrev pub ack_refusals : List (List ℕ) → ℕ → List Refusal
ack_refusals ps acked = when 8 (is_nothing (seek (is_at acked 1) 0 ps)) ∷ []

unfoldable pub ack_plan : List (List ℕ) → ℕ → ℕ → ℕ → Bool → Plan
ack_plan ps held used acked n = or_refuse Refuse (ack_refusals ps acked) (Free held used (place_of (seek (is_at acked 1) 0 ps)) n)

-- an INQUIRE for one of our keys is answered with the CPA of its own record
abbrev pub inquire_refusals : (own : Own) (cpas : List ℕ) (room : ℕ) (d : List ℕ) (validate : ℕ) → List Refusal
inquire_refusals own cpas room d validate =
    when 12 (not_ours own validate d) ∷ when 15 (ltb room (40 + length (cpa_of (own_place own (key_at validate d)) cpas))) ∷ []

unfoldable pub inquire_plan : (own : Own) (cpas : List ℕ) (room : ℕ) (d : List ℕ) (acked validate : ℕ) → Plan
inquire_plan own cpas room d acked validate =
    or_refuse Refuse (inquire_refusals own cpas room d validate) (Certify acked (own_place own (key_at validate d)))

-- a LOOKUP is answered with the record closest to its target, those held that are on its path skipped; "it is inquired about as in a FLOOD": of its route entry, if
-- it has one, the record is asked for. r is the record shown
abbrev pub lookup_refusals : (ps : List (List ℕ)) (used id room : ℕ) (opens : Bool) (r : List ℕ) → List Refusal
lookup_refusals ps used id room opens r =
    open_rows opens ps used (id_after id) ++ (when 15 (ltb room (80 + 16 * count_of r + inquire_room opens)) ∷ [])

-- the path stands at `path`, `size` bytes long, the entry at `start`, `len` bytes long, none where there is no entry
unfoldable pub lookup_plan : (own : List ℕ) (recs ps : List (List ℕ)) (held used id room : ℕ) (d : List ℕ) (acked target path size start len : ℕ) → Plan
lookup_plan own recs ps held used id room d acked target path size start len =
    let r = closest_of (key_at target d) (candidates (own_records own) (off_path (part path size d) recs)) in
    let opens = asks_for (own_keys own) recs ps (part start len d) in
    or_refuse Refuse (lookup_refusals ps used id room opens r) (Show held used acked target path size opens start len)
