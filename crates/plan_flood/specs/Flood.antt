-- Helps the code. A FLOOD received: "If D is clear, an ACK is written, N set when the validate key is not ours. If the very same record is held, or an inquiry
-- for its key is waiting, no more. Otherwise an INQUIRE for its key follows and its place opens with two tries left"; "Verdict 1 names the key. It is removed
-- if held, a waiting inquiry for it is freed, and the ACK is as above". What is refused, and what is planned. Tied to document 01 by `ours-meets`
-- (sentences/Theorems). Assumes nothing.
use Rattle.std.specs.Prelude.{ℕ, ◌+◌, Bool, not, List, [], ◌∷◌, ◌++◌, eqb, ltb}
use Rattle.octet.specs.Part.{part}
use Rattle.record.specs.Record.{key_of}
use Rattle.record.specs.Entry.{record_of}
use Rattle.own.specs.Own.{Own, is_own}
use Rattle.refusal.specs.Table.{Refusal, when, or_refuse}
use Rattle.gauge_plan.specs.Own.{not_ours}
use Rattle.plan_flood.specs.Rooms.{ack_room}
use Rattle.gauge_plan.specs.Opening.{open_rows}
use Rattle.asking.specs.Asking.{must_ask, inquire_room}
use Rattle.asking.specs.Ids.{id_after}
use Rattle.gauge_plan.specs.declared.Plan.{Plan}
use Rattle.gauge_plan.specs.declared.Plan.TheVariants.{Refuse, Flood, Revoke}

-- a FLOOD with a route entry that names the record r
abbrev pub flood_refusals : (own : Own) (ps : List (List ℕ)) (used id room : ℕ) (silent n opens : Bool) (r : List ℕ) → List Refusal
flood_refusals own ps used id room silent n opens r =
    when 11 (is_own own (key_of r))
    ∷ (open_rows opens ps used (id_after id) ++ (when 15 (ltb room (ack_room silent n + inquire_room opens)) ∷ []))

-- the entry stands at `start`, `len` bytes long; D is `silent`
unfoldable pub flood_plan : (own : Own) (recs ps : List (List ℕ)) (used id room : ℕ) (d : List ℕ) (silent : Bool) (acked validate start len : ℕ) → Plan
flood_plan own recs ps used id room d silent acked validate start len =
    let r = record_of (part start len d) in
    let n = not_ours own validate d in
    or_refuse Refuse (flood_refusals own ps used id room silent n (must_ask recs ps r) r)
    (Flood used silent n acked (must_ask recs ps r) start len)

-- a FLOOD with a revocation: the verdict is good for the key k
abbrev pub revoke_refusals : (own : Own) (verdict k room : ℕ) (silent n : Bool) → List Refusal
revoke_refusals own verdict k room silent n =
    when 9 (not (eqb verdict 1)) ∷ when 11 (is_own own k) ∷ when 15 (ltb room (ack_room silent n)) ∷ []

unfoldable pub revoke_plan : (own : Own) (held used verdict k room : ℕ) (d : List ℕ) (silent : Bool) (acked validate : ℕ) → Plan
revoke_plan own held used verdict k room d silent acked validate =
    let n = not_ours own validate d in
    or_refuse Refuse (revoke_refusals own verdict k room silent n) (Revoke held used silent n acked)
