-- Beside the demands. "The inquiry's record is learned"; "A held key has its record replaced": the record held for a kept key is that of the inquiry last answered for it,
-- told by the calls with their answers and never by memory. Demand 3 speaks of keys alone; a key kept with another's addresses is shut out here. A theorem of
-- the name stands in proofs/AnsweredLaws.antt. Assumes nothing.
use Rattle.std.specs.Prelude.{ℕ, ◌*◌, ◌≤◌, ◌≡◌, Bool, cond, ◌&&◌, ◌||◌, List, [], ◌∷◌, ◌++◌, map, eqb, length, Some, None}
use Rattle.std.proofs.Math.Option.{Option, some, none}
use Rattle.octet.specs.Part.{part}
use Rattle.record.specs.Record.{key_of}
use Rattle.record.specs.Entry.{record_of}
use Rattle.own.specs.Own.{Own}
use Rattle.table.specs.Rows.{bytes_of}
use Rattle.kept.specs.Keys.{Every}
use Rattle.kept.specs.History.{Event}
use Rattle.kept.specs.Plain.{kept}
use Rattle.cache.specs.Form.{keys_of, held_of}
use Rattle.wire_fields.specs.Places.{Part, here}
use Rattle.wire_read.specs.Answers as R
use Rattle.wire_read.specs.declared.Incoming as T
use Rattle.wire_read.specs.declared.Incoming.TheVariants as M
use Rattle.asking.specs.Ids.{id_after}
use Rattle.gauge_commit.specs.declared.Answer.{Answer}
use Rattle.gauge_plan.specs.Lent.{Memory, empty, Call, receives, sends, ticks, lists}
use Rattle.gauge.specs.Words.{Gauge, left, log, Proper}
use Rattle.signed.specs.Events.{Happened}

-- a call with its answer: the number, and the lengths of what is to be sent
pub record AnswerTold : Type 0 where
  pub call : Call
  pub answer : Answer

abbrev pub answer_told : Call → Answer → AnswerTold
answer_told c a = record { call = c; answer = a }

-- calls one after the other, the latest first; `earlier` are those before them
unfoldable pub told_from : Gauge → Memory → List AnswerTold → List Call → List AnswerTold
told_from g m earlier [] = earlier
told_from g m earlier (c ∷ cs) = told_from g (g m c).memory (answer_told c (g m c).answer ∷ earlier) cs

-- ---- the record that an inquiry is about

-- is there an INQUIRE to send? It has 76 bytes, the ACK before it 20 or 26, the AUTHORITY with a record before it 96 or more
abbrev pub inquires : Answer → Bool
inquires a = eqb a.number 0 && (eqb a.first 76 || eqb a.second 76)

-- the record of a FLOOD's or a LOOKUP's route entry; else what is known from before
abbrev pub entry_or : List ℕ → Part → Option (List ℕ) → Option (List ℕ)
entry_or d (Some p) earlier = some (record_of (part p.start p.len d))
entry_or d None earlier = earlier

abbrev pub named_or : List ℕ → T.Incoming → Option (List ℕ) → Option (List ℕ)
named_or d (M.Refused n) earlier = earlier
named_or d (M.Solicit x) earlier = earlier
named_or d (M.Advertise x) earlier = earlier
named_or d (M.Request x) earlier = earlier
named_or d (M.Flood x) earlier = entry_or d x.entry earlier
named_or d (M.Inquire x) earlier = earlier
named_or d (M.Authority x) earlier = earlier
named_or d (M.Ack x) earlier = earlier
named_or d (M.Lookup x) earlier = entry_or d x.entry earlier

-- a FLOOD or LOOKUP answered with an INQUIRE of the ID
abbrev pub inquired_by : ℕ → Call → Answer → Option (List ℕ) → Option (List ℕ)
inquired_by id (receives l) a earlier =
    cond (inquires a && eqb (id_after l.id) id) (named_or l.datagram (R.read_in l.datagram l.major) earlier) earlier
inquired_by id (sends l) a earlier = earlier
inquired_by id (ticks l) a earlier = earlier
inquired_by id (lists l) a earlier = earlier

-- the record that the latest INQUIRE with the ID is about
unfoldable pub inquired : ℕ → List AnswerTold → Option (List ℕ)
inquired id [] = none
inquired id (e ∷ es) = inquired_by id e.call e.answer (inquired id es)

-- ---- the records of the inquiries that were answered

abbrev pub that_of : Option (List ℕ) → List (List ℕ)
that_of none = []
that_of (some r) = r ∷ []

-- an AUTHORITY answers the inquiry with the acked ID
abbrev pub answered_by : List AnswerTold → T.Incoming → List (List ℕ)
answered_by earlier (M.Refused n) = []
answered_by earlier (M.Solicit x) = []
answered_by earlier (M.Advertise x) = []
answered_by earlier (M.Request x) = []
answered_by earlier (M.Flood x) = []
answered_by earlier (M.Inquire x) = []
answered_by earlier (M.Authority x) = that_of (inquired x.acked earlier)
answered_by earlier (M.Ack x) = []
answered_by earlier (M.Lookup x) = []

abbrev pub answers : List AnswerTold → Call → Answer → List (List ℕ)
answers earlier (receives l) a = cond (eqb a.number 0) (answered_by earlier (R.read_in l.datagram l.major)) []
answers earlier (sends l) a = []
answers earlier (ticks l) a = []
answers earlier (lists l) a = []

-- the one last answered first
unfoldable pub answered : List AnswerTold → List (List ℕ)
answered [] = []
answered (e ∷ es) = answers es e.call e.answer ++ answered es

-- the first that has the key
unfoldable pub first_told : ℕ → List (List ℕ) → Option (List ℕ)
first_told k [] = none
first_told k (r ∷ rs) = cond (eqb k (key_of r)) (some r) (first_told k rs)

-- ---- the statement

-- `keys`: the records held after the calls have the kept keys. `last`: each is that of the inquiry last answered for its key.
pub record LastAnswered (g : Gauge) (own : Own) (C : ℕ) (calls : List Call) : Type 0 where
  pub history : List Event
  pub happened : Happened [] (log g (empty C) calls) history
  pub keys : keys_of (held_of own (left g (empty C) calls).cache) ≡ kept own C history
  pub last : Every (λ (r : List ℕ). first_told (key_of r) (answered (told_from g (empty C) [] calls)) ≡ some r) (held_of own (left g (empty C) calls).cache)

abbrev pub HoldsLastAnswered : Gauge → Type 0
HoldsLastAnswered g =
    (own : Own) (C : ℕ) → (10 ≤ C) × (10 * length own ≤ C) → C ≤ 256 → (calls : List Call) → Proper own calls → LastAnswered g own C calls
