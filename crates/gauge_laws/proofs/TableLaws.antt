-- A call's number is the first of its table that applies: given exactly when it applies and none that stands before it does.
-- In this order: the order of a table's rows; the number of a plan; two tables, one behind the other; a datagram received, by the message; any call.
-- Assumes nothing.
use mathlib.Core.Path.{◌≡◌, refl, sym, subst, ◌∙◌}
use mathlib.Core.Bool.{Bool, true, false, not, cond, ◌&&◌}
use mathlib.Core.List.{List, [], ◌∷◌, ◌++◌}
use Prim.Native.Nat.{ℕ, suc, ◌≤◌, ◌<◌}
use native.Mathlib.Decide.{dec_le}
use native.Mathlib.Omega.{arith}
use lib.Dec.{eqb, ltb, leb}
use lib.ListN.{length}
use mathlib.Core.Logic.{◌↔◌, inl, inr}
use borrow.Author.Tests.{eqb-true, ltb-true, leb-true}
use Rattle.octet.proofs.TestLaws.{both_true}
use Rattle.key.specs.Number.{key_at}
use Rattle.own.specs.Own.{own_keys}
use Rattle.refusal.specs.Table.{Refusal, when, first_of, applies_in, or_refuse, order, place_in, Before, InOrder}
use Rattle.refusal.proofs.TableLaws.{AllFail, all_fail, listed-some, order_exactly, none_exactly}
use Rattle.refusal.proofs.CallLaws.{number_is, or_refuses, all_pass}
use Rattle.kept.specs.Keys.{Every, ◌∈◌}
use Rattle.cache.specs.Form.{held_in, held_of}
use Rattle.neighbours.specs.Listing.{counts_of, after_list}
use Rattle.neighbours.specs.Calls.{Written, list_number, list_written, list_wrong, list_call}
use Rattle.cache.specs.Calls.{held_by}
use Rattle.waiting.specs.Form.{used_of}
use Rattle.waiting_form.specs.Call as W
use Rattle.wire_fields.specs.Refusals as fields
use Rattle.std.specs.Prelude.{Some, None, Result, Ok, Err}
use Rattle.wire_fields.specs.Places.{Part}
use Rattle.wire_read.specs.Answers as R
use Rattle.wire_read.specs.declared.Head.{Head}
use Rattle.wire_read.specs.declared.Incoming as T
use Rattle.wire_read.specs.declared.Incoming.TheVariants as M
use Rattle.gauge_plan.specs.Memory.{fitness, tables_fit, memory_of, hands_fit}
use Rattle.plan_flood.specs.Flood.{flood_plan, revoke_plan}
use Rattle.plan_answer.specs.Answering.{authority_plan, ack_plan, inquire_plan, lookup_plan}
use Rattle.gauge_plan.specs.declared.Plan.{Plan}
use Rattle.gauge_plan.specs.declared.Plan.TheVariants.{Refuse, Flood, Revoke, Learn, Free, Certify, Show}
use Rattle.std.specs.Prelude.{None}
use Rattle.plan_send.specs.Send.{sending_plan}
use Rattle.plan_send.specs.declared.Flood as S
use Rattle.gauge_plan.specs.Lent.{Memory, Receive, Send, Call, receives, sends, ticks, lists}
use Rattle.plan_message.specs.Planned.{by_entry, plan_for, plan_in, receive_plan}
use Rattle.gauge.specs.Receive.{carried, receive_call}
use Rattle.gauge.specs.Send.{send_plan, send_carried, send_call}
use Rattle.gauge_commit.specs.Sending.{answer, Handed, handed}
use Rattle.gauge.specs.Counts.{tick_answered, tick_table, gauge_tick, gauge_list}
use Rattle.gauge.specs.Ours.{ours}
use Rattle.gauge_laws.specs.Table.{flood_table, message_rows, receive_table, table_of}

-- ---- the order of a table's rows: computed, as their numbers are written out

abbrev place : ℕ → ℕ
place n = place_in order n

-- from a place on, rising, and each number stands in the order
abbrev rises : ℕ → List Refusal → Bool
rises low [] = true
rises low (r ∷ rs) = leb low (place r.number) && ltb (place r.number) 15 && rises (place r.number) rs

rises_first : (low : ℕ) (r : Refusal) (rs : List Refusal) → rises low (r ∷ rs) ≡ true
    → (low ≤ place r.number) × (place r.number < 15) × (rises (place r.number) rs ≡ true)
rises_first low r rs e =
    let w = both_true (leb low (place r.number) && ltb (place r.number) 15) (rises (place r.number) rs) e in
    let v = both_true (leb low (place r.number)) (ltb (place r.number) 15) w.0 in
    (leb-true low (place r.number) v.0, ltb-true (place r.number) 15 v.1, w.1)

rises-order : (low : ℕ) (rs : List Refusal) → rises low rs ≡ true → InOrder (place_in order) low rs
rises-order low [] e = tt
rises-order low (r ∷ rs) e =
    let w = rises_first low r rs e in
    (listed-some r.number w.1, w.0, rises-order (place r.number) rs w.2)

stands_in_lem : (xs : List ℕ) (n : ℕ) → place_in xs n < length xs → n ∈ xs
unfolding place_in
stands_in_lem [] n h = absurd (omega arith)
stands_in_lem (x ∷ xs) n h = go (eqb x n) refl h (stands_in_lem xs n)
  where
    go : (b : Bool) → eqb x n ≡ b → cond b 0 (suc (place_in xs n)) < suc (length xs) → (place_in xs n < length xs → n ∈ xs) → n ∈ (x ∷ xs)
    go true e h ih = inl (sym (eqb-true x n e))
    go false e h ih = inr (ih (omega arith))

rises-listed : (low : ℕ) (rs : List Refusal) → rises low rs ≡ true → Every (λ (r : Refusal). r.number ∈ order) rs
rises-listed low [] e = tt
rises-listed low (r ∷ rs) e =
    let w = rises_first low r rs e in
    (stands_in_lem order r.number w.1, rises-listed (place r.number) rs w.2)

-- ---- the number of a plan

abbrev number_of : Plan → ℕ
number_of (Refuse n) = n
number_of (Flood u s n a o at size) = 0
number_of (Revoke h u s n a) = 0
number_of (Learn h u at) = 0
number_of (Free h u at n) = 0
number_of (Certify a i) = 0
number_of (Show h u a t p z o at size) = 0

abbrev send_number : Result S.Flood ℕ → ℕ
send_number (Err n) = n
send_number (Ok f) = 0

carried-number : (m : Memory) (l : Receive) (p : Plan) → (carried m l p).answer.number ≡ number_of p
unfolding carried
carried-number m l (Refuse n) = refl
carried-number m l (Flood u s n a o at size) = refl
carried-number m l (Revoke h u s n a) = refl
carried-number m l (Learn h u at) = refl
carried-number m l (Free h u at n) = refl
carried-number m l (Certify a i) = refl
carried-number m l (Show h u a t p z o at size) = refl

by_table : (rs : List Refusal) (done : Plan) → number_of done ≡ 0 → number_of (or_refuse Refuse rs done) ≡ first_of rs
by_table rs done e = number_is number_of Refuse (λ n. refl) done e rs

-- a FLOOD to send
sent-number : (m : Memory) (l : Send) (p : Result S.Flood ℕ) → (send_carried m l p).answer.number ≡ send_number p
unfolding send_carried
sent-number m l (Err n) = refl
sent-number m l (Ok f) = refl

send-number : (m : Memory) (l : Send) → (send_call m l).answer.number ≡ first_of (table_of m (sends l))
unfolding send_call sending_plan
send-number m l = sent-number m l (send_plan m l) ∙ number_is send_number Err (λ n. refl) _ refl (table_of m (sends l))

-- ---- two tables, one behind the other

first_behind : (rs ss : List Refusal) → AllFail rs → first_of (rs ++ ss) ≡ first_of ss
unfolding first_of
first_behind [] ss a = refl
first_behind (r ∷ rs) ss a = rw a.0 (first_behind rs ss a.1)

before_by : (b : Bool) (n : ℕ) (rs ss : List Refusal) → (0 < first_of rs → first_of (rs ++ ss) ≡ first_of rs) → 0 < cond b n (first_of rs)
    → cond b n (first_of (rs ++ ss)) ≡ cond b n (first_of rs)
before_by true n rs ss f p = refl
before_by false n rs ss f p = f p

first_before : (rs ss : List Refusal) → 0 < first_of rs → first_of (rs ++ ss) ≡ first_of rs
unfolding first_of
first_before [] ss p = absurd (omega arith)
first_before (r ∷ rs) ss p = before_by r.applies r.number rs ss (first_before rs ss) p

-- ---- by the message

abbrev pub IsMessage : T.Incoming → Type 0
IsMessage (M.Refused n) = ⊥
IsMessage (M.Solicit x) = Unit {0}
IsMessage (M.Advertise x) = Unit {0}
IsMessage (M.Request x) = Unit {0}
IsMessage (M.Flood x) = Unit {0}
IsMessage (M.Inquire x) = Unit {0}
IsMessage (M.Authority x) = Unit {0}
IsMessage (M.Ack x) = Unit {0}
IsMessage (M.Lookup x) = Unit {0}

either : {A : Type 0} (P : A → Type 0) (b : Bool) (x y : A) → P x → P y → P (cond b x y)
either P true x y p q = p
either P false x y p q = q

pub shown-message : (d : List ℕ) (t : ℕ) (ps : List Part) → IsMessage (R.incoming_of d (fields.found t ps))
unfolding R.incoming_of
shown-message d t ps =
    let P : T.Incoming → Type 0 = IsMessage in
    either P (eqb t 1) _ _ tt (either P (eqb t 2) _ _ tt (either P (eqb t 3) _ _ tt (either P (eqb t 4) _ _ tt (either P (eqb t 7) _ _ tt
    (either P (eqb t 8) _ _ tt (either P (eqb t 9) _ _ tt tt))))))

abbrev used : Memory → ℕ
used m = used_of m.waiting

abbrev held : Memory → Receive → ℕ
held m l = held_in (own_keys l.own) m.cache

entry-number : (m : Memory) (l : Receive) (head : Head) (s : Bool) (validate : ℕ) (entry : Part)
    → number_of (by_entry m l (held m l) (used m) head s validate entry) ≡ first_of (flood_table m l s validate entry)
unfolding flood_plan revoke_plan held_of
entry-number m l head s validate (Some p) = by_table _ _ refl
entry-number m l head s validate None = by_table _ _ refl

message-number : (m : Memory) (l : Receive) (a : T.Incoming) → IsMessage a → number_of (plan_for m l (held m l) (used m) a) ≡ first_of (message_rows m l a)
unfolding plan_for inquire_plan authority_plan ack_plan lookup_plan held_of first_of
message-number m l (M.Refused n) w = absurd w
message-number m l (M.Solicit x) w = refl
message-number m l (M.Advertise x) w = refl
message-number m l (M.Request x) w = refl
message-number m l (M.Flood x) w = entry-number m l x.head x.d x.validate x.entry
message-number m l (M.Inquire x) w = by_table _ _ refl
message-number m l (M.Authority x) w = by_table _ _ refl
message-number m l (M.Ack x) w = by_table _ _ refl
message-number m l (M.Lookup x) w = by_table _ _ refl

-- ---- reading, then the message

abbrev found_number : fields.Found → ℕ
found_number (fields.refused n) = n
found_number (fields.found t ps) = 0

-- what is found gives the number of the rows of reading and of the message
abbrev Numbered : Memory → Receive → fields.Found → Type 0
Numbered m l x =
    number_of (plan_for m l (held m l) (used m) (R.incoming_of l.datagram x))
    ≡ first_of (fields.refusals l.datagram l.major ++ message_rows m l (R.incoming_of l.datagram x))

module _ (m : Memory) (l : Receive) where
  refused-number : 0 < first_of (fields.refusals l.datagram l.major)
      → Numbered m l (fields.refused (first_of (fields.refusals l.datagram l.major)))
  unfolding plan_for R.incoming_of
  refused-number p = sym (first_before (fields.refusals l.datagram l.major) _ p)

  found_number_lem : (t : ℕ) (ps : List Part) → AllFail (fields.refusals l.datagram l.major) → Numbered m l (fields.found t ps)
  found_number_lem t ps a =
      message-number m l (R.incoming_of l.datagram (fields.found t ps)) (shown-message l.datagram t ps)
      ∙ sym (first_behind (fields.refusals l.datagram l.major) _ a)

  read_by : (rs : List Refusal) (done : fields.Found) → found_number done ≡ 0 → InOrder (place_in order) 0 rs
      → (0 < first_of rs → Numbered m l (fields.refused (first_of rs))) → (AllFail rs → Numbered m l done) → Numbered m l (or_refuse fields.refused rs done)
  read_by rs done z o p q = go (dec_le 1 (first_of rs))
    where
      go : Dec (1 ≤ first_of rs) → Numbered m l (or_refuse fields.refused rs done)
      go (yes h) = subst (Numbered m l) (sym (or_refuses fields.refused rs done h)) (p h)
      go (no h) = let a = all_fail (place_in order) rs 0 o (omega arith) in subst (Numbered m l) (sym (all_pass fields.refused rs done a)) (q a)

  read_number : Numbered m l (fields.found_in l.datagram l.major)
  unfolding fields.found_in place_in
  read_number =
      let rs = fields.refusals l.datagram l.major in
      read_by rs _ refl (rises-order 0 rs refl) refused-number (found_number_lem _ _)

  -- ---- memory and what is handed in, then the datagram

  hands-number : (b : Bool) → number_of (or_refuse Refuse (when 1 (not b) ∷ []) (plan_for m l (held m l) (used m) (R.read_in l.datagram l.major)))
      ≡ first_of (when 1 (not b) ∷ (fields.refusals l.datagram l.major ++ message_rows m l (R.read_in l.datagram l.major)))
  unfolding or_refuse first_of
  hands-number true = read_number
  hands-number false = refl

  memory-number : (b : Bool) → number_of (plan_in m l (cond b (fitness (held m l) (used m)) None))
      ≡ first_of (when 1 (not b) ∷ when 1 (not (hands_fit m l))
      ∷ (fields.refusals l.datagram l.major ++ message_rows m l (R.read_in l.datagram l.major)))
  unfolding first_of
  memory-number true = hands-number (hands_fit m l)
  memory-number false = refl

  pub receive-number : (receive_call m l).answer.number ≡ first_of (receive_table m l)
  unfolding receive_call receive_plan memory_of
  receive-number = carried-number m l (receive_plan m l) ∙ memory-number (tables_fit l.own m)

  -- ---- the order of its rows

  entry-rises : (s : Bool) (validate : ℕ) (entry : Part) → rises 6 (flood_table m l s validate entry) ≡ true
  unfolding place_in
  entry-rises s validate (Some p) = refl
  entry-rises s validate None = refl

  -- behind reading, whose last number is 7
  message-rises : (a : T.Incoming) → rises 6 (message_rows m l a) ≡ true
  unfolding place_in
  message-rises (M.Refused n) = refl
  message-rises (M.Solicit x) = refl
  message-rises (M.Advertise x) = refl
  message-rises (M.Request x) = refl
  message-rises (M.Flood x) = entry-rises x.d x.validate x.entry
  message-rises (M.Inquire x) = refl
  message-rises (M.Authority x) = refl
  message-rises (M.Ack x) = refl
  message-rises (M.Lookup x) = refl

-- ---- any call

pub call_number : (m : Memory) (c : Call) → (ours m c).answer.number ≡ first_of (table_of m c)
unfolding gauge_tick W.tick_done gauge_list list_call
call_number m (receives l) = receive-number m l
call_number m (sends l) = send-number m l
call_number m (ticks l) =
    number_is (λ (h : Handed). h.answer.number) (λ (n : ℕ). handed (answer n 0 0) m l.output) (λ n. refl)
    (tick_answered m (W.tick_done m.waiting l.output)) refl (tick_table m l)
call_number m (lists l) =
    let own = l.own in
    let cache = m.cache in
    number_is (λ (w : Written). list_number w.answer) (λ (n : ℕ). list_written (Err n) l.output) (λ n. refl)
    (list_written (Ok (counts_of (key_at 0 l.key) (held_by own cache))) (after_list (key_at 0 l.key) (held_by own cache) l.output)) refl
    (list_wrong own cache l.key l.output)

call_rises : (m : Memory) (c : Call) → rises 0 (table_of m c) ≡ true
unfolding place_in
call_rises m (receives l) = message-rises m l (R.read_in l.datagram l.major)
call_rises m (sends l) = refl
call_rises m (ticks l) = refl
call_rises m (lists l) = refl

pub call_order : (m : Memory) (c : Call) → InOrder (place_in order) 0 (table_of m c)
call_order m c = rises-order 0 (table_of m c) (call_rises m c)

-- where a call is accepted, each test of its table fails
pub none_applies : (m : Memory) (c : Call) → (ours m c).answer.number ≡ 0 → AllFail (table_of m c)
none_applies m c z = all_fail (place_in order) (table_of m c) 0 (call_order m c) (sym (call_number m c) ∙ z)

-- each row's number stands in the order, so that 0 is acceptance alone
pub refusal_numbers : (m : Memory) (c : Call) → Every (λ (r : Refusal). r.number ∈ order) (table_of m c)
refusal_numbers m c = rises-listed 0 (table_of m c) (call_rises m c)

-- "Given exactly when": a number of the call's table is given exactly when it applies, in whichever of its rows, and none that stands before it in the order
-- does; 0 when none applies
pub exactly : (m : Memory) (c : Call) (n : ℕ) → 0 < n
    → ((ours m c).answer.number ≡ n) ↔ ((applies_in n (table_of m c) ≡ true) × ((i : ℕ) → Before i n → applies_in i (table_of m c) ≡ false))
exactly m c n p = subst
    (λ (x : ℕ). (x ≡ n) ↔ ((applies_in n (table_of m c) ≡ true) × ((i : ℕ) → Before i n → applies_in i (table_of m c) ≡ false)))
    (sym (call_number m c)) (order_exactly (table_of m c) 0 n (call_order m c) p)

pub accepted : (m : Memory) (c : Call) → ((ours m c).answer.number ≡ 0) ↔ ((i : ℕ) → applies_in i (table_of m c) ≡ false)
accepted m c = subst (λ (x : ℕ). (x ≡ 0) ↔ ((i : ℕ) → applies_in i (table_of m c) ≡ false)) (sym (call_number m c))
    (none_exactly (place_in order) (table_of m c) 0 (call_order m c))
