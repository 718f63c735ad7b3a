-- An accepted call leaves memory in form: cache, counts by first byte and waiting table, and what stands beside them as it was. Assumes nothing.
use mathlib.Core.Path.{◌≡◌, refl, sym, ap, subst, ◌∙◌}
use mathlib.Core.Bool.{true, false}
use mathlib.Core.List.{List, []}
use Prim.Native.Nat.{ℕ, zero, suc, ◌^◌, ◌<◌}
use native.Mathlib.Omega.{arith}
use lib.ListN.{length, get_or}
use borrow.Author.Tests.{not-false}
use Rattle.std.specs.Prelude.{Result, Ok, Err}
use Rattle.key.specs.Number.{key_at}
use Rattle.record.specs.Record.{key_of, record_form}
use Rattle.own.specs.Own.{Own, own_keys, IsOwn}
use Rattle.own.proofs.FormLaws.{own_some}
use Rattle.kept.specs.Plain.{NotOwn}
use Rattle.table.specs.Rows.{rows, bytes_of}
use Rattle.cache.specs.Form.{Form, keys_of, cache_form, held_of}
use Rattle.cache.specs.Bytes.{after_learn, after_remove}
use Rattle.cache.proofs.FormLaws.{form-true, form-held}
use Rattle.cache.proofs.KeepLaws.{learnt_form, removed_form}
use Rattle.firsts.specs.Firsts.{firsts_of}
use Rattle.waiting.specs.Form.{waiting_form, places_of}
use Rattle.waiting.specs.Ticking.{ticked}
use Rattle.waiting.specs.Place.{place_key, place_record}
use Rattle.waiting.proofs.FormLaws.{form_of, form_test}
use Rattle.waiting.proofs.KeptLaws.{tick-kept}
use Rattle.waiting_form.specs.Call.{tick_done}
use Rattle.refusal.proofs.CallLaws.{or_known}
use Rattle.gauge_plan.specs.declared.Plan.{Plan}
use Rattle.gauge_plan.specs.declared.Plan.TheVariants.{Refuse, Flood, Revoke, Learn, Free, Certify, Show}
use Rattle.plan_send.specs.declared.Flood as S
use Rattle.gauge_commit.specs.Sending.{answer, Handed, handed}
use Rattle.gauge_commit.proofs.PlaceLaws.{record-place, record_key}
use Rattle.gauge_plan.specs.Lent.{Memory, with_firsts, with_tables, with_waiting, Counted, InForm, Receive, Send, Tick, Call, receives, sends, ticks, lists, own_of}
use Rattle.gauge_plan.proofs.MemoryLaws.{in_form_with, known_counts}
use Rattle.gauge.specs.Words.{Typed}
use Rattle.gauge.specs.Ours.{ours}
use Rattle.plan_message.specs.Planned.{receive_plan}
use Rattle.gauge.specs.Receive.{carried, receive_call}
use Rattle.gauge.specs.Send.{send_plan, send_carried, send_call}
use Rattle.gauge.specs.Counts.{tick_answered, tick_table, gauge_tick, gauge_list}
use Rattle.plan_message.proofs.PlannedLaws.{Known, known, learn-needs}
use Rattle.gauge_laws.proofs.TableLaws.{none_applies}
use Rattle.gauge_laws.proofs.RefusedLaws.{refused_keeps}
use Rattle.gauge_laws.proofs.MovedLaws.{receive-ready, receive-left, send-left}
use Rattle.gauge_laws.proofs.TickLaws.{tick_done_lem}

-- ---- what stands beside the tables is as it was

send_by : (m : Memory) (l : Send) (p : Result S.Flood ℕ) → (send_carried m l p).memory ≡ with_waiting (send_carried m l p).memory.waiting m
unfolding send_carried
send_by m l (Err n) = refl
send_by m l (Ok f) = refl

pub send_rest : (m : Memory) (l : Send) → (send_call m l).memory ≡ with_waiting (send_call m l).memory.waiting m
unfolding send_call
send_rest m l = send_by m l (send_plan m l)

pub tick_rest : (m : Memory) (l : Tick) → (gauge_tick m l).memory ≡ with_waiting (gauge_tick m l).memory.waiting m
unfolding gauge_tick
tick_rest m l =
    or_known (λ (h : Handed). h.memory ≡ with_waiting h.memory.waiting m) (λ (n : ℕ). handed (answer n 0 0) m l.output) (tick_table m l)
    (tick_answered m (tick_done m.waiting l.output)) (λ n. refl) (λ f. refl)

-- so is the cache, in a FLOOD sent and a tick
pub send_cache : (m : Memory) (l : Send) → (send_call m l).memory.cache ≡ m.cache
send_cache m l = ap (λ (x : Memory). x.cache) (send_rest m l)

pub tick_cache : (m : Memory) (l : Tick) → (gauge_tick m l).memory.cache ≡ m.cache
tick_cache m l = ap (λ (x : Memory). x.cache) (tick_rest m l)

-- ---- the cache, and the counts of the keys held

abbrev Held : Own → Memory → Type 0
Held own m = (cache_form own m.cache ≡ true) × Counted own m

abbrev HeldBy : Own → List ℕ → List (List ℕ) → Type 0
HeldBy own cache recs = (cache_form own cache ≡ true) × (firsts_of (keys_of recs) ≡ firsts_of (keys_of (held_of own cache)))

-- the counts of the records that a cache is written of
held_by_lem : (own : Own) (cache : List ℕ) (recs : List (List ℕ)) → Form own cache recs → HeldBy own cache recs
held_by_lem own cache recs f = (form-true own cache recs f, ap (λ (rs : List (List ℕ)). firsts_of (keys_of rs)) (sym (form-held own cache recs f)))

module _ (own : Own) (s : List ℕ) (recs : List (List ℕ)) (f : Form own s recs) where
  removed-held : (k : ℕ) → HeldBy own (bytes_of (length s) (after_remove k recs)) (after_remove k recs)
  removed-held k = held_by_lem own _ (after_remove k recs) (removed_form own k s recs f)

  learnt-held : (r : List ℕ) → 0 < length own → record_form r ≡ true → NotOwn own (key_of r)
      → HeldBy own (bytes_of (length s) (after_learn own (length s) recs r)) (after_learn own (length s) recs r)
  learnt-held r some formed other = held_by_lem own _ (after_learn own (length s) recs r) (learnt_form own s recs r some f formed other)

module _ (m : Memory) (l : Receive) where
  plan-held : Held (own_keys l.own) m → (p : Plan) → receive_plan m l ≡ p → Known m l p → Held (own_keys l.own) (carried m l p).memory
  unfolding carried
  plan-held f (Refuse n) e k = f
  plan-held f (Flood u s n a opens start len) e k = f
  plan-held f (Revoke h u s n a) e k = removed-held (own_keys l.own) m.cache (rows 100 h m.cache) k.ready.form (key_at 0 l.key)
  plan-held f (Learn h u at) e k =
      let t = m.waiting in
      let needs = learn-needs m l e in
      let is = record-place u t at needs.5 in
      learnt-held (own_keys l.own) m.cache (rows 100 h m.cache) k.ready.form (place_record (get_or (rows 140 u t) at [])) (own_some l.own k.ready.owned)
      (sym (ap record_form is) ∙ needs.6) (λ o. needs.7 (subst (IsOwn (own_keys l.own)) (sym (sym (record_key u t at) ∙ ap key_of is)) o))
  plan-held f (Free h u at true) e k =
      removed-held (own_keys l.own) m.cache (rows 100 h m.cache) k.ready.form (place_key (get_or (rows 140 u m.waiting) at []))
  plan-held f (Free h u at false) e k = f
  plan-held f (Certify a i) e k = f
  plan-held f (Show h u a t p z o at size) e k = f

  receive-held : (receive_call m l).answer.number ≡ 0 → Held (own_keys l.own) (receive_call m l).memory
  unfolding receive_call
  receive-held z =
      plan-held ((receive-ready m l z).cached, known_counts m l (not-false _ (none_applies m (receives l) z).1.0)) (receive_plan m l) refl (known m l)

  -- "After any accepted call they equal those counted afresh" (02, Wish 12)
  pub receive-counted : (receive_call m l).answer.number ≡ 0 → Counted (own_keys l.own) (receive_call m l).memory
  receive-counted z = (receive-held z).1

  -- and nothing else stands beside the tables
  pub receive-rest : (receive_call m l).answer.number ≡ 0 → (receive_call m l).memory
      ≡ with_tables (receive_call m l).memory.cache (receive_call m l).memory.waiting
      (with_firsts (firsts_of (keys_of (held_of (own_keys l.own) (receive_call m l).memory.cache))) m)
  receive-rest z =
      ap (λ (fs : List ℕ). with_tables (receive_call m l).memory.cache (receive_call m l).memory.waiting (with_firsts fs m)) (receive-counted z)

-- ---- every call: "An accepted call leaves the cache, the waiting table and such memory in form."

pub receive_form : (m : Memory) (l : Receive) → (receive_call m l).answer.number ≡ 0
    → (cache_form (own_keys l.own) (receive_call m l).memory.cache ≡ true) × (waiting_form (own_keys l.own) (receive_call m l).memory.waiting ≡ true)
receive_form m l z =
    let left = receive-left m l z in
    ((receive-held m l z).0, form_test (own_keys l.own) (receive_call m l).memory.waiting left.places left.form)

pub send_form : (m : Memory) (l : Send) → l.id < 2 ^ 32 → (send_call m l).answer.number ≡ 0
    → waiting_form (own_keys l.own) (send_call m l).memory.waiting ≡ true
send_form m l i z =
    let left = send-left m l z i in
    form_test (own_keys l.own) (send_call m l).memory.waiting left.places left.form

pub tick_form : (m : Memory) (l : Tick) → (gauge_tick m l).answer.number ≡ 0 → waiting_form (own_keys l.own) (gauge_tick m l).memory.waiting ≡ true
tick_form m l z =
    let k = own_keys l.own in
    let t = m.waiting in
    let done = tick_done_lem m l z in
    subst (λ (left : List ℕ). waiting_form k left ≡ true) (sym done.1)
    (form_test k _ (ticked (places_of t)) (tick-kept k t (places_of t) (form_of k t done.0)))

accepted_form : (m : Memory) (c : Call) → Typed c → InForm (own_keys (own_of c)) m → (ours m c).answer.number ≡ 0
    → InForm (own_keys (own_of c)) (ours m c).memory
unfolding gauge_list
accepted_form m (receives l) i f z =
    let k = own_keys l.own in
    let w = receive_form m l z in
    subst (InForm k) (sym (receive-rest m l z)) (in_form_with k m _ _ _ w.0 w.1 refl)
accepted_form m (sends l) i f z =
    let k = own_keys l.own in
    subst (InForm k) (sym (send_rest m l)) (in_form_with k m m.cache m.firsts _ f.0 (send_form m l i z) f.2)
accepted_form m (ticks l) i f z =
    let k = own_keys l.own in
    subst (InForm k) (sym (tick_rest m l)) (in_form_with k m m.cache m.firsts _ f.0 (tick_form m l z) f.2)
accepted_form m (lists l) i f z = f

-- and a refused one leaves all
pub form_kept : (m : Memory) (c : Call) → Typed c → InForm (own_keys (own_of c)) m → InForm (own_keys (own_of c)) (ours m c).memory
form_kept m c i f = go (ours m c).answer.number refl
  where
    go : (n : ℕ) → (ours m c).answer.number ≡ n → InForm (own_keys (own_of c)) (ours m c).memory
    go zero z = accepted_form m c i f z
    go (suc n) z = subst (λ (h : Handed). InForm (own_keys (own_of c)) h.memory) (sym (refused_keeps m c (omega (arith, z)))) f
