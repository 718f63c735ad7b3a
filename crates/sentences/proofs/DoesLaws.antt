-- Ours does what the sentences say: the tick, the neighbour list and a FLOOD sent. Assumes nothing.
use mathlib.Core.Path.{◌≡◌, refl, sym, ap, ap₂, subst, ◌∙◌}
use mathlib.Core.Logic.{◌⊎◌, ◌↔◌, inl, inr}
use mathlib.Core.Bool.{Bool, true, false, not, cond, ◌&&◌}
use mathlib.Core.List.{List, [], ◌∷◌, ◌++◌, map}
use Prim.Native.Nat.{ℕ, zero, suc, ◌+◌, ◌*◌, ◌^◌, ◌≤◌, ◌<◌}
use native.Mathlib.Omega.{arith}
use lib.Dec.{eqb, ltb}
use lib.ListN.{length, get_or}
use borrow.Author.Tests.{eqb-true, ltb-false, not-false}
use Rattle.octet.specs.Part.{part, splice}
use Rattle.octet.proofs.TestLaws.{both_true}
use Rattle.key.specs.Around.{below, above}
use Rattle.key.specs.Number.{key_at}
use Rattle.record.specs.Record.{key_of}
use Rattle.own.specs.Own.{own_keys, is_own, IsOwn}
use Rattle.own.proofs.PlaceLaws.{own_in, not_own}
use Rattle.refusal.proofs.CallLaws.{all_pass}
use Rattle.refusal.proofs.TableLaws.{both}
use Rattle.table.specs.Rows.{rows, joined}
use Rattle.table.proofs.RowLaws.{rows-length, row_at}
use Rattle.kept.specs.Keys.{◌∈◌, Rising, plain}
use Rattle.kept.specs.Plain.{neighbours, neighbour_list}
use Rattle.cache.specs.Form.{keys_of, held_in, held_of, cache_form}
use Rattle.neighbours.specs.Listing.{key_bytes, counts_of, after_list}
use Rattle.std.specs.Prelude.{Ok}
use Rattle.neighbours.specs.Calls.{Written, list_written, list_wrong, list_call}
use Rattle.cache.specs.Calls.{held_by}
use Rattle.waiting.specs.Place.{id_of, tries_of, flood_place}
use Rattle.waiting.specs.Form.{used_of, places_of, waiting_form}
use Rattle.waiting.specs.Tick.{one_less, id_bytes}
use Rattle.waiting.specs.Ticking.{ticked, listed}
use Rattle.waiting_form.specs.Call as W
use Rattle.table.specs.Seek.{seek}
use Rattle.waiting.specs.Open.{opened}
use Rattle.waiting.proofs.FormLaws.{Placed, form-placed, form_of}
use Rattle.waiting.proofs.KeptLaws.{tick-kept}
use Rattle.waiting.proofs.RoundLaws as round
use Rattle.waiting_form.proofs.CallLaws as call
use Rattle.table.proofs.SeekLaws.{found_within}
use Rattle.wire_fields.specs.Kinds.{flood_kinds}
use Rattle.wire_write.specs.Sent.{flood_sent}
use Rattle.wire_write.specs.Making.{flood_made}
use Rattle.plan_send.specs.Send.{record_sent, sent_at, held_at, send_done}
use Rattle.gauge_plan.specs.Found.{is_nothing, place_of}
use Rattle.gauge_commit.specs.Sending.{answer, lengths, sending, Handed, handed}
use Rattle.gauge_commit.proofs.SentLaws.{joined_one}
use Rattle.gauge_plan.proofs.MemoryLaws.{tick_fit_lent}
use Rattle.gauge_plan.specs.Lent.{Memory, Send, Tick, Listing, sends, ticks, lists, TickLent}
use Rattle.gauge.specs.Send.{send_call, send_carried}
use Rattle.gauge.specs.Counts.{tick_answered, tick_table, gauge_tick, list_answered, gauge_list}
use Rattle.gauge.proofs.SendLaws.{send_by}
use Rattle.gauge_laws.proofs.TableLaws.{none_applies}
use Rattle.gauge_laws.proofs.FirstLaws.{whole_record}
use Rattle.gauge_laws.proofs.FormLaws.{send_form, send_rest}
use Rattle.gauge_laws.proofs.MovedLaws.{send-planned, send-told, send-places}
use Rattle.gauge.specs.Ours.{ours}
use Rattle.sentences.specs.Sentences as S
use Rattle.sentences.proofs.MoveLaws.{found_in, seek-some, opened_in, ticked_in, listed_in}
use Rattle.sentences.proofs.OursLaws.{right_of}
use Rattle.sentences.proofs.LearnLaws.{table_by}

pub start_one : (b output : List ℕ) → splice 0 b output ≡ sending (b ∷ []) output
start_one b output = ap (λ (x : List ℕ). splice 0 x output) (sym (joined_one b))

-- ---- the tick

rises_as : (b : ℕ) (l : List ℕ) → round.Rising b l → Rising plain b l
rises_as b [] r = tt
rises_as b (x ∷ l) r = (r.0, rises_as (suc x) l r.1)

module _ (m : Memory) (l : Tick) (z : (gauge_tick m l).answer.number ≡ 0) where
  tick-lent : TickLent m l
  tick-lent = tick_fit_lent m l (not-false _ (none_applies m (ticks l) z).0)

  tick_is : gauge_tick m l ≡ tick_answered m (W.tick_done m.waiting l.output)
  unfolding gauge_tick
  tick_is = all_pass _ (tick_table m l) _ (none_applies m (ticks l) z)

  pub ticks-does : S.Ticks (own_keys l.own) m l.output (gauge_tick m l)
  unfolding W.tick_done
  ticks-does =
      let k = own_keys l.own in
      let t = m.waiting in
      let ps = places_of t in
      let f = form_of k t tick-lent.waiting in
      subst (S.Ticks k m l.output) (sym tick_is) (record {
        ids = listed ps;
        rising = rises_as 0 (listed ps) (round.listed_rising k 0 ps (form-placed k t tick-lent.waiting));
        listed = λ i. (λ n. let w = (listed_in i ps).0 n in (w.0, w.1, w.2, sym w.3), λ w. (listed_in i ps).1 (w.0, w.1, w.2, sym w.3));
        counts = refl;
        bytes = start_one (id_bytes (listed ps)) l.output;
        rest = refl;
        table = table_by k _ (ticked ps) _ (tick-kept k t ps f) (λ q. ticked_in q ps);
      })

-- ---- the neighbour list

module _ (m : Memory) (l : Listing) (z : (gauge_list m l).answer.number ≡ 0) where
  abbrev list_done : Written
  list_done =
      list_written (Ok (counts_of (key_at 0 l.key) (held_by l.own m.cache))) (after_list (key_at 0 l.key) (held_by l.own m.cache) l.output)

  list-is : gauge_list m l ≡ list_answered m list_done
  unfolding gauge_list list_call
  list-is = ap (list_answered m) (all_pass _ (list_wrong l.own m.cache l.key l.output) list_done (none_applies m (lists l) z))

  list-form : cache_form (own_keys l.own) m.cache ≡ true
  list-form = not-false _ (none_applies m (lists l) z).1.0

  list-ours : IsOwn (own_keys l.own) (key_at 0 l.key)
  list-ours = own_in (own_keys l.own) (key_at 0 l.key) (not-false _ (none_applies m (lists l) z).1.1.1.0)

  pub lists-does : S.Lists (own_keys l.own) (key_at 0 l.key) m l.output (gauge_list m l)
  lists-does =
      let k = key_at 0 l.key in
      let keys = keys_of (held_of (own_keys l.own) m.cache) in
      subst (S.Lists (own_keys l.own) k m l.output) (sym list-is) (record {
        listed = record {
          low = neighbours k below keys;
          high = neighbours k above keys;
          nearest-below = right_of l.own m.cache k list-ours list-form below;
          nearest-above = right_of l.own m.cache k list-ours list-form above;
          counts = refl;
          bytes = start_one (key_bytes (neighbour_list k keys)) l.output;
        };
        same = refl;
      })

-- ---- a FLOOD sent

second_false : (a b : Bool) → not a && b ≡ false → a ≡ false → b ≡ false
second_false true b e d = both refl d
second_false false b e d = e

module _ (m : Memory) (l : Send) where
  abbrev named : ℕ
  named = key_at 0 l.key

  abbrev recs : List (List ℕ)
  recs = held_of (own_keys l.own) m.cache

  -- the record that is sent: ours, or one held
  abbrev pub sent_by : Bool → List ℕ
  sent_by b = record_sent l.own m.cache b (sent_at l.own recs named)

  module _ (bar : not (is_own (own_keys l.own) named) && is_nothing (held_at named recs) ≡ false) where
    held_one : is_own (own_keys l.own) named ≡ false → (part (100 * place_of (held_at named recs)) 100 m.cache ∈ recs)
        × (key_of (part (100 * place_of (held_at named recs)) 100 m.cache) ≡ named)
    unfolding held_of
    held_one e =
        let t : List ℕ → Bool = λ (q : List ℕ). eqb (key_of q) named in
        let at = place_of (held_at named recs) in
        let some = second_false (is_own (own_keys l.own) named) (is_nothing (held_at named recs)) bar e in
        let found = seek-some t recs some in
        let w = found_in t at recs found in
        let n = found_within t at recs found in
        let here : get_or recs at [] ≡ part (100 * at) 100 m.cache =
        row_at 100 (held_in (own_keys l.own) m.cache) m.cache at
        (omega (arith, n, rows-length 100 (held_in (own_keys l.own) m.cache) m.cache)) in
        (subst (λ (q : List ℕ). q ∈ recs) here w.0, sym (ap key_of here) ∙ eqb-true (key_of (get_or recs at [])) named w.1)

    pub named_by : (b : Bool) → is_own (own_keys l.own) named ≡ b → S.Named m l (sent_by b)
    named_by true e = inl (own_in (own_keys l.own) named e, rw e refl)
    named_by false e = inr (not_own (own_keys l.own) named e, rw e (held_one e).0, rw e (held_one e).1)

module _ (m : Memory) (l : Send) (small : l.id < 2 ^ 32) (z : (send_call m l).answer.number ≡ 0) where
  abbrev r : List ℕ
  r = sent_by m l (is_own (own_keys l.own) (named m l))

  sent_is : (flood_made l.major l.minor l.id l.neighbour r 0).bytes ∷ [] ≡ S.flooding l r
  unfolding flood_made
  sent_is =
      ap (λ (x : List ℕ). S.written flood_kinds (flood_sent l.major l.minor l.id l.neighbour x) ∷ [])
      (whole_record r (send-told m l z).formed)

  send-is : send_call m l ≡ send_carried m l (send_done l.own (recs m l) (used_of m.waiting) (named m l))
  send-is = send_by m l (send-planned m l z)

  pub sends-does : S.Sends m l (send_call m l)
  unfolding send_carried
  sends-does = record {
    r = r;
    named = named_by m l (none_applies m (sends l) z).1.1.1.0 (is_own (own_keys l.own) (named m l)) refl;
    sent = record {
      counts = ap (λ (h : Handed). h.answer) send-is ∙ ap lengths sent_is;
      bytes = ap (λ (h : Handed). h.output) send-is ∙ ap (λ (ds : List (List ℕ)). sending ds l.output) sent_is;
    };
    rest = send_rest m l;
    table = record {
      form = send_form m l small z;
      members = λ p. subst (λ (ps : List (List ℕ)). (p ∈ ps) ↔ ((p ∈ places_of m.waiting) ⊎ (p ≡ flood_place l.id l.neighbour)))
          (sym (send-places m l z small)) (opened_in (flood_place l.id l.neighbour) p (places_of m.waiting));
    };
  }
