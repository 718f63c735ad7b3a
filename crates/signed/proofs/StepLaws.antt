-- One call after the other: what holds of memory and log before a call holds after it, with the keys that the log tells. Assumes nothing.
use mathlib.Core.Path.{◌≡◌, refl, sym, ap, subst, ◌∙◌}
use mathlib.Core.Bool.{Bool, true, false, cond}
use mathlib.Core.List.{List, [], ◌∷◌, ◌++◌}
use mathlib.Core.Logic.{⊎_elim}
use mathlib.Core.Option.{Option, some}
use Prim.Native.Nat.{ℕ, zero, suc, ◌*◌, ◌^◌, ◌≤◌, ◌<◌}
use native.Mathlib.Omega.{arith}
use lib.Dec.{eqb}
use lib.Seq.{take_all}
use lib.ListN.{length, replicate, length-replicate}
use Rattle.octet.specs.Number.{value_be}
use borrow.Author.Tests.{eq-eqb, ne_eqb, eqb-false, not-false}
use Rattle.key.specs.Number.{key_at}
use Rattle.own.specs.Own.{Own, own_form, own_keys}
use Rattle.kept.specs.History.{Event, after, Learns}
use Rattle.kept.specs.Plain.{NotOwn, drops}
use Rattle.kept.proofs.CallLaws.{after_append, learns_or}
use Rattle.cache.specs.Form.{cache_form}
use Rattle.waiting.specs.Place.{id_of, kind_of, place_key, flood_place}
use Rattle.waiting.specs.Form.{waiting_form, places_of}
use Rattle.waiting.specs.Tick.{one_less}
use Rattle.gauge_plan.proofs.MemoryLaws.{tick_fit_lent}
use Rattle.gauge_laws.proofs.TableLaws.{none_applies}
use Rattle.waiting.proofs.PlaceLaws.{less-id, less-key, less-kind}
use Rattle.waiting.specs.Seek.{has_id}
use Rattle.waiting.proofs.NewLaws.{new-id, new-key}
use Rattle.waiting.proofs.RoundLaws.{All, all_none, all_map, all_both, all-freed, all-opened, all-ticked}
use Rattle.gauge_plan.specs.Lent.{Memory, Receive, Send, Tick, Call, receives, sends, ticks, lists}
use Rattle.gauge_commit.specs.Sending.{Handed}
use Rattle.gauge.specs.Receive.{receive_call}
use Rattle.gauge.specs.Send.{send_call}
use Rattle.gauge.specs.Counts.{gauge_tick, gauge_list}
use Rattle.gauge_laws.proofs.RefusedLaws.{refused_keeps}
use Rattle.gauge_laws.proofs.MovedLaws.{Moved, stays, frees, opens, receive-ready, receive-moved, send-moved}
use Rattle.gauge_laws.proofs.FormLaws.{receive_form, send_form, tick_form, send_cache, tick_cache}
use Rattle.gauge_laws.proofs.TickLaws.{tick_round}
use Rattle.gauge.specs.Words.{Entry, entry, left, log, OneKey, Typed, Proper}
use Rattle.gauge.specs.Ours.{ours}
use Rattle.signed.specs.Events.{sent_to}
use Rattle.signed.proofs.ToldLaws.{does, events_from}
use Rattle.signed.proofs.SendLaws.{Sent, sent}
use Rattle.signed.proofs.KeyLaws.{Owed, Keeps, receive-keeps, receive-fine}

-- what holds between two calls: memory in form, the keys held, and whom the waiting floods were sent to
pub record Inv (k : Own) (C : ℕ) (es : List Entry) (keys : List ℕ) (m : Memory) : Type 0 where
  pub cached : cache_form k m.cache ≡ true
  pub tabled : waiting_form k m.waiting ≡ true
  pub keeps : Keeps k C keys m.cache
  pub owed : All (Owed es) (places_of m.waiting)

-- ---- the log grows

-- a call that sent no FLOOD with the ID leaves it known whom the latest went to
later_refused : (id n : ℕ) (c : Call) (es : List Entry) → 0 < n → sent_to id (entry c n ∷ es) ≡ sent_to id es
unfolding sent_to
later_refused id n (receives l) es p = refl
later_refused id n (sends l) es p = rw (ne_eqb n 0 (omega arith)) refl
later_refused id n (ticks l) es p = refl
later_refused id n (lists l) es p = refl

module _ (es es' : List Entry) (same : (id : ℕ) → sent_to id es' ≡ sent_to id es) where
  owed-later : (ps : List (List ℕ)) → All (Owed es) ps → All (Owed es') ps
  owed-later ps a = all_map (Owed es) (Owed es') (λ p h kind. same (id_of p) ∙ h kind) ps a

-- a tick leaves ID, kind and key of each place
owed_ticked : (es : List Entry) (p : List ℕ) → length p ≡ 140 → Owed es p → Owed es (one_less p)
owed_ticked es p long h kind =
    ap (λ (i : ℕ). sent_to i es) (less-id p) ∙ h (sym (less-kind p) ∙ kind) ∙ ap (λ (n : ℕ). some n) (sym (less-key p))

-- ---- a refused call

module _ (k : Own) (C : ℕ) (es : List Entry) (keys : List ℕ) (m : Memory) (inv : Inv k C es keys m) where
  refused-inv : (c : Call) (n : ℕ) → 0 < n → Inv k C (entry c n ∷ es) keys m
  refused-inv c n p = record {
    cached = inv.cached;
    tabled = inv.tabled;
    keeps = inv.keeps;
    owed = owed-later es (entry c n ∷ es) (λ id. later_refused id n c es p) (places_of m.waiting) inv.owed;
  }

-- what a call leaves: the same of the log with it, the keys after its events, and no own key learned
pub record Stepped (k : Own) (C : ℕ) (es : List Entry) (keys : List ℕ) (c : Call) (n : ℕ) (m : Memory) : Type 0 where
  pub inv : Inv k C (entry c n ∷ es) (after (drops k) C keys (cond (eqb n 0) (does es c) [])) m
  pub fine : (j : ℕ) → Learns j (cond (eqb n 0) (does es c) []) → NotOwn k j

module _ (k : Own) (C : ℕ) (es : List Entry) (keys : List ℕ) (m : Memory) (inv : Inv k C es keys m) where
  refused-step : (c : Call) (n : ℕ) (m' : Memory) → 0 < n → m' ≡ m → Stepped k C es keys c n m'
  unfolding after
  refused-step c n m' p e = rw e (record {
    inv = rw (ne_eqb n 0 (omega arith)) (refused-inv k C es keys m inv c n p);
    fine = rw (ne_eqb n 0 (omega arith)) (λ j none. absurd none);
  })

  -- a call that tells nothing, leaves the cache and is accepted
  quiet_step : (c : Call) (m' : Memory) → does es c ≡ [] → m'.cache ≡ m.cache → waiting_form k m'.waiting ≡ true
      → All (Owed (entry c 0 ∷ es)) (places_of m'.waiting) → Stepped k C es keys c 0 m'
  unfolding after
  quiet_step c m' e same form owed = record {
    inv = rw e (record {
      cached = ap (cache_form k) same ∙ inv.cached;
      tabled = form;
      keeps = subst (Keeps k C keys) (sym same) inv.keeps;
      owed = owed;
    });
    fine = rw e (λ j none. absurd none);
  }

-- what holds of the places before a call, and of one that it opens, holds of those after it
pub moved_all : (P New : List ℕ → Type 0) (ps qs : List (List ℕ)) → ((p : List ℕ) → New p → P p) → Moved New ps qs → All P ps → All P qs
moved_all P New ps qs f (stays e) a = rw e a
moved_all P New ps qs f (frees i e) a = rw e (all-freed P i ps a)
moved_all P New ps qs f (opens p h new e) a = rw e (all-opened P p ps (f p h) a)

-- ---- each accepted call, with the own record's key

-- an accepted tick was lent an own record in form
tick_owned : (m : Memory) (l : Tick) → (gauge_tick m l).answer.number ≡ 0 → own_form l.own ≡ true
tick_owned m l z = (tick_fit_lent m l (not-false _ (none_applies m (ticks l) z).0)).own

module _ (C : ℕ) (es : List Entry) (keys : List ℕ) (m : Memory) where
  tick-step : (l : Tick) → Inv (own_keys l.own) C es keys m → (gauge_tick m l).answer.number ≡ 0
      → Stepped (own_keys l.own) C es keys (ticks l) 0 (gauge_tick m l).memory
  unfolding gauge_tick
  tick-step l inv z =
      let r = tick_round m l z in
      let t = (gauge_tick m l).memory.waiting in
      let owed : All (Owed es) (places_of t) =
      rw r.places (all-ticked (Owed es) (Owed es) (owed_ticked es) (places_of m.waiting) r.form.sized inv.owed) in
      quiet_step (own_keys l.own) C es keys m inv (ticks l) (gauge_tick m l).memory refl (tick_cache m l) (tick_form m l z)
      (owed-later es (entry (ticks l) 0 ∷ es) (λ id. unfold sent_to in refl) (places_of t) owed)

  -- a log with the send in front: its ID went to its neighbour, another where it went before
  sent-here : (l : Send) → sent_to l.id (entry (sends l) 0 ∷ es) ≡ some (key_at 0 l.neighbour)
  unfolding sent_to
  sent-here l = rw (eq-eqb l.id l.id refl) refl

  sent-there : (i : ℕ) (l : Send) → eqb i l.id ≡ false → sent_to i (entry (sends l) 0 ∷ es) ≡ sent_to i es
  unfolding sent_to
  sent-there i l e = rw (ne_eqb l.id i (λ is. eqb-false i l.id e (sym is))) refl

  sent-owed : (l : Send) → l.id < 2 ^ 32 → Sent m l → All (Owed es) (places_of m.waiting)
      → All (Owed (entry (sends l) 0 ∷ es)) (places_of (send_call m l).memory.waiting)
  sent-owed l small s a =
      let c = sends l in
      let id = l.id in
      let neighbour = l.neighbour in
      let zeros : List ℕ = replicate 100 0 in
      let long : length zeros ≡ 100 = length-replicate {A = ℕ} 100 0 in
      let id-is : id_of (flood_place id neighbour) ≡ id = new-id id 1 2 neighbour zeros s.short long small in
      let key-is : place_key (flood_place id neighbour) ≡ key_at 0 neighbour =
      ap (value_be 256) (new-key id 1 2 neighbour zeros s.short long) ∙ ap (value_be 256) (sym (take_all 32 neighbour (omega (arith, s.short)))) in
      let opened-owed : Owed (entry c 0 ∷ es) (flood_place id neighbour) =
      λ kind. ap (λ (i : ℕ). sent_to i (entry c 0 ∷ es)) id-is ∙ sent-here l ∙ ap (λ (n : ℕ). some n) (sym key-is) in
      moved_all (Owed (entry c 0 ∷ es)) (λ (p : List ℕ). p ≡ flood_place id neighbour) (places_of m.waiting) (places_of (send_call m l).memory.waiting)
      (λ p is. subst (Owed (entry c 0 ∷ es)) (sym is) opened-owed) (send-moved m l small)
      (all_both (λ (q : List ℕ). has_id id q ≡ false) (Owed es) (Owed (entry c 0 ∷ es)) (λ q other h kind. sent-there (id_of q) l other ∙ h kind)
      (places_of m.waiting) (all_none (has_id id) (places_of m.waiting) s.new) a)

  send-step : (l : Send) → l.id < 2 ^ 32 → Inv (own_keys l.own) C es keys m → (send_call m l).answer.number ≡ 0
      → Stepped (own_keys l.own) C es keys (sends l) 0 (send_call m l).memory
  send-step l small inv z =
      quiet_step (own_keys l.own) C es keys m inv (sends l) (send_call m l).memory refl (send_cache m l) (send_form m l small z)
      (sent-owed l small (sent m l z) inv.owed)

  receive-step : (l : Receive) → Inv (own_keys l.own) C es keys m → (receive_call m l).answer.number ≡ 0
      → Stepped (own_keys l.own) C es keys (receives l) 0 (receive_call m l).memory
  receive-step l inv z =
      let form = receive_form m l z in
      let t = (receive_call m l).memory.waiting in
      let owed : All (Owed es) (places_of t) =
      moved_all (Owed es) (λ (p : List ℕ). kind_of p ≡ 2) (places_of m.waiting) (places_of t) (λ p two one. let w = sym two ∙ one in
      absurd (omega arith)) (receive-moved m l) inv.owed in
      record {
        inv = record {
          cached = form.0;
          tabled = form.1;
          keeps = receive-keeps m l C es keys inv.keeps z inv.owed;
          owed = owed-later es (entry (receives l) 0 ∷ es) (λ i. unfold sent_to in refl) (places_of t) owed;
        };
        fine = receive-fine m l C es keys inv.keeps z;
      }

-- ---- any call with the one own key, and any sequence of calls

module _ (k : Own) (C : ℕ) (es : List Entry) (keys : List ℕ) (m : Memory) (inv : Inv k C es keys m) where
  -- from the own record's key to the one own key
  of-key : {j : Own} {c : Call} {left : Memory} → j ≡ k → (Inv j C es keys m → Stepped j C es keys c 0 left) → Stepped k C es keys c 0 left
  of-key {j} {c} {left} is step = subst (λ (i : Own). Stepped i C es keys c 0 left) is (step (subst (λ (i : Own). Inv i C es keys m) (sym is) inv))

  accepted-step : (c : Call) → OneKey k c → Typed c → (ours m c).answer.number ≡ 0 → Stepped k C es keys c 0 (ours m c).memory
  unfolding gauge_list
  accepted-step (receives l) one ty z = of-key (one (receive-ready m l z).owned) (λ i. receive-step C es keys m l i z)
  accepted-step (sends l) one ty z = of-key (one (sent m l z).owned) (λ i. send-step C es keys m l ty i z)
  accepted-step (ticks l) one ty z = of-key (one (tick_owned m l z)) (λ i. tick-step C es keys m l i z)
  accepted-step (lists l) one ty z =
      quiet_step k C es keys m inv (lists l) m refl refl inv.tabled
      (owed-later es (entry (lists l) 0 ∷ es) (λ id. unfold sent_to in refl) (places_of m.waiting) inv.owed)

  call_step : (c : Call) → OneKey k c → Typed c → Stepped k C es keys c (ours m c).answer.number (ours m c).memory
  call_step c one ty = go (ours m c).answer.number refl
    where
      go : (n : ℕ) → (ours m c).answer.number ≡ n → Stepped k C es keys c n (ours m c).memory
      go zero z = accepted-step c one ty z
      go (suc n) z =
          refused-step k C es keys m inv c (suc n) (ours m c).memory (omega arith)
          (ap (λ (h : Handed). h.memory) (refused_keeps m c (omega (arith, z))))

-- what holds after a sequence of calls
pub record Ran (k : Own) (C : ℕ) (es : List Entry) (keys : List ℕ) (m : Memory) (calls : List Call) : Type 0 where
  pub entries : List Entry
  pub inv : Inv k C entries (after (drops k) C keys (events_from es (log ours m calls))) (left ours m calls)
  pub fine : (j : ℕ) → Learns j (events_from es (log ours m calls)) → NotOwn k j

pub ran : (k : Own) (C : ℕ) (es : List Entry) (keys : List ℕ) (m : Memory) → Inv k C es keys m → (calls : List Call) → Proper k calls
    → Ran k C es keys m calls
unfolding log left events_from after
ran k C es keys m inv [] proper = record { entries = es; inv = inv; fine = λ j none. absurd none }
ran k C es keys m inv (c ∷ calls) proper =
    let n = (ours m c).answer.number in
    let ds = cond (eqb n 0) (does es c) [] in
    let s = call_step k C es keys m inv c proper.0.0 proper.0.1 in
    let r = ran k C (entry c n ∷ es) (after (drops k) C keys ds) (ours m c).memory s.inv calls proper.1 in
    let later = events_from (entry c n ∷ es) (log ours (ours m c).memory calls) in
    record {
      entries = r.entries;
      inv = subst (λ (ks : List ℕ). Inv k C r.entries ks (left ours (ours m c).memory calls)) (sym (after_append (drops k) C keys ds later))
          r.inv;
      fine = λ j learns. ⊎_elim (s.fine j) (r.fine j) (learns_or j ds later learns);
    }
