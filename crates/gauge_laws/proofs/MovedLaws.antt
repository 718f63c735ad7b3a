-- What a call leaves in the waiting table, a tick apart: the places as they were, one of them freed, or one opened whose ID did not wait;
-- accepted, in form. A datagram received opens an inquiry, a FLOOD sent the place of its ID and of the neighbour that it goes to. In this order:
-- what may move; a datagram received, by its plan; a FLOOD sent; any call. Assumes nothing.
use mathlib.Core.Path.{◌≡◌, refl, sym, ap, subst, ◌∙◌}
use mathlib.Core.Bool.{Bool, true, false}
use mathlib.Core.List.{List}
use Prim.Native.Nat.{ℕ, zero, suc, ◌^◌, ◌<◌}
use native.Mathlib.Nat.{mod-lt}
use native.Mathlib.Omega.{arith}
use lib.ListN.{replicate, length-replicate}
use lib.Seq.{length-take-le}
use borrow.Author.Tests.{not-false}
use Rattle.octet.specs.Part.{part}
use Rattle.key.specs.Number.{key_at}
use Rattle.record.specs.Record.{key_of}
use Rattle.record.specs.Entry.{entry_form, record_of}
use Rattle.record.proofs.EntryLaws.{form_length, record_form_lem}
use Rattle.own.specs.Own.{Own, own_keys, IsOwn}
use Rattle.own.proofs.PlaceLaws.{own_not}
use Rattle.refusal.proofs.CallLaws.{all_pass}
use Rattle.table.specs.Rows.{rows, bytes_of, any_of}
use Rattle.table.proofs.RowLaws.{rows-length}
use Rattle.cache.specs.Form.{held_in, held_of}
use Rattle.waiting.specs.Place.{id_of, kind_of, inquiry_place, flood_place}
use Rattle.waiting.specs.Form.{PlacesForm, is_inquiry, used_of, places_of}
use Rattle.table.specs.Seek.{seek}
use Rattle.waiting.specs.Seek.{has_id}
use Rattle.waiting.specs.Open.{opened, freed}
use Rattle.std.specs.Prelude.{Option, Some, None, Result, Err}
use Rattle.waiting.proofs.NewLaws.{new-id, new-kind}
use Rattle.waiting.proofs.FormLaws.{form_of, form_unique}
use Rattle.waiting.proofs.KeptLaws.{free-kept, open-inquiry, open-flood}
use Rattle.asking.specs.Asking.{must_ask}
use Rattle.asking.specs.Ids.{id_after}
use Rattle.plan_send.specs.Send.{send_done, sending_plan}
use Rattle.gauge_plan.specs.declared.Plan.{Plan}
use Rattle.gauge_plan.specs.declared.Plan.TheVariants.{Refuse, Flood, Revoke, Learn, Free, Certify, Show}
use Rattle.plan_send.specs.declared.Flood as S
use Rattle.gauge_plan.proofs.MemoryLaws.{Ready, ready}
use Rattle.asking.proofs.AskingLaws.{ask_tells, asks-tells}
use Rattle.gauge_commit.specs.Replies.{freed_at}
use Rattle.gauge_plan.specs.Lent.{Memory, Receive, Send, Call, receives, sends, ticks, lists}
use Rattle.gauge_commit.specs.Sending.{Handed}
use Rattle.plan_message.specs.Planned.{receive_plan}
use Rattle.gauge.specs.Receive.{carried, receive_call}
use Rattle.gauge.specs.Send.{send_plan, send_carried, send_call}
use Rattle.gauge.specs.Ours.{ours}
use Rattle.plan_message.proofs.PlannedLaws.{Known, known, shown-entry}
use Rattle.gauge.proofs.SendLaws.{KnownSend, send-known-by, send_by}
use Rattle.gauge_laws.specs.Table.{table_of}
use Rattle.gauge_laws.proofs.TableLaws.{none_applies}
use Rattle.gauge_laws.proofs.RefusedLaws.{receive_refused, send_refused}

-- ---- what may move

-- from places ps to qs; New tells of a place opened
pub data Moved (New : List ℕ → Type 0) (ps qs : List (List ℕ)) : Type 0 where
  stays : qs ≡ ps → Moved New ps qs
  frees : (i : ℕ) → qs ≡ freed i ps → Moved New ps qs
  opens : (p : List ℕ) → New p → any_of (has_id (id_of p)) ps ≡ false → qs ≡ opened p ps → Moved New ps qs

-- the places that a call can open
abbrev pub Opens : Call → List ℕ → Type 0
Opens (receives l) p = kind_of p ≡ 2
Opens (sends l) p = p ≡ flood_place l.id l.neighbour
Opens (ticks l) p = ⊥
Opens (lists l) p = ⊥

-- from the table t to t', both in form
pub record Left (New : List ℕ → Type 0) (own : Own) (t t' : List ℕ) : Type 0 where
  pub entered : PlacesForm own t (places_of t)
  pub places : List (List ℕ)
  pub form : PlacesForm own t' places
  pub moved : Moved New (places_of t) places

left_moved : (New : List ℕ → Type 0) (own : Own) (t t' : List ℕ) → Left New own t t' → Moved New (places_of t) (places_of t')
left_moved New own t t' left = subst (Moved New (places_of t)) (form_unique own t' left.places left.form) left.moved

module _ (New : List ℕ → Type 0) (own : Own) (t : List ℕ) (f : PlacesForm own t (places_of t)) where
  left-same : Left New own t t
  left-same = record { entered = f; places = places_of t; form = f; moved = stays refl }

  left-freed : (i : ℕ) → Left New own t (bytes_of 2240 (freed i (places_of t)))
  left-freed i = record { entered = f; places = freed i (places_of t); form = free-kept own t (places_of t) f i; moved = frees i refl }

  left-found : (found : Option ℕ) → Left New own t (bytes_of 2240 (freed_at found (places_of t)))
  left-found (Some i) = left-freed i
  left-found None = subst (Left New own t) f.bytes left-same

-- the places that the plan counts are those of the table
module _ (own : List ℕ) (m : Memory) {h u : ℕ} (ready : Ready own m h u) where
  pub ready-form : PlacesForm (own_keys own) m.waiting (places_of m.waiting)
  ready-form = form_of (own_keys own) m.waiting ready.tabled

  pub ready-places : places_of m.waiting ≡ rows 140 u m.waiting
  ready-places = ap (λ (n : ℕ). rows 140 n m.waiting) (sym ready.used)

-- ---- a datagram received, by its plan

abbrev ReceiveLeft : Memory → Receive → List ℕ → Type 0
ReceiveLeft m l t = Left (Opens (receives l)) (own_keys l.own) m.waiting t

-- the record of a route entry is inquired about
module _ (m : Memory) (l : Receive) {h u : ℕ} (fit : Ready l.own m h u) (start len : ℕ) (entry : entry_form (part start len l.datagram) ≡ true)
    (free : u ≡ 16 → ⊥) (new : any_of (has_id (id_after l.id)) (rows 140 u m.waiting) ≡ false)
    (other : ¬ IsOwn (own_keys l.own) (key_of (record_of (part start len l.datagram))))
    (asks : must_ask (rows 100 h m.cache) (rows 140 u m.waiting) (record_of (part start len l.datagram)) ≡ true) where
  entry-opens : ReceiveLeft m l
      (bytes_of 2240 (opened (inquiry_place (id_after l.id) (record_of (part start len l.datagram))) (rows 140 u m.waiting)))
  entry-opens =
      let t = m.waiting in
      let own = own_keys l.own in
      let r = record_of (part start len l.datagram) in
      let p = inquiry_place (id_after l.id) r in
      let is = ready-places l.own m fit in
      let f : PlacesForm own t (rows 140 u t) = subst (PlacesForm own t) is (ready-form l.own m fit) in
      let formed = record_form_lem (part start len l.datagram) entry in
      let long = form_length r formed in
      let few = fit.few in
      let small : id_after l.id < 2 ^ 32 = mod-lt _ (omega arith) in
      let only = (ask_tells _ _ r asks).1 in
      let g = open-inquiry own t (rows 140 u t) f (id_after l.id) r (omega (arith, rows-length 140 u t, free)) small long formed
      (own_not own (key_of r) other) new only in
      let id-is : id_of p ≡ id_after l.id = new-id (id_after l.id) 2 2 (part 0 32 r) r (length-take-le 32 r (omega arith)) long small in
      record {
        entered = ready-form l.own m fit;
        places = opened p (rows 140 u t);
        form = g;
        moved = opens p (new-kind (id_after l.id) 2 2 (part 0 32 r) r (length-take-le 32 r (omega arith)) long)
            (ap (λ (q : List (List ℕ)). any_of (has_id (id_of p)) q) is ∙ ap (λ (i : ℕ). any_of (has_id i) (rows 140 u t)) id-is ∙ new)
            (ap (opened p) (sym is));
      }

module _ (m : Memory) (l : Receive) where
  abbrev Opening : List ℕ → Type 0
  Opening = Opens (receives l)

  -- an accepted one was lent memory in form
  pub receive-ready : (receive_call m l).answer.number ≡ 0
      → Ready l.own m (held_in (own_keys l.own) m.cache) (used_of m.waiting)
  unfolding receive_call
  receive-ready z = ready l.own m (not-false _ (none_applies m (receives l) z).0)

  same_left : {h u : ℕ} → Ready l.own m h u → ReceiveLeft m l m.waiting
  same_left r = left-same Opening (own_keys l.own) m.waiting (ready-form l.own m r)

  found_left : {h u : ℕ} → Ready l.own m h u → (found : Option ℕ)
      → ReceiveLeft m l (bytes_of 2240 (freed_at found (rows 140 u m.waiting)))
  found_left r found =
      subst (λ (ps : List (List ℕ)). ReceiveLeft m l (bytes_of 2240 (freed_at found ps))) (ready-places l.own m r)
      (left-found Opening (own_keys l.own) m.waiting (ready-form l.own m r) found)

  plan-left : {h u : ℕ} → Ready l.own m h u → (p : Plan) → Known m l p → ReceiveLeft m l (carried m l p).memory.waiting
  unfolding carried
  plan-left r (Refuse n) k = same_left r
  plan-left r (Flood u s n a true start len) k =
      entry-opens m l k.ready start len k.entry (k.plans.free refl) (k.plans.new refl) k.plans.other (sym k.plans.opens-is)
  plan-left r (Flood u s n a false start len) k = same_left r
  plan-left r (Revoke h u s n a) k = found_left k.ready (seek (is_inquiry (key_at 0 l.key)) 0 (rows 140 u m.waiting))
  plan-left r (Learn h u at) k = found_left k.ready (Some at)
  plan-left r (Free h u at n) k = found_left k.ready (Some at)
  plan-left r (Certify a i) k = same_left r
  plan-left r (Show h u a target path size true start len) k =
      let v = part start len l.datagram in
      let told = asks-tells (own_keys l.own) (rows 100 h m.cache) (rows 140 u m.waiting) v (sym k.plans.opens-is) in
      entry-opens m l k.ready start len (shown-entry m l k refl) (k.plans.free refl) (k.plans.new refl) told.1 told.2
  plan-left r (Show h u a target path size false start len) k = same_left r

  pub receive-left : (receive_call m l).answer.number ≡ 0 → ReceiveLeft m l (receive_call m l).memory.waiting
  unfolding receive_call
  receive-left z = plan-left (receive-ready z) (receive_plan m l) (known m l)

  pub receive-moved : Moved (Opens (receives l)) (places_of m.waiting) (places_of (receive_call m l).memory.waiting)
  receive-moved = go (receive_call m l).answer.number refl
    where
      go : (n : ℕ) → (receive_call m l).answer.number ≡ n → Moved (Opens (receives l)) (places_of m.waiting) (places_of (receive_call m l).memory.waiting)
      go zero e = left_moved (Opens (receives l)) (own_keys l.own) m.waiting (receive_call m l).memory.waiting (receive-left e)
      go (suc n) e = stays (ap (λ (h : Handed). places_of h.memory.waiting) (receive_refused m l (omega arith)))

-- ---- a FLOOD sent

module _ (m : Memory) (l : Send) where
  -- what is planned where nothing stands against it, and known of it
  abbrev done : Result S.Flood ℕ
  done = send_done l.own (held_of (own_keys l.own) m.cache) (used_of m.waiting) (key_at 0 l.key)

  module _ (z : (send_call m l).answer.number ≡ 0) where
    pub send-planned : send_plan m l ≡ done
    unfolding sending_plan send_call
    send-planned = all_pass Err (table_of m (sends l)) done (none_applies m (sends l) z)

    pub send-told : KnownSend m l done
    send-told = send-known-by m l send-planned

    -- its ID did not wait, and the place with it and the neighbour's key is opened
    pub send-new : any_of (has_id l.id) (places_of m.waiting) ≡ false
    send-new = send-told.new

    pub send-opens : (send_call m l).memory.waiting ≡ bytes_of 2240 (opened (flood_place l.id l.neighbour) (places_of m.waiting))
    unfolding send_carried
    send-opens = ap (λ (h : Handed). h.memory.waiting) (send_by m l send-planned)

    module _ (small : l.id < 2 ^ 32) where
      send_form : PlacesForm (own_keys l.own) (send_call m l).memory.waiting (opened (flood_place l.id l.neighbour) (places_of m.waiting))
      send_form =
          let ps = places_of m.waiting in
          let free = send-told.free in
          subst (λ (t : List ℕ). PlacesForm (own_keys l.own) t (opened (flood_place l.id l.neighbour) ps)) (sym send-opens)
          (open-flood (own_keys l.own) m.waiting ps (ready-form l.own m send-told.ready) l.id l.neighbour
          (omega (arith, rows-length 140 (used_of m.waiting) m.waiting)) small send-told.addressed send-new)

      pub send-places : places_of (send_call m l).memory.waiting ≡ opened (flood_place l.id l.neighbour) (places_of m.waiting)
      send-places = sym (form_unique (own_keys l.own) (send_call m l).memory.waiting _ send_form)

      pub send-id : id_of (flood_place l.id l.neighbour) ≡ l.id
      send-id = new-id l.id 1 2 l.neighbour (replicate 100 0) send-told.addressed (length-replicate {A = ℕ} 100 0) small

      pub send-left : Left (Opens (sends l)) (own_keys l.own) m.waiting (send_call m l).memory.waiting
      send-left =
          let ps = places_of m.waiting in
          let p = flood_place l.id l.neighbour in
          record {
            entered = ready-form l.own m send-told.ready;
            places = opened p ps;
            form = send_form;
            moved = opens p refl (ap (λ (n : ℕ). any_of (has_id n) ps) send-id ∙ send-new) refl;
          }

  pub send-moved : l.id < 2 ^ 32 → Moved (Opens (sends l)) (places_of m.waiting) (places_of (send_call m l).memory.waiting)
  send-moved small = go (send_call m l).answer.number refl
    where
      go : (n : ℕ) → (send_call m l).answer.number ≡ n → Moved (Opens (sends l)) (places_of m.waiting) (places_of (send_call m l).memory.waiting)
      go zero e = left_moved (Opens (sends l)) (own_keys l.own) m.waiting (send_call m l).memory.waiting (send-left e small)
      go (suc n) e = stays (ap (λ (h : Handed). places_of h.memory.waiting) (send_refused m l (omega arith)))
