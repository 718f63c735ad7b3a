-- What an accepted datagram leaves in the cache: its keys after what the log tells of it; and that the own key is never learned. Assumes nothing.
use mathlib.Core.Path.{◌≡◌, refl, sym, ap, subst, ◌∙◌}
use mathlib.Core.Bool.{Bool, true, false}
use mathlib.Core.List.{List, [], ◌∷◌}
use mathlib.Core.Option.{Option, some, none}
use mathlib.Core.Logic.{inl, inr}
use Prim.Native.Nat.{ℕ, ◌*◌, ◌/◌, ◌≤◌, ◌<◌}
use native.Mathlib.Omega.{arith}
use lib.ListN.{length, get_or}
use Rattle.key.specs.Number.{key_at}
use Rattle.record.specs.Record.{key_of, record_form}
use Rattle.own.proofs.FormLaws.{own_some}
use Rattle.own.specs.Own.{Own, own_keys, IsOwn}
use Rattle.table.specs.Rows.{rows, bytes_of}
use Rattle.table.proofs.RowLaws.{rows-length, row_at, bytes-length}
use Rattle.kept.specs.History.{Event, learned, removed, happen, after, Learns}
use Rattle.kept.specs.Keys.{without}
use Rattle.kept.specs.Plain.{NotOwn, drops, learn}
use Rattle.cache.specs.Form.{Form, keys_of, held_in, held_of, places_in}
use Rattle.cache.specs.Bytes.{after_learn, after_remove}
use Rattle.cache.proofs.FormLaws.{form-held, form-room, formed_sized}
use Rattle.cache.proofs.KeepLaws.{learnt_form, learnt_keys, learnt-fits, removed_form, removed_keys, removed_fewer}
use Rattle.waiting.specs.Place.{id_of, kind_of, place_key, place_record}
use Rattle.waiting.specs.Form.{places_of, used_of}
use Rattle.table.specs.Seek.{seek}
use Rattle.waiting.specs.Seek.{is_at}
use Rattle.std.specs.Prelude.{Some}
use Rattle.waiting.proofs.RoundLaws.{All, all_at}
use Rattle.waiting.proofs.PlaceLaws.{key-at}
use Rattle.waiting.proofs.SeekLaws.{found-key}
use Rattle.wire_read.specs.Answers as R
use Rattle.gauge_plan.specs.declared.Plan.{Plan}
use Rattle.gauge_plan.specs.declared.Plan.TheVariants.{Refuse, Flood, Revoke, Learn, Free, Certify, Show}
use Rattle.gauge_plan.proofs.MemoryLaws.{Ready}
use Rattle.gauge_commit.proofs.PlaceLaws.{record-place, record_key}
use Rattle.gauge_plan.specs.Lent.{Memory, Receive}
use Rattle.plan_message.specs.Planned.{receive_plan}
use Rattle.gauge.specs.Receive.{carried, receive_call}
use Rattle.plan_message.proofs.PlannedLaws.{Known, known, learn-needs}
use Rattle.gauge.specs.Words.{Entry}
use Rattle.sentences.proofs.HeardLaws.{heard_by}
use Rattle.signed.specs.Events.{sent_to, removed_if, told_by}
use Rattle.signed.proofs.EventLaws.{Told, told, Acked}

-- a waiting flood's key is that of the neighbour whom the latest FLOOD with its ID was sent to
abbrev pub Owed : List Entry → List ℕ → Type 0
Owed es p = kind_of p ≡ 1 → sent_to (id_of p) es ≡ some (place_key p)

-- a cache of C records that holds these keys
pub record Keeps (own : Own) (C : ℕ) (keys : List ℕ) (cache : List ℕ) : Type 0 where
  pub size : length cache ≡ 100 * C
  pub held : keys_of (held_of own cache) ≡ keys

module _ (own : Own) (C : ℕ) (cache : List ℕ) (recs : List (List ℕ)) (f : Form own cache recs) (keys : List ℕ) (k : Keeps own C keys cache) where
  is_held : keys_of recs ≡ keys
  is_held = ap keys_of (sym (form-held own cache recs f)) ∙ k.held

  anew_size : (rs : List (List ℕ)) → Form own (bytes_of (length cache) rs) rs → 100 * length rs ≤ length cache
      → length (bytes_of (length cache) rs) ≡ 100 * C
  anew_size rs g fits = bytes-length 100 (length cache) rs (formed_sized rs g.held.formed) fits ∙ k.size

  removed-keeps : (j : ℕ) → Keeps own C (after (drops own) C keys (removed j ∷ [])) (bytes_of (length cache) (after_remove j recs))
  unfolding after happen
  removed-keeps j =
      let g = removed_form own j cache recs f in
      record {
        size = anew_size (after_remove j recs) g (omega (arith, removed_fewer j recs, form-room own cache recs f));
        held = ap keys_of (form-held own (bytes_of (length cache) (after_remove j recs)) (after_remove j recs) g) ∙ removed_keys j recs
            ∙ ap (without j) is_held;
      }

  learnt-keeps : (r : List ℕ) → 0 < length own → record_form r ≡ true → NotOwn own (key_of r)
      → Keeps own C (after (drops own) C keys (learned (key_of r) ∷ [])) (bytes_of (length cache) (after_learn own (length cache) recs r))
  unfolding after happen
  learnt-keeps r any formed other =
      let rs = after_learn own (length cache) recs r in
      let g = learnt_form own cache recs r any f formed other in
      let c : places_in (length cache) ≡ C = omega (arith, k.size) in
      record {
        size = anew_size rs g (learnt-fits own any (length cache) f.places recs f.held (form-room own cache recs f) r formed other);
        held = ap keys_of (form-held own (bytes_of (length cache) rs) rs g) ∙ learnt_keys own (length cache) recs r
            ∙ ap (λ (n : ℕ). learn own n (keys_of recs) (key_of r)) c ∙ ap (λ (ks : List ℕ). learn own C ks (key_of r)) is_held;
      }

-- ---- by the plan

module _ (m : Memory) (l : Receive) (C : ℕ) (es : List Entry) (keys : List ℕ) (kept : Keeps (own_keys l.own) C keys m.cache) where
  -- nothing is told: the keys stay
  still : (ds : List Event) → ds ≡ [] → Keeps (own_keys l.own) C (after (drops (own_keys l.own)) C keys ds) m.cache
  unfolding after
  still ds e = subst (λ (xs : List Event). Keeps (own_keys l.own) C (after (drops (own_keys l.own)) C keys xs) m.cache) (sym e) kept

  -- what the inquiry of an AUTHORITY was about: its record's key is the verdict's
  learnt-key : {h u at : ℕ} → receive_plan m l ≡ Learn h u at → Known m l (Learn h u at)
      → key_of (place_record (get_or (rows 140 u m.waiting) at [])) ≡ key_at 0 l.key
  learnt-key {h} {u} {at} e k =
      let t = m.waiting in
      let within = (learn-needs m l e).5 in
      let found = subst (λ (v : ℕ). seek (is_at k.acked 2) 0 (rows 140 v t) ≡ Some at) k.ready.used k.plans.waiting.found in
      sym (ap key_of (record-place u t at within)) ∙ found-key (own_keys l.own) t k.ready.tabled k.acked at found
      ∙ sym (ap place_key (row_at 140 u t at within) ∙ key-at (140 * at) t) ∙ sym k.plans.key-is

  -- its key is not our own
  learnt-other : {h u at : ℕ} → receive_plan m l ≡ Learn h u at → Known m l (Learn h u at) → NotOwn (own_keys l.own) (key_at 0 l.key)
  learnt-other {h} {u} {at} e k o =
      let t = m.waiting in
      let needs = learn-needs m l e in
      needs.7 (subst (IsOwn (own_keys l.own)) (sym (sym (record_key u t at) ∙ ap key_of (record-place u t at needs.5) ∙ learnt-key e k)) o)

  plan-keeps : (p : Plan) → receive_plan m l ≡ p → Known m l p → Told m l (R.read_in l.datagram l.major) p → All (Owed es) (places_of m.waiting)
      → Keeps (own_keys l.own) C (after (drops (own_keys l.own)) C keys
      (told_by es (key_at 0 l.key) (heard_by l.datagram (R.read_in l.datagram l.major)))) (carried m l p).memory.cache
  unfolding carried
  plan-keeps (Refuse n) e k t o = absurd t
  plan-keeps (Flood u s n a opens start len) e k t o = still _ (t es)
  plan-keeps (Revoke h u s n a) e k t o =
      rw (t es) (removed-keeps (own_keys l.own) C m.cache (rows 100 h m.cache) k.ready.form keys kept (key_at 0 l.key))
  plan-keeps (Learn h u at) e k t o =
      let r = place_record (get_or (rows 140 u m.waiting) at []) in
      let needs = learn-needs m l e in
      let formed = sym (ap record_form (record-place u m.waiting at needs.5)) ∙ needs.6 in
      rw (t es, sym (learnt-key e k))
      (learnt-keeps (own_keys l.own) C m.cache (rows 100 h m.cache) k.ready.form keys kept r (own_some l.own k.ready.owned) formed
      (λ i. learnt-other e k (subst (IsOwn (own_keys l.own)) (learnt-key e k) i)))
  plan-keeps (Free h u at true) e k t o =
      let p = get_or (rows 140 u m.waiting) at [] in
      let w = t.waiting in
      let owes : Owed es p =
      all_at (Owed es) at (rows 140 u m.waiting) (subst (λ (n : ℕ). All (Owed es) (rows 140 n m.waiting)) (sym k.ready.used) o)
      w.within in
      let sent = ap (λ (i : ℕ). sent_to i es) (sym w.id-is) ∙ owes w.kind-is in
      rw (t.told es, sent) (removed-keeps (own_keys l.own) C m.cache (rows 100 h m.cache) k.ready.form keys kept (place_key p))
  plan-keeps (Free h u at false) e k t o = still _ (t.told es)
  plan-keeps (Certify a i) e k t o = still _ (t es)
  plan-keeps (Show h u a at path size opens start len) e k t o = still _ (t es)

  -- no learned key is our own
  nothing-learned : (ds : List Event) → ds ≡ [] → (j : ℕ) → Learns j ds → NotOwn (own_keys l.own) j
  nothing-learned ds e j m = absurd (subst (Learns j) e m)

  removed-learned : (o : Option ℕ) (ds : List Event) → ds ≡ removed_if o → (j : ℕ) → Learns j ds → NotOwn (own_keys l.own) j
  removed-learned none ds e j m = absurd (subst (Learns j) e m)
  removed-learned (some k) ds e j m = absurd (subst (Learns j) e m)

  one-learned : (i : ℕ) → NotOwn (own_keys l.own) i → (ds : List Event) → ds ≡ learned i ∷ [] → (j : ℕ) → Learns j ds → NotOwn (own_keys l.own) j
  one-learned i other ds e j m = only (subst (Learns j) e m)
    where
      only : Learns j (learned i ∷ []) → NotOwn (own_keys l.own) j
      only (inl is) o = other (subst (IsOwn (own_keys l.own)) is o)
      only (inr f) o = f

  plan-fine : (p : Plan) → receive_plan m l ≡ p → Known m l p → Told m l (R.read_in l.datagram l.major) p
      → (j : ℕ) → Learns j (told_by es (key_at 0 l.key) (heard_by l.datagram (R.read_in l.datagram l.major))) → NotOwn (own_keys l.own) j
  unfolding carried
  plan-fine (Refuse n) e k t = absurd t
  plan-fine (Flood u s n a opens start len) e k t = nothing-learned _ (t es)
  plan-fine (Revoke h u s n a) e k t = removed-learned (some (key_at 0 l.key)) _ (t es)
  plan-fine (Learn h u at) e k t = one-learned (key_at 0 l.key) (learnt-other e k) _ (t es)
  plan-fine (Free h u at true) e k t = removed-learned (sent_to t.acked es) _ (t.told es)
  plan-fine (Free h u at false) e k t = nothing-learned _ (t.told es)
  plan-fine (Certify a i) e k t = nothing-learned _ (t es)
  plan-fine (Show h u a at path size opens start len) e k t = nothing-learned _ (t es)

  module _ (z : (receive_call m l).answer.number ≡ 0) where
    pub receive-keeps : All (Owed es) (places_of m.waiting)
        → Keeps (own_keys l.own) C (after (drops (own_keys l.own)) C keys
        (told_by es (key_at 0 l.key) (heard_by l.datagram (R.read_in l.datagram l.major)))) (receive_call m l).memory.cache
    unfolding receive_call
    receive-keeps o = plan-keeps (receive_plan m l) refl (known m l) (told m l z) o

    pub receive-fine : (j : ℕ) → Learns j (told_by es (key_at 0 l.key) (heard_by l.datagram (R.read_in l.datagram l.major)))
        → NotOwn (own_keys l.own) j
    unfolding receive_call
    receive-fine = plan-fine (receive_plan m l) refl (known m l) (told m l z)
