-- The tick, the neighbour list and a FLOOD to send are refused when the clauses say so. Assumes nothing.
use mathlib.Core.Path.{◌≡◌, refl, sym, ap, subst, ◌∙◌}
use mathlib.Core.Logic.{inl, inr}
use mathlib.Core.Bool.{Bool, true, false, not, ◌&&◌}
use mathlib.Core.List.{List, [], ◌∷◌}
use Prim.Native.Nat.{ℕ, ◌<◌}
use native.Mathlib.Omega.{arith}
use lib.Dec.{eqb}
use lib.ListN.{length, get_or}
use borrow.Author.Tests.{eq-eqb, eqb-true, lt-ltb, ltb-true, not-true}
use Rattle.octet.proofs.TestLaws.{both_true}
use Rattle.key.specs.Number.{key_at}
use Rattle.refusal.specs.Table.{place_in, Before}
use Rattle.refusal.proofs.TableLaws.{both, sooner}
use Rattle.record.specs.Record.{key_of, record_form}
use Rattle.record.proofs.EntryLaws.{form_length, one_address}
use Rattle.own.specs.Own.{Own, own_form, own_keys, own_record, own_place, is_own}
use Rattle.own.proofs.PlaceLaws.{own_in, not_own}
use Rattle.table.specs.Rows.{joined}
use Rattle.table.proofs.RowLaws.{rows-length}
use Rattle.kept.specs.Keys.{◌∈◌, Every}
use Rattle.kept.proofs.ListLaws.{Test, pass, fail, test}
use Rattle.cache.specs.Form.{held_of, cache_form}
use Rattle.neighbours.specs.Calls.{list_wrong}
use Rattle.cache.proofs.FormLaws.{true_form}
use Rattle.waiting.specs.Place.{id_of}
use Rattle.waiting.specs.Form.{used_of, places_of, waiting_form}
use Rattle.waiting.specs.Seek.{has_id}
use Rattle.waiting_form.specs.Call as W
use Rattle.wire_fields.specs.Kinds.{flood_kinds}
use Rattle.wire_write.specs.Sent.{flood_sent}
use Rattle.wire_write.specs.Making.{flood_made}
use Rattle.gauge_plan.specs.Memory.{tables_fit, tick_fit}
use Rattle.gauge.specs.Counts.{tick_table}
use Rattle.plan_send.specs.Send.{keys_fit, held_at, flood_room}
use Rattle.gauge_plan.specs.Found.{is_nothing, place_of}
use Rattle.gauge_plan.proofs.MemoryLaws.{ready, tick_fit_lent, lent_tick_fit}
use Rattle.gauge_commit.proofs.LengthLaws.{flood-length}
use Rattle.gauge_commit.proofs.SentLaws.{joined_one}
use Rattle.gauge_plan.specs.Lent.{Memory, Send, Tick, Listing, sends, ticks, lists, SendLent}
use Rattle.gauge_plan.proofs.OwnLaws.{place_within, record-formed}
use Rattle.gauge_laws.specs.Table.{table_of}
use Rattle.gauge_laws.proofs.FirstLaws.{whole_record}
use Rattle.sentences.specs.Sentences as S
use Rattle.sentences.specs.Numbers as Num
use Rattle.sentences.proofs.OneLaws.{named-one}
use Rattle.sentences.proofs.MoveLaws.{holds_not, any-in, in-any, none_in, found_in, seek-some, seek-none}
use Rattle.sentences.proofs.OursLaws.{ours_iff}
use Rattle.sentences.proofs.DoesLaws.{sent_by, named_by}
use Rattle.sentences.proofs.SaidLaws.{no_room_by}
use Rattle.sentences.proofs.FirstLaws.{Row, Agree}

-- ---- the tick and the neighbour list

pub tick_agree : (m : Memory) (l : Tick) → Agree (Num.Applies m (ticks l)) (table_of m (ticks l))
tick_agree m l n low = (to, from)
  where
    to : Num.Applies m (ticks l) n → Row n (tick_table m l)
    to (inl w) = inl (w.0, ap not (holds_not _ (λ e. w.1 (tick_fit_lent m l e))))
    to (inr w) = inr (inl (w.0, lt-ltb (length l.output) 64 w.1))

    from : Row n (tick_table m l) → Num.Applies m (ticks l) n
    from (inl w) = inl (w.0, λ v. both (lent_tick_fit m l v) (not-true (tick_fit l.own m) w.1))
    from (inr (inl w)) = inr (w.0, ltb-true (length l.output) 64 w.1)
    from (inr (inr w)) = absurd w

pub list_agree : (m : Memory) (l : Listing) → Agree (Num.Applies m (lists l)) (table_of m (lists l))
list_agree m l n low = (to, from)
  where
    to : Num.Applies m (lists l) n → Row n (list_wrong l.own m.cache l.key l.output)
    to (inl w) = go (test (own_form l.own)) (test (cache_form (own_keys l.own) m.cache)) (test (eqb (length l.key) 32))
      where
        go : Test (own_form l.own) → Test (cache_form (own_keys l.own) m.cache) → Test (eqb (length l.key) 32)
            → Row n (list_wrong l.own m.cache l.key l.output)
        go (fail e) d c = inl (w.0, ap not e)
        go (pass e) (fail d) c = inr (inl (w.0, ap not d))
        go (pass e) (pass d) (fail c) = inr (inr (inl (w.0, ap not c)))
        go (pass e) (pass d) (pass c) = absurd (w.1 (record { own = e; cache = d; key = eqb-true (length l.key) 32 c }))
    to (inr (inl w)) = inr (inr (inr (inl (w.0, (ours_iff (own_keys l.own) (key_at 0 l.key)).1 w.1))))
    to (inr (inr w)) = inr (inr (inr (inr (inl (w.0, lt-ltb (length l.output) 320 w.1)))))

    from : Row n (list_wrong l.own m.cache l.key l.output) → Num.Applies m (lists l) n
    from (inl w) = inl (w.0, λ v. both v.own (not-true (own_form l.own) w.1))
    from (inr (inl w)) = inl (w.0, λ v. both v.cache (not-true (cache_form (own_keys l.own) m.cache) w.1))
    from (inr (inr (inl w))) = inl (w.0, λ v. both (eq-eqb (length l.key) 32 v.key) (not-true (eqb (length l.key) 32) w.1))
    from (inr (inr (inr (inl w)))) = inr (inl (w.0, (ours_iff (own_keys l.own) (key_at 0 l.key)).0 w.1))
    from (inr (inr (inr (inr (inl w))))) = inr (inr (w.0, ltb-true (length l.output) 320 w.1))
    from (inr (inr (inr (inr (inr w))))) = absurd w

-- ---- a FLOOD to send

every_in : {A : Type 0} (P : A → Type 0) (x : A) (xs : List A) → Every P xs → x ∈ xs → P x
every_in P x [] a m = absurd m
every_in P x (y ∷ xs) a (inl e) = subst P (sym e) a.0
every_in P x (y ∷ xs) a (inr m) = every_in P x xs a.1 m

module _ (m : Memory) (l : Send) where
  abbrev k : Own
  k = own_keys l.own

  abbrev recs : List (List ℕ)
  recs = held_of (own_keys l.own) m.cache

  abbrev ps : List (List ℕ)
  ps = places_of m.waiting

  abbrev named : ℕ
  named = key_at 0 l.key

  abbrev A : ℕ → Type 0
  A n = Num.SendApplies m l n

  lent-tables : SendLent m l → tables_fit l.own m ≡ true
  unfolding tables_fit
  lent-tables w = rw (w.own, w.cache, w.waiting) refl

  lent-keys : SendLent m l → keys_fit l.neighbour l.key ≡ true
  lent-keys w = rw (eq-eqb (length l.neighbour) 32 w.neighbour, eq-eqb (length l.key) 32 w.key) refl

  fit-lent : tables_fit l.own m ≡ true → keys_fit l.neighbour l.key ≡ true → SendLent m l
  fit-lent e h =
      let r = ready l.own m e in
      let w = both_true (eqb (length l.neighbour) 32) (eqb (length l.key) 32) h in
      record {
        own = r.owned;
        cache = r.cached;
        waiting = r.tabled;
        neighbour = eqb-true (length l.neighbour) 32 w.0;
        key = eqb-true (length l.key) 32 w.1;
      }

  pub is-lent : ¬ A 1 → SendLent m l
  is-lent h = go (test (tables_fit l.own m)) (test (keys_fit l.neighbour l.key))
    where
      go : Test (tables_fit l.own m) → Test (keys_fit l.neighbour l.key) → SendLent m l
      go (pass e) (pass d) = fit-lent e d
      go (fail e) d = absurd (h (Num.send-out-of-form refl (λ w. both (lent-tables w) e)))
      go (pass e) (fail d) = absurd (h (Num.send-out-of-form refl (λ w. both (lent-keys w) d)))

  held_to : (u : ℕ) → is_nothing (held_at u recs) ≡ true → ¬ ((r : List ℕ) × S.Holds k m r × (key_of r ≡ u))
  held_to u e w =
      let t : List ℕ → Bool = λ (q : List ℕ). eqb (key_of q) u in
      both (eq-eqb (key_of w.0) u w.2) (none_in t recs (seek-none t recs e) w.0 w.1)

  held-some : (u : ℕ) → is_nothing (held_at u recs) ≡ false → (r : List ℕ) × S.Holds k m r × (key_of r ≡ u)
  held-some u e =
      let t : List ℕ → Bool = λ (q : List ℕ). eqb (key_of q) u in
      let w = found_in t (place_of (held_at u recs)) recs (seek-some t recs e) in
      (get_or recs (place_of (held_at u recs)) [], w.0, eqb-true (key_of (get_or recs (place_of (held_at u recs)) [])) u w.1)

  held-from : (u : ℕ) → ¬ ((r : List ℕ) × S.Holds k m r × (key_of r ≡ u)) → is_nothing (held_at u recs) ≡ true
  held-from u h = go (is_nothing (held_at u recs)) refl
    where
      go : (b : Bool) → is_nothing (held_at u recs) ≡ b → is_nothing (held_at u recs) ≡ true
      go true e = e
      go false e = absurd (h (held-some u e))

  named-to : not (is_own k named) && is_nothing (held_at named recs) ≡ true → ¬ ((r : List ℕ) × S.Named m l r)
  named-to e w = go w.1
    where
      v : (not (is_own k named) ≡ true) × (is_nothing (held_at named recs) ≡ true)
      v = both_true (not (is_own k named)) (is_nothing (held_at named recs)) e

      go : S.Named m l w.0 → ⊥
      go (inl y) = (ours_iff k named).0 v.0 y.0
      go (inr y) = held_to named v.1 (w.0, y.1, y.2)

  named-from : ¬ ((r : List ℕ) × S.Named m l r) → not (is_own k named) && is_nothing (held_at named recs) ≡ true
  named-from h = go (test (is_own k named)) (test (is_nothing (held_at named recs)))
    where
      go : Test (is_own k named) → Test (is_nothing (held_at named recs)) → not (is_own k named) && is_nothing (held_at named recs) ≡ true
      go (pass e) d = absurd (h (own_record l.own (own_place k named), inl (own_in k named e, refl)))
      go (fail e) (pass d) = rw (e, d) refl
      go (fail e) (fail d) = let w = held-some named d in absurd (h (w.0, inr (not_own k named e, w.1, w.2)))

  -- what is sent, where the record is known
  abbrev r : List ℕ
  r = sent_by m l (is_own k named)

  module _ (g : SendLent m l) (bar : not (is_own k named) && is_nothing (held_at named recs) ≡ false) where
    is-named : S.Named m l r
    is-named = named_by m l bar (is_own k named) refl

    formed-by : (q : List ℕ) → S.Named m l q → record_form q ≡ true
    formed-by q (inl w) = ap record_form w.1 ∙ record-formed l.own g.own (own_place k named) (place_within l.own named w.0)
    formed-by q (inr w) = every_in (λ (x : List ℕ). record_form x ≡ true) q recs (true_form k m.cache g.cache).held.formed w.1

    room : length (joined (S.flooding l r)) ≡ flood_room r
    unfolding flood_made
    room =
        let fine = formed-by r is-named in
        let whole = whole_record r fine in
        ap length (joined_one (S.written flood_kinds (flood_sent l.major l.minor l.id l.neighbour r)))
        ∙ ap (λ (y : List ℕ). length (S.written flood_kinds (flood_sent l.major l.minor l.id l.neighbour y))) (sym whole)
        ∙ flood-length l.major l.minor l.id r 0 (omega (arith, form_length r fine)) (ap record_form whole ∙ fine) l.neighbour
        g.neighbour
        ∙ ap flood_room whole

  module _ (n : ℕ) (low : (i : ℕ) → Before i n → ¬ A i) where
    good : Before 1 n → SendLent m l
    good h = is-lent (low 1 h)

    barred : Before 12 n → not (is_own k named) && is_nothing (held_at named recs) ≡ false
    barred h = holds_not _ (λ e. low 12 h (Num.not_named refl (named-to e)))

    full_is : length ps ≡ used_of m.waiting
    full_is = rows-length 140 (used_of m.waiting) m.waiting

    lent_row : n ≡ 1 → ¬ SendLent m l → Row n (table_of m (sends l))
    lent_row e h = go (test (tables_fit l.own m)) (test (keys_fit l.neighbour l.key))
      where
        go : Test (tables_fit l.own m) → Test (keys_fit l.neighbour l.key) → Row n (table_of m (sends l))
        go (fail t) u = inl (e, ap not t)
        go (pass t) (fail u) = inr (inl (e, ap not u))
        go (pass t) (pass u) = absurd (h (fit-lent t u))

    to : A n → Row n (table_of m (sends l))
    to (Num.send-out-of-form e h) = lent_row e h
    to (Num.not-neighbour e h) = inr (inr (inl (e, held-from (key_at 0 l.neighbour) h)))
    to (Num.not_named e h) = inr (inr (inr (inl (e, named-from h))))
    to (Num.send-id-waits e p w d) = inr (inr (inr (inr (inl (e, any-in (has_id l.id) p ps w (eq-eqb (id_of p) l.id d))))))
    to (Num.send-all-used e h) = inr (inr (inr (inr (inr (inl (e, eq-eqb (used_of m.waiting) 16 (sym full_is ∙ h)))))))
    to (Num.send-no-room e q w h) =
        let g = good (sooner 1 15 (unfold place_in in refl) e) in
        let bar = barred (sooner 12 15 (unfold place_in in refl) e) in
        let full = room g bar in
        let few = one_address r (formed-by g bar r (is-named g bar)) in
        let want = no_room_by l.output (S.flooding l r) (omega arith)
        (subst (λ (y : List ℕ). Num.NoRoom l.output (S.flooding l y)) (named-one m l g.cache q r w (is-named g bar)) h) in
        inr (inr (inr (inr (inr (inr (inl (e, lt-ltb (length l.output) (flood_room r) (omega (arith, room g bar)))))))))

    from : Row n (table_of m (sends l)) → A n
    from (inl w) = Num.send-out-of-form w.0 (λ v. both (lent-tables v) (not-true _ w.1))
    from (inr (inl w)) = Num.send-out-of-form w.0 (λ v. both (lent-keys v) (not-true _ w.1))
    from (inr (inr (inl w))) = Num.not-neighbour w.0 (held_to (key_at 0 l.neighbour) w.1)
    from (inr (inr (inr (inl w)))) = Num.not_named w.0 (named-to w.1)
    from (inr (inr (inr (inr (inl w))))) =
        let p = in-any (has_id l.id) ps w.1 in Num.send-id-waits w.0 p.0 p.1 (eqb-true (id_of p.0) l.id p.2)
    from (inr (inr (inr (inr (inr (inl w)))))) = Num.send-all-used w.0 (full_is ∙ eqb-true (used_of m.waiting) 16 w.1)
    from (inr (inr (inr (inr (inr (inr (inl w))))))) =
        let g = good (sooner 1 15 (unfold place_in in refl) w.0) in
        let bar = barred (sooner 12 15 (unfold place_in in refl) w.0) in
        Num.send-no-room w.0 r (is-named g bar) (inl (let h = ltb-true (length l.output) (flood_room r) w.1 in omega (arith, room g bar)))
    from (inr (inr (inr (inr (inr (inr (inr w))))))) = absurd w

  pub send-agree : Agree A (table_of m (sends l))
  send-agree n low = (to n low, from n low)
