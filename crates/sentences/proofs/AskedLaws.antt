-- The route entry of a LOOKUP: whether its record is inquired about, in the sentences' words and in the code's; the INQUIRE, and the place that opens.
-- Assumes nothing.
use mathlib.Core.Path.{◌≡◌, refl, sym, ap, subst, ◌∙◌}
use mathlib.Core.Logic.{◌⊎◌, ◌↔◌, inl, inr}
use mathlib.Core.Bool.{Bool, true, false, cond}
use mathlib.Core.List.{List, []}
use Prim.Native.Nat.{ℕ, ◌+◌, ◌*◌}
use native.Mathlib.Nat.{mod-lt}
use native.Mathlib.Omega.{arith}
use lib.ListN.{length}
use Rattle.octet.specs.Part.{part}
use Rattle.octet.proofs.PartLaws.{length_part}
use Rattle.record.specs.Record.{key_of}
use Rattle.record.specs.Entry.{entry_form, record_of}
use Rattle.record.proofs.EntryLaws.{form_length, record_form_lem}
use Rattle.record.proofs.PlaceLaws.{entry_at}
use Rattle.own.specs.Own.{Own, own_keys, IsOwn}
use Rattle.own.proofs.PlaceLaws.{own_not}
use Rattle.refusal.proofs.TableLaws.{both}
use Rattle.table.specs.Rows.{joined, bytes_of, any_of}
use Rattle.table.proofs.RowLaws.{rows-length}
use Rattle.cache.specs.Form.{held_of}
use Rattle.waiting.specs.Place.{inquiry_place}
use Rattle.waiting.specs.Form.{places_of}
use Rattle.waiting.specs.Seek.{has_id}
use Rattle.waiting.specs.Open.{opened}
use Rattle.waiting.proofs.KeptLaws.{open-inquiry}
use Rattle.wire_fields.specs.Reading.{contents_in}
use Rattle.std.specs.Prelude.{Some, None}
use Rattle.wire_fields.specs.Places.{Part, here}
use Rattle.wire_buffer.specs.Buffer.{start_of}
use Rattle.wire_write.specs.Making.{inquire_made}
use Rattle.look.specs.Seen.{size_of}
use Rattle.asking.specs.Asking.{must_ask, asks_for, inquire_room}
use Rattle.asking.specs.Ids.{id_after}
use Rattle.asking.proofs.AskingLaws.{asks_none, asks-other, asks-tells}
use Rattle.gauge_commit.specs.Replies.{inquire_written}
use Rattle.gauge_commit.proofs.LengthLaws.{inquire-length}
use Rattle.gauge_commit.proofs.SentLaws.{joined_one, record_long}
use Rattle.gauge_plan.specs.Lent.{Memory, Receive}
use Rattle.gauge_plan.proofs.OpeningLaws.{second_fails}
use Rattle.plan_message.proofs.AnswerLaws.{EntryIn}
use Rattle.sentences.specs.Heard.{entry_in}
use Rattle.sentences.specs.Sentences as S
use Rattle.sentences.proofs.MoveLaws.{opened_in}
use Rattle.sentences.proofs.LearnLaws.{table_by}
use Rattle.sentences.proofs.WordLaws.{must_iff, none-asked}
use Rattle.sentences.proofs.PlanLaws.{used, Fine, table-form}

module _ (m : Memory) (l : Receive) where
  abbrev k : Own
  k = own_keys l.own

  abbrev recs : List (List ℕ)
  recs = held_of (own_keys l.own) m.cache

  abbrev ps : List (List ℕ)
  ps = places_of m.waiting

  abbrev pub routed : Part → List ℕ
  routed route = part (start_of route) (size_of route) l.datagram

  abbrev pub opening : Part → Bool
  opening route = asks_for k recs ps (routed route)

  -- an entry in form has bytes
  has-bytes : (s n : ℕ) → EntryIn l.datagram (here s n) → ¬ (length (part s n l.datagram) ≡ 0)
  has-bytes s n w e =
      let long = (entry_at s n l.datagram w.0 w.1).long in
      omega (arith, long, e, length_part s n l.datagram w.0)

  -- no entry is never asked for
  pub none-opens : opening None ≡ false
  none-opens = asks_none k recs ps [] refl

  pub asks-iff : (route : Part) → EntryIn l.datagram route → (opening route ≡ true) ↔ S.EntryAsks k m (entry_in (contents_in l.datagram route))
  asks-iff (Some p) w =
      let v = part p.start p.len l.datagram in (
        λ e. (let t = asks-tells k recs ps v e in (t.1, (must_iff k m (record_of v)).0 t.2)),
        λ a. asks-other k recs ps v (has-bytes p.start p.len w) (own_not k (key_of (record_of v)) a.0) ∙ (must_iff k m (record_of v)).1 a.1,
      )
  asks-iff None w = (λ e. both e none-opens, λ a. absurd a)

  -- the INQUIRE as it is written, and how long it is
  pub asks-written : (route : Part)
      → inquire_written l.major l.minor l.id (opening route) l.nonce (record_of (routed route))
      ≡ S.asks l (opening route) (S.entry_record (entry_in (contents_in l.datagram route)))
  unfolding inquire_made
  asks-written (Some p) = refl
  asks-written None = rw none-opens refl

  asked-long : (r : List ℕ) → length r ≡ 100 → length l.nonce ≡ 16 → (b : Bool) → length (joined (S.asks l b r)) ≡ inquire_room b
  unfolding joined inquire_made
  asked-long r long fresh true =
      ap length (joined_one (inquire_made l.major l.minor (id_after l.id) (part 0 32 r) l.nonce).bytes)
      ∙ inquire-length l.major l.minor (id_after l.id) (part 0 32 r) l.nonce (length_part 0 32 r (omega arith)) fresh
  asked-long r long fresh false = refl

  pub asks-long : (route : Part) → EntryIn l.datagram route → length l.nonce ≡ 16
      → length (joined (S.asks l (opening route) (S.entry_record (entry_in (contents_in l.datagram route))))) ≡ inquire_room (opening route)
  unfolding joined
  asks-long (Some p) w fresh =
      asked-long (record_of (part p.start p.len l.datagram)) (record_long (part p.start p.len l.datagram) w.1) fresh (opening (Some p))
  asks-long None w fresh = rw none-opens refl

  -- the place that opens, where none of the rows stands against it
  module _ (ok : Fine m l) where
    entry-table : (s n : ℕ) → EntryIn l.datagram (here s n)
        → (opening (here s n) ≡ true → any_of (has_id (id_after l.id)) ps ≡ false) → (opening (here s n) ≡ true → ¬ (used m l ≡ 16))
        → (b : Bool) → opening (here s n) ≡ b
        → (let r = record_of (part s n l.datagram) in
        S.WaitsExactly k (cond b (bytes_of 2240 (opened (inquiry_place (id_after l.id) r) ps)) m.waiting)
        (λ (p : List ℕ). S.Waits m p ⊎ (((¬ IsOwn k (key_of r)) × S.MustAsk k m r) × (p ≡ inquiry_place (id_after l.id) r))))
    entry-table s n w new free true e =
        let v = part s n l.datagram in
        let r = record_of v in
        let asks = (asks-iff (here s n) w).0 e in
        let good = record_form_lem v w.1 in
        let g = open-inquiry k m.waiting ps (table-form m l ok) (id_after l.id) r
        (omega (arith, rows-length 140 (used m l) m.waiting, ok.ready.few, free e))
        (mod-lt _ (omega arith)) (form_length r good) good (own_not k (key_of r) asks.0) (new e) (none-asked k m r asks.1) in
        table_by k _ (opened (inquiry_place (id_after l.id) r) ps) _ g
        (λ q. (
          λ i. elim ((opened_in (inquiry_place (id_after l.id) r) q ps).0 i) [ inl x ↦ inl x | inr x ↦ inr (asks, x) ],
          λ i. (opened_in (inquiry_place (id_after l.id) r) q ps).1 (elim i [ inl x ↦ inl x | inr x ↦ inr x.1 ]),
        ))
    entry-table s n w new free false e = table_by k m.waiting ps _ (table-form m l ok)
        (λ q. (λ i. inl i, λ i. elim i [ inl x ↦ x | inr x ↦ both ((asks-iff (here s n) w).1 x.0) e ]))

    pub route-table : (route : Part) → EntryIn l.datagram route
        → (opening route ≡ true → any_of (has_id (id_after l.id)) ps ≡ false) → (opening route ≡ true → ¬ (used m l ≡ 16))
        → (let e = entry_in (contents_in l.datagram route) in
        S.WaitsExactly k (cond (opening route) (bytes_of 2240 (opened (inquiry_place (id_after l.id) (record_of (routed route))) ps)) m.waiting)
        (λ (p : List ℕ). S.Waits m p ⊎ (S.EntryAsks k m e × (p ≡ inquiry_place (id_after l.id) (S.entry_record e)))))
    route-table (Some p) w new free = entry-table p.start p.len w new free (opening (Some p)) refl
    route-table None w new free = rw none-opens (table_by k m.waiting ps _ (table-form m l ok)
        (λ q. (λ i. inl i, λ i. elim i [ inl x ↦ x | inr x ↦ absurd x.0 ])))
