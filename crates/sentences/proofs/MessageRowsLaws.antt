-- An INQUIRE, AUTHORITY, ACK or LOOKUP received, or a message that is not taken, is refused when the clauses say so: the rows of their tables.
-- Assumes nothing.
use mathlib.Core.Path.{◌≡◌, refl, sym, ap, ap₂, subst, ◌∙◌}
use mathlib.Core.Logic.{◌⊎◌, inl, inr}
use mathlib.Core.Bool.{Bool, true, false, not, ◌||◌}
use mathlib.Core.List.{List, [], ◌∷◌}
use Prim.Native.Nat.{ℕ, ◌+◌, ◌*◌, ◌≤◌, ◌<◌}
use native.Mathlib.Omega.{arith}
use lib.Dec.{eqb, ltb}
use lib.ListN.{length, get_or, length-append}
use borrow.Author.Tests.{eq-eqb, eqb-true}
use mathlib.Core.Option.{Option}
use Rattle.octet.specs.Part.{part}
use Rattle.octet.proofs.TestLaws.{both_true}
use Rattle.key.specs.Number.{key_at}
use Rattle.record.specs.Record.{count_of, record_form}
use Rattle.refusal.specs.Table.{Refusal, when, place_in, Before}
use Rattle.refusal.proofs.TableLaws.{both, sooner}
use Rattle.table.specs.Rows.{joined, any_of}
use Rattle.table.proofs.RowLaws.{rows-length}
use Rattle.kept.proofs.WithoutLaws.{eq_or}
use Rattle.cache.specs.Form.{held_of}
use Rattle.neighbours.specs.Closest.{off_path, closest_past}
use Rattle.neighbours.proofs.ClosestLaws.{closest-among, closest-least, closest_formed}
use Rattle.neighbours.proofs.SkipLaws.{off-held}
use Rattle.waiting.specs.Place.{id_of, place_key}
use Rattle.waiting.specs.Form.{used_of, places_of}
use Rattle.table.specs.Seek.{seek}
use Rattle.waiting.specs.Seek.{is_at, has_id}
use Rattle.wire_fields.specs.Kinds.{authority_kinds}
use Rattle.wire_fields.specs.Reading.{contents_in}
use Rattle.wire_fields.specs.Places.{Part}
use Rattle.wire_buffer.specs.Buffer.{start_of}
use Rattle.look.specs.Seen.{size_of}
use Rattle.asking.specs.Asking.{inquire_room}
use Rattle.asking.specs.Ids.{id_after}
use Rattle.asking.proofs.AskingLaws.{inquire_most}
use Rattle.plan_answer.specs.Answering.{lookup_refusals}
use Rattle.plan_message.proofs.AnswerLaws.{EntryIn}
use Rattle.gauge_laws.specs.Table.{lookup_table}
use Rattle.wire_write.specs.Sent.{closest_sent}
use Rattle.wire_write.specs.Making.{cpa_made, closest_made}
use Rattle.gauge_plan.specs.Own.{not_ours}
use Rattle.gauge_plan.specs.Found.{is_nothing, place_of}
use Rattle.gauge_commit.proofs.LengthLaws.{cpa_length, closest-length}
use Rattle.gauge_commit.proofs.SentLaws.{joined_one}
use Rattle.record.proofs.EntryLaws.{form_length, one_address}
use Rattle.own.specs.Own.{Own, own_keys, own_records, own_place}
use Rattle.gauge_plan.specs.Lent.{Memory, Receive, cpa_for, ReceiveLent}
use Rattle.gauge_laws.proofs.FirstLaws.{whole_record}
use Rattle.sentences.specs.Heard.{Heard, inquire, authority, ack, lookup, other, entry_in}
use Rattle.sentences.specs.Sentences as S
use Rattle.sentences.specs.Numbers as Num
use Rattle.sentences.proofs.MembersLaws.{rise_one, places_rise}
use Rattle.sentences.proofs.WordLaws.{not_iff, found-waits, none-iff-not}
use Rattle.sentences.proofs.OursLaws.{ours_iff, cpa_most}
use Rattle.sentences.proofs.MoveLaws.{any-in, in-any}
use Rattle.sentences.proofs.OneLaws.{candidate_to, candidate_from}
use Rattle.sentences.proofs.AskedLaws.{opening, asks-iff, asks-long}
use Rattle.sentences.proofs.FirstLaws.{Row}
use Rattle.gauge_plan.proofs.MemoryLaws.{lent-tables, ready}
use Rattle.sentences.proofs.SaidLaws.{Said, short-to, short-from, none-short, First, Both, good}

module _ (m : Memory) (l : Receive) (n : ℕ) (low : First m l n) where
  abbrev k : Own
  k = own_keys l.own

  abbrev recs : List (List ℕ)
  recs = held_of (own_keys l.own) m.cache

  abbrev ps : List (List ℕ)
  ps = places_of m.waiting

  -- INQUIRE
  pub inquire-both : (id validate : ℕ)
      → Both m l n (inquire id (key_at validate l.datagram))
      (when 12 (not_ours k validate l.datagram) ∷ when 15 (ltb (length l.output) (40 + length (cpa_for l (key_at validate l.datagram)))) ∷ [])
  unfolding cpa_made
  inquire-both id validate = (to, from)
    where
      x : Heard
      x = inquire id (key_at validate l.datagram)

      cpa : List ℕ
      cpa = cpa_for l (key_at validate l.datagram)

      ds : List (List ℕ)
      ds = (cpa_made l.major l.minor l.id id cpa).bytes ∷ []

      room : length (joined ds) ≡ 40 + length cpa
      room = ap length (joined_one (cpa_made l.major l.minor l.id id cpa).bytes) ∙ cpa_length l.major l.minor l.id id cpa

      to : Said m l x n → Row n (when 12 (not_ours k validate l.datagram) ∷ when 15 (ltb (length l.output) (40 + length cpa)) ∷ [])
      to (inl w) = inl (w.0, (ours_iff k (key_at validate l.datagram)).1 w.1)
      to (inr w) =
          let g = good m l n low (sooner 1 15 (unfold place_in in refl) w.0) in
          let few : length cpa ≤ 1024 = cpa_most (length (own_records l.own)) (own_place k (key_at validate l.datagram)) l.cpas g.cpas in
          inr (inl (short-from m l x ds n _ g refl room (omega (arith, few)) w))

      from : Row n (when 12 (not_ours k validate l.datagram) ∷ when 15 (ltb (length l.output) (40 + length cpa)) ∷ []) → Said m l x n
      from (inl w) = inl (w.0, (ours_iff k (key_at validate l.datagram)).0 w.1)
      from (inr (inl w)) = inr (short-to m l x ds n _ refl room w)
      from (inr (inr w)) = absurd w

  -- ACK
  pub ack-both : (acked : ℕ) (y : Bool) → Both m l n (ack acked y) (when 8 (is_nothing (seek (is_at acked 1) 0 ps)) ∷ [])
  ack-both acked y = (to, from)
    where
      to : Said m l (ack acked y) n → Row n (when 8 (is_nothing (seek (is_at acked 1) 0 ps)) ∷ [])
      to (inl w) = inl (w.0, (none-iff-not m 1 acked).1 w.1)
      to (inr w) = absurd (none-short m l w.1 w.2 w.3)

      from : Row n (when 8 (is_nothing (seek (is_at acked 1) 0 ps)) ∷ []) → Said m l (ack acked y) n
      from (inl w) = inl (w.0, (none-iff-not m 1 acked).0 w.1)
      from (inr w) = absurd w

  -- AUTHORITY
  module _ (acked : ℕ) (cpa : Bool) where
    abbrev there : List ℕ
    there = get_or ps (place_of (seek (is_at acked 2) 0 ps)) []

    abbrev au : List Refusal
    au = when 8 (is_nothing (seek (is_at acked 2) 0 ps)) ∷ when 9 (not cpa || not (eqb l.verdict 1))
        ∷ when 10 (not (eqb (key_at 0 l.key) (place_key there))) ∷ []

    nine-to : (c : Bool) → (c ≡ false) ⊎ (¬ (l.verdict ≡ 1)) → not c || not (eqb l.verdict 1) ≡ true
    nine-to false w = refl
    nine-to true (inl e) = both refl e
    nine-to true (inr h) = (not_iff l.verdict 1).1 h

    nine-from : (c : Bool) → not c || not (eqb l.verdict 1) ≡ true → (c ≡ false) ⊎ (¬ (l.verdict ≡ 1))
    nine-from false e = inl refl
    nine-from true e = inr ((not_iff l.verdict 1).0 e)

    pub authority-both : Num.Says l (authority acked cpa) → Both m l n (authority acked cpa) au
    authority-both says = (to, from)
      where
        some-there : Before 8 n → S.WaitsAs m 2 acked there
        some-there h = go (is_nothing (seek (is_at acked 2) 0 ps)) refl
          where
            go : (y : Bool) → is_nothing (seek (is_at acked 2) 0 ps) ≡ y → S.WaitsAs m 2 acked there
            go true e = absurd (low 8 h (Num.no-inquiry refl acked cpa says ((none-iff-not m 2 acked).0 e)))
            go false e = found-waits m 2 acked e

        has-cpa : Before 9 n → cpa ≡ true
        has-cpa h = go cpa refl
          where
            go : (b : Bool) → cpa ≡ b → cpa ≡ true
            go true e = e
            go false e = absurd (low 9 h (Num.no_cpa refl acked (subst (λ (b : Bool). Num.Says l (authority acked b)) e says)))

        is-good : Before 9 n → l.verdict ≡ 1
        is-good h = elim (eq_or l.verdict 1) [ inl e ↦ e | inr d ↦ absurd (low 9 h (Num.bad-authority refl acked cpa says d)) ]

        to : Said m l (authority acked cpa) n → Row n au
        to (inl (inl w)) = inl (w.0, (none-iff-not m 2 acked).1 w.1)
        to (inl (inr (inl w))) = inr (inl (w.0, nine-to cpa w.1))
        to (inl (inr (inr w))) =
            let v = some-there (sooner 8 10 (unfold place_in in refl) w.0) in
            let up = places_rise k m.waiting (good m l n low (sooner 1 10 (unfold place_in in refl) w.0)).waiting in
            let e = rise_one id_of 0 w.3 there ps up w.4.0 v.0 (w.4.1 ∙ sym v.1) in
            inr (inr (inl (w.0, (not_iff (key_at 0 l.key) (place_key there)).1 (λ d. w.5 (ap place_key e ∙ sym d)))))
        to (inr w) = absurd (none-short m l w.1 w.2 w.3)

        from : Row n au → Said m l (authority acked cpa) n
        from (inl w) = inl (inl (w.0, (none-iff-not m 2 acked).0 w.1))
        from (inr (inl w)) = inl (inr (inl (w.0, nine-from cpa w.1)))
        from (inr (inr (inl w))) =
            let nine = sooner 9 10 (unfold place_in in refl) w.0 in
            let v = some-there (sooner 8 10 (unfold place_in in refl) w.0) in
            inl (inr (inr (w.0, has-cpa nine, is-good nine, there, v, λ d. (not_iff (key_at 0 l.key) (place_key there)).0 w.1 (sym d))))
        from (inr (inr (inr w))) = absurd w

  -- LOOKUP
  module _ (id target path size : ℕ) (route : Part) (we : EntryIn l.datagram route) where
    abbrev tk : ℕ
    tk = key_at target l.datagram

    abbrev pq : List ℕ
    pq = part path size l.datagram

    abbrev cr : List ℕ
    cr = closest_past l.own recs pq tk

    abbrev lo : Bool
    lo = opening m l route

    abbrev le : Option (List ℕ)
    le = entry_in (contents_in l.datagram route)

    abbrev lx : Heard
    lx = lookup id tk pq le

    abbrev cb : List ℕ
    cb = S.written authority_kinds (closest_sent l.major l.minor l.id id cr)

    abbrev cds : List (List ℕ)
    cds = cb ∷ S.asks l lo (S.entry_record le)

    lookup-reply : ReceiveLent m l → S.Reply m l lx cds
    lookup-reply g = record {
      r = cr;
      ask = lo;
      closest = record {
        candidate = candidate_from l.own pq recs cr (closest-among tk l.own (off_path pq recs) g.own);
        none-closer = λ q i. closest-least tk l.own (off_path pq recs) q (candidate_to l.own pq recs q i);
      };
      asked = asks-iff m l route we;
      are = refl;
    }

    lookup-formed : ReceiveLent m l → record_form cr ≡ true
    unfolding held_of
    lookup-formed g =
        let rd = ready l.own m (lent-tables m l g) in
        closest_formed tk k l.own (off_path pq recs) rd.owned (off-held pq k recs rd.form.held)

    shown-long : ReceiveLent m l → length cb ≡ 80 + 16 * count_of cr
    unfolding closest_made held_of
    shown-long g =
        let fine = lookup-formed g in
        let whole = whole_record cr fine in
        ap (λ (y : List ℕ). length (S.written authority_kinds (closest_sent l.major l.minor l.id id y))) (sym whole)
        ∙ closest-length l.major l.minor l.id cr 0 (omega (arith, form_length cr fine)) (ap record_form whole ∙ fine) id
        ∙ ap (λ (y : List ℕ). 80 + 16 * count_of y) whole

    lookup-room : ReceiveLent m l → length (joined cds) ≡ 80 + 16 * count_of cr + inquire_room lo
    unfolding joined
    lookup-room g =
        length-append cb (joined (S.asks l lo (S.entry_record le))) ∙ ap₂ ◌+◌ (shown-long g) (asks-long m l route we g.nonce)

    abbrev lrows : List Refusal
    lrows = lookup_refusals ps (used_of m.waiting) l.id (length l.output) lo cr

    pub lookup-both : Both m l n (lookup id (key_at target l.datagram) (part path size l.datagram) (entry_in (contents_in l.datagram route)))
        (lookup_table m l target path size (start_of route) (size_of route))
    lookup-both = (to, from)
      where
        full_is : length ps ≡ used_of m.waiting
        full_is = rows-length 140 (used_of m.waiting) m.waiting

        to : Said m l lx n → Row n lrows
        to (inl (inl w)) =
            let there = any-in (has_id (id_after l.id)) w.2 ps w.3 (eq-eqb (id_of w.2) (id_after l.id) w.4) in
            inl (w.0, rw ((asks-iff m l route we).1 w.1, there) refl)
        to (inl (inr w)) = inr (inl (w.0, rw ((asks-iff m l route we).1 w.1, eq-eqb (used_of m.waiting) 16 (sym full_is ∙ w.2)) refl))
        to (inr w) =
            let g = good m l n low (sooner 1 15 (unfold place_in in refl) w.0) in
            inr (inr (inl (short-from m l lx cds n _ g (lookup-reply g) (lookup-room g)
            (omega (arith, one_address cr (lookup-formed g), inquire_most lo)) w)))

        from : Row n lrows → Said m l lx n
        from (inl w) =
            let v = both_true lo (any_of (has_id (id_after l.id)) ps) w.1 in
            let p = in-any (has_id (id_after l.id)) ps v.1 in
            inl (inl (w.0, (asks-iff m l route we).0 v.0, p.0, p.1, eqb-true (id_of p.0) (id_after l.id) p.2))
        from (inr (inl w)) =
            let v = both_true lo (eqb (used_of m.waiting) 16) w.1 in
            inl (inr (w.0, (asks-iff m l route we).0 v.0, full_is ∙ eqb-true (used_of m.waiting) 16 v.1))
        from (inr (inr (inl w))) =
            let g = good m l n low (sooner 1 15 (unfold place_in in refl) w.0) in
            inr (short-to m l lx cds n _ (lookup-reply g) (lookup-room g) w)
        from (inr (inr (inr w))) = absurd w

  -- SOLICIT, ADVERTISE, REQUEST
  pub seven-both : Both m l n other (when 7 true ∷ [])
  seven-both = (λ w. inl (elim w [ inl v ↦ v | inr v ↦ absurd v.2 ], refl), λ w. elim w [ inl v ↦ inl v.0 | inr v ↦ absurd v ])
