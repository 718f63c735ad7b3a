-- A key that was revoked stays out until it is asked for, out of the cache too: from the sentences alone, of any gauge. Assumes nothing.
use Prim.Native.Nat.{ℕ, zero, suc}
use mathlib.Core.Bool.{Bool, true, false}
use mathlib.Core.List.{List, [], ◌∷◌}
use mathlib.Core.Logic.{inl, inr}
use mathlib.Core.Option as O
use mathlib.Core.Path.{◌≡◌, refl, sym, ap, subst, ◌∙◌}
use native.Mathlib.Omega.{arith}
use lib.ListN.{length, replicate, length-replicate}
use lib.Seq.{length-take-le}
use Rattle.octet.specs.Number.{Bytes, value_be}
use Rattle.octet.specs.Part.{part}
use Rattle.key.specs.Number.{key_at}
use Rattle.record.specs.Record.{key_of, record_form}
use Rattle.record.proofs.EntryLaws.{form_length, record_form_lem}
use Rattle.own.specs.Own.{Own, own_form, own_keys}
use Rattle.kept.proofs.WithoutLaws.{eq_or}
use Rattle.kept.specs.Keys.{Every, ◌∈◌}
use Rattle.kept.proofs.PutLaws.{Tri, less, same, more, tri}
use Rattle.cache.specs.Form.{places_in, held_of}
use Rattle.waiting.specs.Place.{kind_of, place_key, place_record, inquiry_place, flood_place}
use Rattle.waiting.specs.Form.{waiting_form}
use Rattle.waiting.proofs.NewLaws.{new-key, new-kind}
use Rattle.waiting.proofs.PlaceLaws.{less-kind, less-key, inquiry-key}
use Rattle.gauge_plan.specs.Lent.{Memory, Receive, Call, receives, sends, ticks, lists, own_of}
use Rattle.gauge_commit.specs.Sending.{Handed}
use Rattle.gauge.specs.Words.{Gauge, left, Typed, OneKey}
use Rattle.sentences.specs.Heard.{Heard, entry, revoke, inquire, authority, ack, lookup, other, Hears}
use Rattle.sentences.specs.Sentences as S
use Rattle.sentences.specs.Numbers as Num
use Rattle.sentences.specs.Meets.{MeetsSentences}
use Rattle.sentences.specs.Late as L
use Rattle.sentences.proofs.OneLaws.{hears_one}
use Rattle.sentences.proofs.HeardLaws.{EntryHeard, entry-heard, lookup_entry-heard}
use Rattle.sentences.proofs.MembersLaws.{place_formed}
use Rattle.sentences.proofs.SaidLaws as Said
use Rattle.sentences.proofs.OtherLaws.{is-lent}

-- no inquiry for the key waits
abbrev Quiet : ℕ → Memory → Type 0
Quiet u m = ¬ ((p : List ℕ) × S.Waits m p × S.Inquiry u p)

-- no record of the key is held, for the own key k
abbrev Out : Own → ℕ → Memory → Type 0
Out k u m = (r : List ℕ) → S.Holds k m r → ¬ (key_of r ≡ u)

-- ---- the record of a FLOOD is in form

-- the key of the place for the record of a route entry
place_key_lem : (d r : List ℕ) → EntryHeard d r → (id : ℕ) → place_key (inquiry_place id r) ≡ key_of r
place_key_lem d r e id =
    let long = form_length r (ap record_form e.is ∙ record_form_lem (part e.start e.len d) e.formed) in
    ap (value_be 256) (new-key id 2 2 (part 0 32 r) r (length-take-le 32 r (omega arith)) long)

entry_key : (d : List ℕ) → Bytes d → (major i : ℕ) (s : Bool) (v : ℕ) (r : List ℕ) → Hears d major (entry i s v r)
    → (id : ℕ) → place_key (inquiry_place id r) ≡ key_of r
entry_key d b major i s v r h id = place_key_lem d r (entry-heard d b major i s v r h) id

flood_kind : (id : ℕ) (key : List ℕ) → length key ≡ 32 → kind_of (flood_place id key) ≡ 1
flood_kind id key e = new-kind id 1 2 key (replicate 100 0) e (length-replicate {A = ℕ} 100 0)

-- ---- one call

module _ (u : ℕ) (m : Memory) (quiet : Quiet u m) where
  leaves_quiet : (l : Receive) → Bytes l.datagram → (x : Heard) (left : Memory) → Hears l.datagram l.major x
      → ((i : ℕ) (s : Bool) (v : ℕ) (r : List ℕ) → Hears l.datagram l.major (entry i s v r) → key_of r ≡ u → ¬ S.MustAsk (own_keys l.own) m r)
      → ((i t : ℕ) (path r : List ℕ) → Hears l.datagram l.major (lookup i t path (O.some r)) → key_of r ≡ u → ¬ S.MustAsk (own_keys l.own) m r)
      → S.Leaves m l x left → Quiet u left
  leaves_quiet l b (entry i s v r) left h none neither w q =
      elim ((w.table.members q.0).0 q.1) [
        | inl y ↦ quiet (q.0, y, q.2)
        | inr y ↦ none i s v r h (sym (ap place_key y.1 ∙ entry_key l.datagram b l.major i s v r h _) ∙ q.2.1) y.0
      ]
  leaves_quiet l b (revoke i s v) left h none neither w q = quiet (q.0, ((w.table.members q.0).0 q.1).0, q.2)
  leaves_quiet l b (inquire i v) left h none neither w q = quiet (q.0, subst (λ (y : Memory). S.Waits y q.0) w q.1, q.2)
  leaves_quiet l b (authority acked c) left h none neither w q = quiet (q.0, ((w.table.members q.0).0 q.1).0, q.2)
  leaves_quiet l b (ack acked n) left h none neither w q = quiet (q.0, ((w.table.members q.0).0 q.1).0, q.2)
  leaves_quiet l b (lookup i t path O.none) left h none neither w q =
      elim ((w.table.members q.0).0 q.1) [ inl y ↦ quiet (q.0, y, q.2) | inr y ↦ absurd y.0 ]
  leaves_quiet l b (lookup i t path (O.some r)) left h none neither w q =
      elim ((w.table.members q.0).0 q.1) [
        | inl y ↦ quiet (q.0, y, q.2)
        | inr y ↦ neither i t path r h
            (sym (ap place_key y.1 ∙ place_key_lem l.datagram r (lookup_entry-heard l.datagram b l.major i t path r h) _) ∙ q.2.1) y.0.1
      ]
  leaves_quiet l b other left h none neither w q = absurd w

  does-quiet : (c : Call) (h : Handed) → Typed c → ¬ L.AsksFor u m c → ((i : ℕ) → ¬ Num.Applies m c i) → S.Does m c h → Quiet u h.memory
  does-quiet (receives l) h ty none low s q =
      leaves_quiet l ty.0 s.x h.memory s.hears
      (λ i t v r y e must. none (inl (i, t, v, r, y, e, must))) (λ i t path r y e must. none (inr (i, t, path, r, y, e, must))) s.leaves q
  does-quiet (sends l) h ty none low s q =
      let g = is-lent m l (low 1) in
      elim ((s.table.members q.0).0 q.1) [
        | inl y ↦ quiet (q.0, y, q.2)
        | inr y ↦ absurd (let z : ◌≡◌ {A = ℕ} 1 2 = sym (ap kind_of y ∙ flood_kind l.id l.neighbour g.neighbour) ∙ q.2.0 in omega arith)
      ]
  does-quiet (ticks l) h ty none low s q =
      let w = (s.table.members q.0).0 q.1 in
      quiet (w.0, w.1, (sym (ap kind_of w.3 ∙ less-kind w.0) ∙ q.2.0, sym (ap place_key w.3 ∙ less-key w.0) ∙ q.2.1))
  does-quiet (lists l) h ty none low s q = quiet (q.0, subst (λ (y : Memory). S.Waits y q.0) s.same q.1, q.2)

  -- what is learned is the record of an inquiry that waited, and none for the key did
  learns-out : (k : Own) (r cache : List ℕ) → ¬ (key_of r ≡ u) → S.Learns k m r cache → Out k u m → (q : List ℕ) → q ∈ held_of k cache → ¬ (key_of q ≡ u)
  learns-out k r cache not-u s out q i e = go (tri (places_in (length m.cache)) (length s.more))
    where
      there : q ∈ s.more → ⊥
      there j = elim ((s.are q).0 j) [ inl d ↦ not-u (sym (ap key_of d) ∙ e) | inr w ↦ out q w.0 e ]

      go : Tri (places_in (length m.cache)) (length s.more) → ⊥
      go (less h) = there (((s.dropped h).2.members q).0 i).0
      go (same h) = there (((s.fits (omega arith)).members q).0 i)
      go (more h) = there (((s.fits (omega arith)).members q).0 i)

  leaves-out : (l : Receive) → waiting_form (own_keys l.own) m.waiting ≡ true → (x : Heard) (left : Memory) → S.Leaves m l x left
      → Out (own_keys l.own) u m → Out (own_keys l.own) u left
  leaves-out l f (entry i s v r) left w out q y = out q (subst (λ (c : List ℕ). q ∈ held_of (own_keys l.own) c) w.cache y)
  leaves-out l f (revoke i s v) left w out q y = out q ((w.cache.members q).0 y).0
  leaves-out l f (inquire i v) left w out q y = out q (subst (λ (n : Memory). S.Holds (own_keys l.own) n q) w y)
  leaves-out l f (authority acked c) left w out q y =
      let formed = place_formed (own_keys l.own) m.waiting f w.p w.answers.0 in
      let key = inquiry-key (own_keys l.own) w.p formed w.answers.2 in
      learns-out (own_keys l.own) (place_record w.p) left.cache (λ e. quiet (w.p, w.answers.0, (w.answers.2, sym key ∙ e)))
      w.cache out q y
  leaves-out l f (ack acked n) left w out q y = out q ((w.cache.members q).0 y).0
  leaves-out l f (lookup i t path o) left w out q y = out q (subst (λ (c : List ℕ). q ∈ held_of (own_keys l.own) c) w.cache y)
  leaves-out l f other left w out q y = absurd w

  does-out : (k : Own) (c : Call) (h : Handed) → OneKey k c → ((i : ℕ) → ¬ Num.Applies m c i) → S.Does m c h → Out k u m → Out k u h.memory
  does-out k (receives l) h one low s out q y =
      let g = Said.is-lent m l (low 1) in
      let e : own_keys l.own ≡ k = one g.own in
      subst (λ (j : Own). Out j u h.memory) e
      (leaves-out l g.waiting s.x h.memory s.leaves (subst (λ (j : Own). Out j u m) (sym e) out)) q y
  does-out k (sends l) h one low s out q y = out q (subst (λ (x : Memory). q ∈ held_of k x.cache) s.rest y)
  does-out k (ticks l) h one low s out q y = out q (subst (λ (x : Memory). q ∈ held_of k x.cache) s.rest y)
  does-out k (lists l) h one low s out q y = out q (subst (λ (n : Memory). S.Holds k n q) s.same y)

-- ---- calls one after the other

module _ (g : Gauge) (p : MeetsSentences g) (u : ℕ) where
  step-quiet : (m : Memory) (c : Call) → Typed c → ((g m c).answer.number ≡ 0 → ¬ L.AsksFor u m c) → Quiet u m → Quiet u (g m c).memory
  step-quiet m c ty none quiet = go (g m c).answer.number refl
    where
      go : (n : ℕ) → (g m c).answer.number ≡ n → Quiet u (g m c).memory
      go zero e = does-quiet u m quiet c (g m c) ty (none e) ((p.table.accepted m c ty).0 e) (p.does m c ty e)
      go (suc n) e = subst (λ (h : Handed). Quiet u h.memory) (sym (p.table.keeps m c (omega arith))) quiet

  left-quiet : (m : Memory) (cs : List Call) → L.NoneAsks g u m cs → Quiet u m → Quiet u (left g m cs)
  unfolding left
  left-quiet m [] none quiet = quiet
  left-quiet m (c ∷ cs) none quiet = left-quiet (g m c).memory cs none.2 (step-quiet m c none.0 none.1 quiet)

  step-out : (k : Own) (m : Memory) (c : Call) → Typed c → OneKey k c → Quiet u m → Out k u m → Out k u (g m c).memory
  step-out k m c ty one quiet out = go (g m c).answer.number refl
    where
      go : (n : ℕ) → (g m c).answer.number ≡ n → Out k u (g m c).memory
      go zero e = does-out u m quiet k c (g m c) one ((p.table.accepted m c ty).0 e) (p.does m c ty e) out
      go (suc n) e = subst (λ (h : Handed). Out k u h.memory) (sym (p.table.keeps m c (omega arith))) out

  left_out : (k : Own) (m : Memory) (cs : List Call) → Every (OneKey k) cs → L.NoneAsks g u m cs → Quiet u m → Out k u m → Out k u (left g m cs)
  unfolding left
  left_out k m [] one none quiet out = out
  left_out k m (c ∷ cs) one none quiet out =
      left_out k (g m c).memory cs one.1 none.2 (step-quiet m c none.0 none.1 quiet) (step-out k m c none.0 one.0 quiet out)

  -- what an accepted revocation leaves, with an own record in form
  revoked-leaves : (m : Memory) (c : Call) → Typed c → L.Revokes u c → (g m c).answer.number ≡ 0
      → (own_form (own_of c) ≡ true) × S.FloodRevokes (own_keys (own_of c)) m u (g m c).memory
  revoked-leaves m (receives l) ty w z =
      let c = receives l in
      let s = p.does m c ty z in
      let e = hears_one l.datagram l.major s.x (revoke w.0 w.1 w.2) s.hears w.3 in
      let v : S.FloodRevokes (own_keys l.own) m (key_at 0 l.key) (g m c).memory = subst (λ (x : Heard). S.Leaves m l x (g m c).memory) e s.leaves in
      ((Said.is-lent m l ((p.table.accepted m c ty).0 z 1)).own, subst (λ (j : ℕ). S.FloodRevokes (own_keys l.own) m j (g m c).memory) w.4 v)
  revoked-leaves m (sends l) ty w z = absurd w
  revoked-leaves m (ticks l) ty w z = absurd w
  revoked-leaves m (lists l) ty w z = absurd w

  -- a revocation leaves it quiet
  revoked-quiet : (m : Memory) (c : Call) → Typed c → L.Revokes u c → (g m c).answer.number ≡ 0 → Quiet u (g m c).memory
  revoked-quiet m c ty w z q = (((revoked-leaves m c ty w z).1.table.members q.0).0 q.1).1 q.2

  -- and no record of it held
  revoked-out : (k : Own) (m : Memory) (c : Call) → Typed c → OneKey k c → L.Revokes u c → (g m c).answer.number ≡ 0 → Out k u (g m c).memory
  revoked-out k m c ty one w z =
      subst (λ (j : Own). Out j u (g m c).memory) (one (revoked-leaves m c ty w z).0) (λ r i. (((revoked-leaves m c ty w z).1.cache.members r).0 i).1)

  -- an AUTHORITY for another key than the inquiry's is refused, as one without a CPA or with a bad verdict is
  other-refused : (m : Memory) (l : Receive) (acked : ℕ) (cpa : Bool) → Num.Says l (authority acked cpa) → ((i : ℕ) → ¬ Num.ReceiveApplies m l i)
      → (q : List ℕ) → S.WaitsAs m 2 acked q → ¬ (place_key q ≡ key_at 0 l.key) → ⊥
  other-refused m l acked false says none q w h = none 9 (Num.no_cpa refl acked says)
  other-refused m l acked true says none q w h =
      elim (eq_or l.verdict 1) [
        | inl good ↦ none 10 (Num.other_key refl acked says good q w h)
        | inr bad ↦ none 9 (Num.bad-authority refl acked true says bad)
      ]

  -- then no AUTHORITY for it is accepted
  late-refused : (m : Memory) (c : Call) → Typed c → L.Answers u c → Quiet u m → ¬ ((g m c).answer.number ≡ 0)
  late-refused m (receives l) ty w quiet z =
      let c = receives l in
      let s = p.does m c ty z in
      let e = hears_one l.datagram l.major s.x (authority w.0 w.1) s.hears w.2 in
      let v : S.Authority (own_keys l.own) m w.0 (g m c).memory = subst (λ (x : Heard). S.Leaves m l x (g m c).memory) e s.leaves in
      elim (eq_or (place_key v.p) (key_at 0 l.key)) [
        | inl is ↦ quiet (v.p, v.answers.0, (v.answers.2, is ∙ w.3))
        | inr not ↦ other-refused m l w.0 w.1 w.2 ((p.table.accepted m c ty).0 z) v.p v.answers not
      ]
  late-refused m (sends l) ty w quiet z = absurd w
  late-refused m (ticks l) ty w quiet z = absurd w
  late-refused m (lists l) ty w quiet z = absurd w

pub revoked_stays_out : L.RevokedStaysOut
revoked_stays_out g p u m c ty w z cs none =
    let quiet = revoked-quiet g p u m c ty w z in
    record {
      not-held = λ k one. left_out g p u k (g m c).memory cs one.1 none quiet (revoked-out g p u k m c ty one.0 w z);
      refused = λ late ty' answers. late-refused g p u (left g (g m c).memory cs) late ty' answers (left-quiet g p u (g m c).memory cs none quiet);
    }
