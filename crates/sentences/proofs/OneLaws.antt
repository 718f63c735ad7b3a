-- The sentences leave one gauge: what each says of a call's result fixes every number and every byte. Assumes nothing.
use mathlib.Core.Path.{◌≡◌, refl, sym, ap, ap₂, subst, ◌∙◌}
use mathlib.Core.Logic.{◌⊎◌, ◌↔◌, inl, inr}
use mathlib.Core.Bool.{Bool, true, false, cond}
use mathlib.Core.List.{List, [], ◌∷◌, ◌++◌}
use Prim.Native.Nat.{ℕ, zero, suc, ◌≤◌, ◌<◌}
use native.Mathlib.Omega.{arith}
use lib.ListN.{length}
use Rattle.octet.specs.Part.{splice}
use Rattle.key.specs.Around.{Side, below, above, is_above, side_of, nearness, closer, apart}
use Rattle.key.specs.Number.{key_at}
use Rattle.record.specs.Record.{key_of}
use Rattle.own.specs.Own.{Own, own_form, own_keys, own_records, first_own, is_own, IsOwn}
use Rattle.kept.specs.Keys.{◌∈◌, Rising, plain}
use Rattle.kept.proofs.PutLaws.{Tri, less, same, more, tri}
use Rattle.kept.proofs.ListLaws.{Test, pass, fail, test, rising-ext}
use Rattle.key.proofs.AroundLaws.{side_near}
use Rattle.own.proofs.PlaceLaws.{own_in, not_own}
use Rattle.refusal.specs.Table.{order, place_in}
use Rattle.refusal.proofs.TableLaws.{both, places_differ}
use Rattle.cache.specs.Form.{keys_of, places_in, held_of, cache_form}
use Rattle.path.specs.Path.{on_path}
use Rattle.neighbours.specs.Closest.{candidates, off_path, closest_past}
use Rattle.cache.proofs.FormLaws.{true_form}
use Rattle.firsts.specs.Firsts.{firsts_of}
use Rattle.neighbours.proofs.ClosestLaws.{closest_only}
use Rattle.neighbours.proofs.SkipLaws.{off-has, has-off, off-held}
use Rattle.waiting.specs.Place.{id_of, kind_of, tries_of, place_key, place_record}
use Rattle.waiting.specs.Form.{places_of, waiting_form}
use Rattle.waiting.specs.Tick.{one_less}
use Rattle.wire.proofs.Theorems.{at_most_one}
use Rattle.gauge_commit.specs.declared.Answer.{Answer}
use Rattle.gauge_commit.specs.Sending.{answer, lengths, sending, Handed, handed}
use Rattle.wire_fields.specs.Kinds.{authority_kinds}
use Rattle.wire_write.specs.Sent.{closest_sent}
use Rattle.gauge_plan.specs.Lent.{Memory, with_firsts, with_waiting, with_tables, Receive, Send, Call, receives, sends, ticks, lists, output_of}
use Rattle.gauge.specs.Words.{Gauge, Typed}
use Rattle.sentences.specs.Heard.{Heard, entry, revoke, inquire, authority, ack, lookup, other, heard, Hears}
use Rattle.sentences.specs.Sentences as S
use Rattle.sentences.specs.Numbers as Num
use Rattle.sentences.specs.Meets as Meets
use Rattle.sentences.proofs.OursLaws.{only_of}
use Rattle.sentences.proofs.MembersLaws.{rise_one, rise-ext, cache_same, table_same, places_rise, held-rises}

handed-same : (h h' : Handed) → h.answer ≡ h'.answer → h.memory ≡ h'.memory → h.output ≡ h'.output → h ≡ h'
handed-same h h' a m o =
    ap (λ (x : Answer). handed x h.memory h.output) a
    ∙ ap (λ (x : Memory). handed h'.answer x h.output) m
    ∙ ap (λ (x : List ℕ). handed h'.answer h'.memory x) o

-- two memories that are the lent one with another waiting table; with another cache too, and the counts of its keys
table_alone : (m a b : Memory) → a ≡ with_waiting a.waiting m → b ≡ with_waiting b.waiting m → a.waiting ≡ b.waiting → a ≡ b
table_alone m a b p q w = p ∙ ap (λ (x : List ℕ). with_waiting x m) w ∙ sym q

tables_alone : (own : Own) (m a b : Memory) → S.Beside own m a → S.Beside own m b → (a.cache ≡ b.cache) × (a.waiting ≡ b.waiting) → a ≡ b
tables_alone own m a b p q w =
    p ∙ ap₂ (λ (x y : List ℕ). with_tables x y (with_firsts (firsts_of (keys_of (held_of own x))) m)) w.0 w.1 ∙ sym q

-- ---- the tick

module _ (k : Own) (m : Memory) (output : List ℕ) (h h' : Handed) (s : S.Ticks k m output h) (t : S.Ticks k m output h') where
  ids-same : s.ids ≡ t.ids
  ids-same =
      rising-ext plain 0 0 s.ids t.ids s.rising t.rising (λ i m. (t.listed i).1 ((s.listed i).0 m))
      (λ i m. (s.listed i).1 ((t.listed i).0 m))

  pub ticks-one : h ≡ h'
  ticks-one = handed-same h h' (rw (s.counts, t.counts, ids-same) refl)
      (table_alone m h.memory h'.memory s.rest t.rest
      (table_same k h.memory.waiting h'.memory.waiting _ _ s.table t.table (λ p w. w) (λ p w. w)))
      (rw (s.bytes, t.bytes, ids-same) refl)

-- ---- the neighbour list

module _ (own : List ℕ) (k : ℕ) (m : Memory) (output : List ℕ) (ours : IsOwn (own_keys own) k) (f : cache_form (own_keys own) m.cache ≡ true)
    (h h' : Handed) (s : S.Lists (own_keys own) k m output h) (t : S.Lists (own_keys own) k m output h') where
  low_same : s.listed.low ≡ t.listed.low
  low_same =
      only_of own m.cache k ours f below s.listed.low s.listed.nearest-below
      ∙ sym (only_of own m.cache k ours f below t.listed.low t.listed.nearest-below)

  high_same : s.listed.high ≡ t.listed.high
  high_same =
      only_of own m.cache k ours f above s.listed.high s.listed.nearest-above
      ∙ sym (only_of own m.cache k ours f above t.listed.high t.listed.nearest-above)

  pub lists_one : h ≡ h'
  lists_one = handed-same h h' (rw (s.listed.counts, t.listed.counts, low_same, high_same) refl)
      (s.same ∙ sym t.same)
      (rw (s.listed.bytes, t.listed.bytes, low_same, high_same) refl)

-- ---- a FLOOD sent

sent-same : (output : List ℕ) (ds ds' : List (List ℕ)) (h h' : Handed) → S.Sent output ds h → S.Sent output ds' h' → ds ≡ ds'
    → (h.answer ≡ h'.answer) × (h.output ≡ h'.output)
sent-same output ds ds' h h' s t e =
    (s.counts ∙ ap lengths e ∙ sym t.counts, s.bytes ∙ ap (λ (x : List (List ℕ)). sending x output) e ∙ sym t.bytes)

module _ (m : Memory) (l : Send) (f : cache_form (own_keys l.own) m.cache ≡ true) where
  pub named-one : (r r' : List ℕ) → S.Named m l r → S.Named m l r' → r ≡ r'
  named-one r r' (inl a) (inl b) = a.1 ∙ sym b.1
  named-one r r' (inl a) (inr b) = absurd (b.0 a.0)
  named-one r r' (inr a) (inl b) = absurd (a.0 b.0)
  named-one r r' (inr a) (inr b) =
      rise_one key_of 0 r r' (held_of (own_keys l.own) m.cache) (held-rises (own_keys l.own) m.cache f) a.1 b.1 (a.2 ∙ sym b.2)

  pub sends-one : (h h' : Handed) → S.Sends m l h → S.Sends m l h' → h ≡ h'
  sends-one h h' s t =
      let e = named-one s.r t.r s.named t.named in
      let d = sent-same l.output (S.flooding l s.r) (S.flooding l t.r) h h' s.sent t.sent (ap (S.flooding l) e) in
      handed-same h h' d.0
      (table_alone m h.memory h'.memory s.rest t.rest
      (table_same (own_keys l.own) h.memory.waiting h'.memory.waiting _ _ s.table t.table (λ p w. w) (λ p w. w))) d.1

-- ---- a datagram received: what it says, and what answers it

pub hears_one : (d : List ℕ) (major : ℕ) (x y : Heard) → Hears d major x → Hears d major y → x ≡ y
hears_one d major x y a b =
    sym a.says ∙ ap heard (at_most_one a.kinds b.kinds d a.message b.message a.reads b.reads) ∙ b.says

bool_same : (a b : Bool) → (a ≡ true → b ≡ true) → (b ≡ true → a ≡ true) → a ≡ b
bool_same true b p q = sym (p refl)
bool_same false true p q = q refl
bool_same false false p q = refl

iff_same : (P : Type 0) (a b : Bool) → ((a ≡ true) ↔ P) → ((b ≡ true) ↔ P) → a ≡ b
iff_same P a b p q = bool_same a b (λ e. q.1 (p.0 e)) (λ e. p.1 (q.0 e))

-- in one list or in the other
in_first : (r : List ℕ) (xs ys : List (List ℕ)) → r ∈ xs → r ∈ (xs ++ ys)
in_first r [] ys i = absurd i
in_first r (x ∷ xs) ys (inl e) = inl e
in_first r (x ∷ xs) ys (inr i) = inr (in_first r xs ys i)

in_second : (r : List ℕ) (xs ys : List (List ℕ)) → r ∈ ys → r ∈ (xs ++ ys)
in_second r [] ys i = i
in_second r (x ∷ xs) ys i = inr (in_second r xs ys i)

in_either : (r : List ℕ) (xs ys : List (List ℕ)) → r ∈ (xs ++ ys) → (r ∈ xs) ⊎ (r ∈ ys)
in_either r [] ys i = inr i
in_either r (x ∷ xs) ys (inl e) = inl (inl e)
in_either r (x ∷ xs) ys (inr i) = elim (in_either r xs ys i) [ inl j ↦ inl (inr j) | inr j ↦ inr j ]

-- a candidate is a record of our own or one held that is not on the path
pub candidate_to : (own path : List ℕ) (held : List (List ℕ)) (r : List ℕ) → (r ∈ own_records own) ⊎ ((r ∈ held) × (on_path r path ≡ false))
    → r ∈ candidates (own_records own) (off_path path held)
candidate_to own path held r (inl i) = in_first r (own_records own) (off_path path held) i
candidate_to own path held r (inr w) = in_second r (own_records own) (off_path path held) (off-has path r held w.0 w.1)

pub candidate_from : (own path : List ℕ) (held : List (List ℕ)) (r : List ℕ) → r ∈ candidates (own_records own) (off_path path held)
    → (r ∈ own_records own) ⊎ ((r ∈ held) × (on_path r path ≡ false))
candidate_from own path held r i =
    elim (in_either r (own_records own) (off_path path held) i) [ inl j ↦ inl j | inr j ↦ inr (has-off path r held j) ]

module _ (m : Memory) (l : Receive) (o : own_form l.own ≡ true) (f : cache_form (own_keys l.own) m.cache ≡ true) where
  pub closest-one : (path : List ℕ) (t : ℕ) (r r' : List ℕ) → S.Closest m l path t r → S.Closest m l path t r' → r ≡ r'
  closest-one path t r r' a b = closest-is path t r a ∙ sym (closest-is path t r' b)
    where
      closest-is : (path : List ℕ) (t : ℕ) (r : List ℕ) → S.Closest m l path t r → r ≡ closest_past l.own (held_of (own_keys l.own) m.cache) path t
      closest-is path t r c =
          let held = held_of (own_keys l.own) m.cache in
          closest_only t l.own (off_path path held) o (off-held path (own_keys l.own) held (true_form (own_keys l.own) m.cache f).held) r
          (candidate_to l.own path held r c.candidate) (λ q i. c.none-closer q (candidate_from l.own path held q i))

  pub reply-one : (x : Heard) (ds ds' : List (List ℕ)) → S.Reply m l x ds → S.Reply m l x ds' → ds ≡ ds'
  reply-one (entry id silent validate r) ds ds' a b =
      a.are ∙ ap₂ (λ (n y : Bool). S.acks l id silent n ++ S.asks l y r) (iff_same _ a.n b.n a.set b.set)
      (iff_same _ a.ask b.ask a.asked b.asked) ∙ sym b.are
  reply-one (revoke id silent validate) ds ds' a b =
      a.are ∙ ap (λ (n : Bool). S.acks l id silent n) (iff_same _ a.n b.n a.set b.set) ∙ sym b.are
  reply-one (inquire id validate) ds ds' a b = a ∙ sym b
  reply-one (authority acked cpa) ds ds' a b = a ∙ sym b
  reply-one (ack acked n) ds ds' a b = a ∙ sym b
  reply-one (lookup id target path e) ds ds' a b =
      a.are ∙ ap₂ (λ (r : List ℕ) (y : Bool). S.written authority_kinds (closest_sent l.major l.minor l.id id r) ∷ S.asks l y (S.entry_record e))
      (closest-one path target a.r b.r a.closest b.closest) (iff_same _ a.ask b.ask a.asked b.asked) ∙ sym b.are
  reply-one other ds ds' a b = absurd a

-- ---- learning

drops_one : (k : Own) (all : List (List ℕ)) (d e : List ℕ) → Rising plain 0 (keys_of all) → S.Drops k all d → S.Drops k all e → d ≡ e
drops_one k all d e r a b =
    rise_one key_of 0 d e all r a.unlisted.0 b.unlisted.0
    (let x = a.farthest e b.unlisted in
    let y = b.farthest d a.unlisted in
    let same : apart (first_own k) (key_of d) ≡ apart (first_own k) (key_of e) = omega arith in
    let u = a.lower e b.unlisted (sym same) in
    let v = b.lower d a.unlisted same in
    omega arith)

module _ (k : Own) (m : Memory) (r left left' : List ℕ) (s : S.Learns k m r left) (t : S.Learns k m r left') where
  to : (q : List ℕ) → q ∈ s.more → q ∈ t.more
  to q i = (t.are q).1 ((s.are q).0 i)

  from : (q : List ℕ) → q ∈ t.more → q ∈ s.more
  from q i = (s.are q).1 ((t.are q).0 i)

  more_same : s.more ≡ t.more
  more_same = rise-ext key_of 0 0 s.more t.more s.rising t.rising to from

  pub learns-one : left ≡ left'
  learns-one = go (tri (length s.more) (suc (places_in (length m.cache))))
    where
      size : length s.more ≡ length t.more
      size = ap length more_same

      few : length s.more ≤ places_in (length m.cache) → left ≡ left'
      few h = cache_same k m.cache left left' _ _ (s.fits h) (t.fits (omega (arith, size))) to from

      many : places_in (length m.cache) < length s.more → left ≡ left'
      many h =
          let a = s.dropped h in
          let b = t.dropped (omega (arith, size)) in
          let e : a.0 ≡ b.0 = drops_one k t.more a.0 b.0 t.rising
          (subst (λ (x : List (List ℕ)). S.Drops k x a.0) more_same a.1) b.1 in
          cache_same k m.cache left left' _ _ a.2 b.2 (λ q i. (to q i.0, λ z. i.1 (z ∙ sym e)))
          (λ q i. (from q i.0, λ z. i.1 (z ∙ e)))

      go : Tri (length s.more) (suc (places_in (length m.cache))) → left ≡ left'
      go (less h) = few (omega arith)
      go (same e) = many (omega arith)
      go (more h) = many (omega arith)

-- ---- what each message leaves

abbrev SameTables : Memory → Memory → Type 0
SameTables a b = (a.cache ≡ b.cache) × (a.waiting ≡ b.waiting)

all_same : (a b : Memory) → a ≡ b → SameTables a b
all_same a b e = (ap (λ (x : Memory). x.cache) e, ap (λ (x : Memory). x.waiting) e)

module _ (m : Memory) (l : Receive) (o : own_form l.own ≡ true) (f : cache_form (own_keys l.own) m.cache ≡ true) (g : waiting_form (own_keys l.own) m.waiting ≡ true) where
  abbrev k : Own
  k = own_keys l.own

  -- one place waits with an ID
  place-one : (kind id : ℕ) (p q : List ℕ) → S.WaitsAs m kind id p → S.WaitsAs m kind id q → p ≡ q
  place-one kind id p q a b = rise_one id_of 0 p q (places_of m.waiting) (places_rise k m.waiting g) a.0 b.0 (a.1 ∙ sym b.1)

  entry-one : (r : List ℕ) (a b : Memory) → S.FloodEntry k m l r a → S.FloodEntry k m l r b → SameTables a b
  entry-one r a b s t =
      (s.cache ∙ sym t.cache, table_same k a.waiting b.waiting _ _ s.table t.table (λ p w. w) (λ p w. w))

  revoke-one : (u : ℕ) (a b : Memory) → S.FloodRevokes k m u a → S.FloodRevokes k m u b → SameTables a b
  revoke-one u a b s t = (
    cache_same k m.cache a.cache b.cache _ _ s.cache t.cache (λ p w. w) (λ p w. w),
    table_same k a.waiting b.waiting _ _ s.table t.table (λ p w. w) (λ p w. w),
  )

  authority-one : (acked : ℕ) (a b : Memory) → S.Authority k m acked a → S.Authority k m acked b → SameTables a b
  authority-one acked a b s t =
      let e = place-one 2 acked s.p t.p s.answers t.answers in (
        learns-one k m (place_record t.p) a.cache b.cache (subst (λ (p : List ℕ). S.Learns k m (place_record p) a.cache) e s.cache)
            t.cache,
        table_same k a.waiting b.waiting _ _ s.table t.table (λ q w. (w.0, λ z. w.1 (z ∙ sym e))) (λ q w. (w.0, λ z. w.1 (z ∙ e))),
      )

  ack-one : (acked : ℕ) (n : Bool) (a b : Memory) → S.Ack k m acked n a → S.Ack k m acked n b → SameTables a b
  ack-one acked n a b s t =
      let e = place-one 1 acked s.p t.p s.answers t.answers in
      let u = ap place_key e in (
        cache_same k m.cache a.cache b.cache _ _ s.cache t.cache (λ r w. (w.0, λ z. w.1 (z.0, z.1 ∙ sym u)))
            (λ r w. (w.0, λ z. w.1 (z.0, z.1 ∙ u))),
        table_same k a.waiting b.waiting _ _ s.table t.table (λ q w. (w.0, λ z. w.1 (z ∙ sym e))) (λ q w. (w.0, λ z. w.1 (z ∙ e))),
      )

  leaves-one : (x : Heard) (a b : Memory) → S.Leaves m l x a → S.Leaves m l x b → SameTables a b
  leaves-one (entry id silent validate r) a b s t = entry-one r a b s t
  leaves-one (revoke id silent validate) a b s t = revoke-one (key_at 0 l.key) a b s t
  leaves-one (inquire id validate) a b s t = all_same a b (s ∙ sym t)
  leaves-one (authority acked cpa) a b s t = authority-one acked a b s t
  leaves-one (ack acked n) a b s t = ack-one acked n a b s t
  leaves-one (lookup id target path e) a b s t =
      (s.cache ∙ sym t.cache, table_same k a.waiting b.waiting _ _ s.table t.table (λ p w. w) (λ p w. w))
  leaves-one other a b s t = absurd s

  pub receives-one : (h h' : Handed) → S.Receives m l h → S.Receives m l h' → h ≡ h'
  receives-one h h' s t =
      let e = hears_one l.datagram l.major s.x t.x s.hears t.hears in
      let d = sent-same l.output s.ds t.ds h h' s.sent t.sent
      (reply-one m l o f t.x s.ds t.ds (subst (λ (x : Heard). S.Reply m l x s.ds) e s.reply) t.reply) in
      let z = leaves-one t.x h.memory h'.memory (subst (λ (x : Heard). S.Leaves m l x h.memory) e s.leaves) t.leaves in
      handed-same h h' d.0 (tables_alone (own_keys l.own) m h.memory h'.memory s.rest t.rest z) d.1

-- ---- the number, and the whole

number_one : (g h : Gauge) → Meets.MeetsSentences g → Meets.MeetsSentences h → (m : Memory) (c : Call) → Typed c
    → (g m c).answer.number ≡ (h m c).answer.number
number_one g h p q m c ty = go (g m c).answer.number (h m c).answer.number refl refl
  where
    go : (a b : ℕ) → (g m c).answer.number ≡ a → (h m c).answer.number ≡ b → (g m c).answer.number ≡ (h m c).answer.number
    go zero zero d e = d ∙ sym e
    go zero (suc b) d e = absurd ((p.table.accepted m c ty).0 d (suc b) ((q.table.number m c ty (suc b) (omega arith)).0 e).0)
    go (suc a) zero d e = absurd ((q.table.accepted m c ty).0 e (suc a) ((p.table.number m c ty (suc a) (omega arith)).0 d).0)
    go (suc a) (suc b) d e = by (tri (place_in order (suc a)) (place_in order (suc b)))
      where
        by : Tri (place_in order (suc a)) (place_in order (suc b)) → (g m c).answer.number ≡ (h m c).answer.number
        by (less i) = absurd (((q.table.number m c ty (suc b) (omega arith)).0 e).1 (suc a) i ((p.table.number m c ty (suc a) (omega arith)).0 d).0)
        by (same i) = d ∙ places_differ order (suc a) (suc b) i ∙ sym e
        by (more i) = absurd (((p.table.number m c ty (suc a) (omega arith)).0 d).1 (suc b) i ((q.table.number m c ty (suc b) (omega arith)).0 e).0)

-- nothing applies: memory was lent in form
pub holds : (b : Bool) → (b ≡ false → ⊥) → b ≡ true
holds true h = refl
holds false h = absurd (h refl)

does_one : (m : Memory) (c : Call) → ((i : ℕ) → ¬ Num.Applies m c i) → (h h' : Handed) → S.Does m c h → S.Does m c h' → h ≡ h'
does_one m (receives l) none h h' s t =
    receives-one m l (holds _ (λ e. none 1 (Num.out-of-form refl (λ w. both w.own e))))
    (holds _ (λ e. none 1 (Num.out-of-form refl (λ w. both w.cache e))))
    (holds _ (λ e. none 1 (Num.out-of-form refl (λ w. both w.waiting e)))) h h' s t
does_one m (sends l) none h h' s t = sends-one m l (holds _ (λ e. none 1 (Num.send-out-of-form refl (λ w. both w.cache e)))) h h' s t
does_one m (ticks l) none h h' s t = ticks-one (own_keys l.own) m l.output h h' s t
does_one m (lists l) none h h' s t =
    let own = own_keys l.own in
    let k = key_at 0 l.key in
    lists_one l.own k m l.output (own_in own k (holds (is_own own k) (λ e. none 12 (inr (inl (refl, not_own own k e))))))
    (holds _ (λ e. none 1 (inl (refl, λ w. both w.cache e)))) h h' s t

pub one_gauge : Meets.OneGauge
one_gauge g h p q m c ty = go (g m c).answer.number refl
  where
    n : (g m c).answer.number ≡ (h m c).answer.number
    n = number_one g h p q m c ty

    go : (a : ℕ) → (g m c).answer.number ≡ a → g m c ≡ h m c
    go zero e = does_one m c ((p.table.accepted m c ty).0 e) (g m c) (h m c) (p.does m c ty e) (q.does m c ty (sym n ∙ e))
    go (suc a) e =
        p.table.keeps m c (omega arith) ∙ ap (λ (x : ℕ). handed (answer x 0 0) m (output_of c)) n ∙ sym (q.table.keeps m c (omega (arith, n)))
