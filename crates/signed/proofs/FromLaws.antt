-- Demand 3 from a saved cache: what holds between two calls (StepLaws) holds at that start too, and learning what is held drops nothing. And what
-- ours has every gauge has that meets the sentences, for it is ours. Assumes nothing.
use mathlib.Core.Path.{◌≡◌, refl, sym, ap, subst, ◌∙◌}
use mathlib.Core.Bool.{true}
use mathlib.Core.List.{List, [], ◌∷◌, ◌++◌, map, append-nil, append_assoc}
use mathlib.Core.Logic.{⊎_elim, inl, inr}
use Prim.Native.Nat.{ℕ, suc, ◌+◌, ◌*◌, ◌≤◌}
use native.Mathlib.Omega.{arith}
use lib.ListN.{length, replicate, length-append, length-map}
use borrow.Author.Tests.{le-ltb}
use Rattle.key.specs.Around.{Side, side_of, nearness}
use Rattle.record.specs.Record.{key_of}
use Rattle.own.specs.Own.{Own, own_keys}
use Rattle.kept.specs.Keys.{◌∈◌, Every, Rising, plain, put}
use Rattle.kept.specs.History.{Event, learned, trimmed, learn_with, happen, after, Learns, NoRemoval, learned_all}
use Rattle.kept.specs.Neighbours.{IsNeighbours}
use Rattle.kept.specs.Plain.{NotOwn, neighbours, drops, kept}
use Rattle.kept.proofs.PutLaws.{put-nil, put-more}
use Rattle.kept.proofs.ListLaws.{every_at}
use Rattle.kept.proofs.CallLaws.{after_append, learns_or}
use Rattle.cache.specs.Form.{cache_form, keys_of, held_of}
use Rattle.cache.proofs.FormLaws.{true_form, form-room}
use Rattle.firsts.specs.Firsts.{firsts_of}
use Rattle.firsts.proofs.FirstsLaws.{firsts_none}
use Rattle.waiting.proofs.FormLaws as WF
use Rattle.waiting.proofs.RoundLaws.{All}
use Rattle.gauge_commit.specs.Sending.{OnlyFirst, Handed}
use Rattle.gauge_plan.specs.Lent.{Memory, memory, InForm, empty, Call, lists, own_of, output_of}
use Rattle.gauge.specs.Words.{Gauge, left, Entry, entry, log, returned, Typed, Proper}
use Rattle.gauge.specs.Ours.{ours}
use Rattle.sentences.specs.Sentences.{NeighbourList}
use Rattle.sentences.specs.Meets.{MeetsSentences}
use Rattle.sentences.proofs.Theorems.{acts}
use Rattle.sentences.proofs.FirstsLaws.{always_counted}
use Rattle.signed.specs.Events.{Happened}
use Rattle.signed.specs.Statements.{ListsThese, MeetsDemand1, MeetsDemand2, Demand3, MeetsDemand3}
use Rattle.signed.specs.From as F
use Rattle.signed.proofs.ToldLaws.{events, log_happened}
use Rattle.signed.proofs.KeyLaws.{Owed}
use Rattle.signed.proofs.StepLaws.{Inv, ran}
use Rattle.signed.proofs.Theorems.{start, empty-table, typed_calls, lists-these, each_own, meets_demand1, meets_demand2, meets_demand3}

-- ---- keys learned in their order

rising_past : (b x : ℕ) (l more : List ℕ) → Rising plain b (l ++ (x ∷ more)) → b ≤ x
rising_past b x [] more r = r.0
rising_past b x (j ∷ l) more r = let h = rising_past (suc j) x l more r.1 in omega (arith, r.0, h)

-- one above the others stands last
put_last : (b x : ℕ) (l more : List ℕ) → Rising plain b (l ++ (x ∷ more)) → put plain x l ≡ l ++ (x ∷ [])
put_last b x [] more r = put-nil plain x
put_last b x (j ∷ l) more r =
    put-more plain x j l (rising_past (suc j) x l more r.1) ∙ ap (λ (t : List ℕ). j ∷ t) (put_last (suc j) x l more r.1)

module _ (k : Own) (C : ℕ) where
  learn-last : (x : ℕ) (front rest : List ℕ) → Rising plain 0 (front ++ (x ∷ rest)) → length (front ++ (x ∷ rest)) ≤ C
      → learn_with (drops k) C front x ≡ front ++ (x ∷ [])
  unfolding learn_with trimmed
  learn-last x front rest r few =
      ap (trimmed (drops k) C) (put_last 0 x front rest r)
      ∙ rw (le-ltb C (length (front ++ (x ∷ []))) (omega (arith, few, length-append front (x ∷ rest), length-append front (x ∷ [])))) refl

  learned-all : (front rest : List ℕ) → Rising plain 0 (front ++ rest) → length (front ++ rest) ≤ C
      → after (drops k) C front (map learned rest) ≡ front ++ rest
  unfolding after happen
  learned-all front [] r few = sym (append-nil front)
  learned-all front (x ∷ rest) r few =
      let e : front ++ (x ∷ []) ++ rest ≡ front ++ (x ∷ rest) = append_assoc front (x ∷ []) rest in
      ap (λ (ks : List ℕ). after (drops k) C ks (map learned rest)) (learn-last x front rest r few)
      ∙ learned-all (front ++ (x ∷ [])) rest (subst (Rising plain 0) (sym e) r) (subst (λ (l : List ℕ). length l ≤ C) (sym e) few)
      ∙ e

  learns-held : (j : ℕ) (keys : List ℕ) → Learns j (map learned keys) → j ∈ keys
  learns-held j [] l = absurd l
  learns-held j (x ∷ keys) (inl e) = inl e
  learns-held j (x ∷ keys) (inr l) = inr (learns-held j keys l)

-- ---- the start

module _ (k : Own) (C : ℕ) (cache : List ℕ) (form : cache_form k cache ≡ true) (size : length cache ≡ 100 * C) where
  few : length (keys_of (held_of k cache)) ≤ C
  few = omega (arith, length-map (held_of k cache) key_of, form-room k cache (held_of k cache) (true_form k cache form), size)

  held_kept : kept k C (F.held_before k cache) ≡ keys_of (held_of k cache)
  held_kept = learned-all k C [] (keys_of (held_of k cache)) (true_form k cache form).held.rising few

  least : (10 ≤ C) × (10 * length k ≤ C)
  least =
      let p = (true_form k cache form).places.least in
      let q = (true_form k cache form).places.enough in
      (omega (arith, p, size), omega (arith, q, size))

  most : C ≤ 256
  most = let p = (true_form k cache form).places.most in omega (arith, p, size)

  restart : Inv k C [] (keys_of (held_of k cache)) (F.restarted k cache)
  restart = record {
    cached = form;
    tabled = WF.form_test k (replicate 2240 0) [] (empty-table k C least most);
    keeps = record { size = size; held = refl };
    owed = subst (All (Owed [])) (WF.form_unique k (replicate 2240 0) [] (empty-table k C least most)) tt;
  }

  module _ (evs : List Event) where
    kept_from : kept k C (F.held_before k cache ++ evs) ≡ after (drops k) C (keys_of (held_of k cache)) evs
    kept_from = after_append (drops k) C [] (F.held_before k cache) evs ∙ ap (λ (ks : List ℕ). after (drops k) C ks evs) held_kept

    none-own : ((j : ℕ) → Learns j evs → NotOwn k j) → (j : ℕ) → Learns j (F.held_before k cache ++ evs) → NotOwn k j
    none-own fine j l =
        let held = keys_of (held_of k cache) in
        ⊎_elim (λ h. every_at (NotOwn k) j held (true_form k cache form).held.others (learns-held k C j held h)) (fine j)
        (learns_or j (F.held_before k cache) evs l)

pub held_are_kept : F.HeldKept
held_are_kept = held_kept

pub meets_demand3_from : F.MeetsDemand3From ours
meets_demand3_from k C cache form size calls proper =
    let r = ran k C [] (keys_of (held_of k cache)) (F.restarted k cache) (restart k C cache form size) calls proper in
    let evs = events (log ours (F.restarted k cache) calls) in
    let all = F.held_before k cache ++ evs in
    let now = left ours (F.restarted k cache) calls in
    let held : keys_of (held_of k now.cache) ≡ kept k C all = r.inv.keeps.held ∙ sym (kept_from k C cache form size evs) in
    let d = each_own k C (least k C cache form size).1 all (none-own k C cache form size evs r.fine) in
    record {
      later = evs;
      happened = log_happened [] (F.restarted k cache) calls (typed_calls k calls proper);
      listed = λ j mine. lists-these k (kept k C all) now r.inv.cached held j mine (kept k C all) (d j mine).right;
      among-all = λ none j mine. lists-these k (kept k C all) now r.inv.cached held j mine (learned_all all) ((d j mine).among-all none);
    }

-- ---- with an empty cache it is demand 3, of any gauge

-- what is lent then is an empty cache, no key counted
restarted-empty : (k : Own) (C : ℕ) → keys_of (held_of k (replicate (100 * C) 0)) ≡ [] → F.restarted k (replicate (100 * C) 0) ≡ empty C
restarted-empty k C none =
    ap (λ (fs : List ℕ). memory (replicate (100 * C) 0) fs (replicate 2240 0)) (ap firsts_of none ∙ firsts_none)

pub counted_from : F.CountedFrom
counted_from g p k calls proper = (
  λ C least most.
      let none : keys_of (held_of k (replicate (100 * C) 0)) ≡ [] = (start k C least most).keeps.held in
      always_counted g p k (empty C) (sym (ap firsts_of none ∙ firsts_none)) calls proper,
  λ cache. always_counted g p k (F.restarted k cache) refl calls proper,
)

pub from_empty : F.FromEmpty
from_empty g meets k C least most calls proper =
    let s = start k C least most in
    let r = meets k C (replicate (100 * C) 0) s.cached s.keeps.size calls proper in
    let at : F.restarted k (replicate (100 * C) 0) ≡ empty C = restarted-empty k C s.keeps.held in
    let e : F.held_before k (replicate (100 * C) 0) ++ r.later ≡ r.later = ap (λ (ks : List ℕ). map learned ks ++ r.later) s.keeps.held in
    record {
      history = r.later;
      happened = subst (λ (m : Memory). Happened [] (log g m calls) r.later) at r.happened;
      listed = λ j mine. subst (λ (evs : List Event). ListsThese g (left g (empty C) calls) k j (kept k C evs)) e
          (subst (λ (m : Memory). ListsThese g (left g m calls) k j (kept k C (F.held_before k (replicate (100 * C) 0) ++ r.later))) at (r.listed j mine));
      among-all = λ none j mine. subst (λ (evs : List Event). NoRemoval (drops k) C [] evs → ListsThese g (left g (empty C) calls) k j (learned_all evs)) e
          (λ calm. subst (λ (m : Memory). ListsThese g (left g m calls) k j (learned_all (F.held_before k (replicate (100 * C) 0) ++ r.later))) at
          (r.among-all calm j mine)) none;
    }

-- ---- a gauge that meets the sentences does what ours does

module _ (g : Gauge) (p : MeetsSentences g) where
  left-same : (m : Memory) (cs : List Call) → Every Typed cs → left g m cs ≡ left ours m cs
  unfolding left
  left-same m [] t = refl
  left-same m (c ∷ cs) t = ap (λ (h : Handed). left g h.memory cs) (acts g p m c t.0) ∙ left-same (ours m c).memory cs t.1

  log-same : (m : Memory) (cs : List Call) → Every Typed cs → log g m cs ≡ log ours m cs
  unfolding log
  log-same m [] t = refl
  log-same m (c ∷ cs) t =
      ap (λ (h : Handed). entry c h.answer.number ∷ log g h.memory cs) (acts g p m c t.0)
      ∙ ap (λ (es : List Entry). entry c (ours m c).answer.number ∷ es) (log-same (ours m c).memory cs t.1)

  lists-same : (m n : Memory) → m ≡ n → (own : Own) (k : ℕ) (keys : List ℕ) → ListsThese ours n own k keys → ListsThese g m own k keys
  lists-same m n e own k keys h l owned one keyed is room =
      subst (NeighbourList k keys l.output) (sym (acts g p m (lists l) tt ∙ ap (λ (x : Memory). ours x (lists l)) e)) (h l owned one keyed is room)

pub restarts : F.Restarts
restarts g p k C cache form size calls proper =
    let o = meets_demand3_from k C cache form size calls proper in
    let ty = typed_calls k calls proper in
    let same = left-same g p (F.restarted k cache) calls ty in
    record {
      later = o.later;
      happened = subst (λ (es : List Entry). Happened [] es o.later) (sym (log-same g p (F.restarted k cache) calls ty)) o.happened;
      listed = λ j mine. lists-same g p _ _ same k j _ (o.listed j mine);
      among-all = λ none j mine. lists-same g p _ _ same k j _ (o.among-all none j mine);
    }

pub enough : F.Enough
enough g p = record {
  demand1 = record {
    table = p.table;
    first = λ m c ty. subst (λ (h : Handed). OnlyFirst (returned c h.answer) (output_of c) h.output) (sym (acts g p m c ty))
        (meets_demand1.first m c ty);
    form = λ m c ty f. subst (λ (h : Handed). InForm (own_keys (own_of c)) h.memory) (sym (acts g p m c ty)) (meets_demand1.form m c ty f);
  };
  demand2 = record {
    one-message = meets_demand2.one-message;
    written_reads = meets_demand2.written_reads;
    read_written = meets_demand2.read_written;
    sent_reads = meets_demand2.sent_reads;
    sentences = p;
  };
  demand3 = from_empty g (restarts g p);
}
