-- The counts by first byte, of any gauge that meets the sentences. Assumes nothing.
use mathlib.Core.Path.{◌≡◌, refl, sym, ap, subst, ◌∙◌}
use mathlib.Core.List.{List, [], ◌∷◌}
use mathlib.Core.Bool.{true}
use mathlib.Core.Logic.{inl}
use Prim.Native.Nat.{ℕ, zero, suc}
use native.Mathlib.Omega.{arith}
use Rattle.refusal.specs.Table.{place_in}
use Rattle.refusal.proofs.TableLaws.{both}
use Rattle.own.specs.Own.{Own, own_form, own_keys}
use Rattle.cache.specs.Form.{keys_of, held_of}
use Rattle.firsts.specs.Firsts.{firsts_of}
use Rattle.gauge_commit.specs.Sending.{Handed}
use Rattle.gauge_plan.specs.Lent.{Memory, Counted, Receive, Call, receives, sends, ticks, lists, own_of}
use Rattle.gauge.specs.Words.{Gauge, Typed, left, OneKey, Proper}
use Rattle.gauge_laws.specs.Touched.{Touched}
use Rattle.gauge_laws.proofs.TouchedLaws.{receive_touched, same_touched}
use Rattle.sentences.specs.Numbers as Num
use Rattle.sentences.specs.Meets.{MeetsSentences}
use Rattle.sentences.specs.Firsts as F
use Rattle.sentences.proofs.OneLaws.{holds}
use Rattle.sentences.proofs.Theorems.{acts}

pub counted_afresh : F.CountedAfresh
counted_afresh g p m l ty z = ap (λ (x : Memory). x.firsts) (p.does m (receives l) ty z).rest

-- cache and counts as they were
record Same (m left : Memory) : Type 0 where
  pub cache : left.cache ≡ m.cache
  pub firsts : left.firsts ≡ m.firsts

same_by : (m left : Memory) (waiting : List ℕ) → left ≡ record { cache = m.cache; firsts = m.firsts; waiting = waiting } → Same m left
same_by m left waiting e = record { cache = ap (λ (x : Memory). x.cache) e; firsts = ap (λ (x : Memory). x.firsts) e }

same_counted : (own : Own) (m left : Memory) → Same m left → Counted own m → Counted own left
same_counted own m left s w = s.firsts ∙ w ∙ ap (λ (cache : List ℕ). firsts_of (keys_of (held_of own cache))) (sym s.cache)

module _ (g : Gauge) (p : MeetsSentences g) (m : Memory) where
  -- a refused call, a FLOOD sent, a tick, a list
  refused-same : (c : Call) (n : ℕ) → (g m c).answer.number ≡ suc n → Same m (g m c).memory
  refused-same c n e = same_by m (g m c).memory m.waiting (ap (λ (h : Handed). h.memory) (p.table.keeps m c (omega arith)))

  counted-now : (c : Call) → Typed c → Counted (own_keys (own_of c)) m → (g m c).answer.number ≡ 0 → Counted (own_keys (own_of c)) (g m c).memory
  counted-now (receives l) ty w z = counted_afresh g p m l ty z
  counted-now (sends l) ty w z = same_counted _ m _ (same_by m _ _ (p.does m (sends l) ty z).rest) w
  counted-now (ticks l) ty w z = same_counted _ m _ (same_by m _ _ (p.does m (ticks l) ty z).rest) w
  counted-now (lists l) ty w z = same_counted _ m _ (same_by m _ _ (p.does m (lists l) ty z).same) w

  touched-same : (own : Own) (left : Memory) → Same m left → Touched own m left
  touched-same own left s = same_touched own m left s.cache s.firsts

  touched-now : (c : Call) → Typed c → Counted (own_keys (own_of c)) m → (g m c).answer.number ≡ 0 → Touched (own_keys (own_of c)) m (g m c).memory
  touched-now (receives l) ty w z =
      let is = acts g p m (receives l) ty in
      subst (λ (h : Handed). Touched (own_keys l.own) m h.memory) (sym is)
      (receive_touched m l w (sym (ap (λ (h : Handed). h.answer.number) is) ∙ z))
  touched-now (sends l) ty w z = touched-same _ _ (same_by m _ _ (p.does m (sends l) ty z).rest)
  touched-now (ticks l) ty w z = touched-same _ _ (same_by m _ _ (p.does m (ticks l) ty z).rest)
  touched-now (lists l) ty w z = touched-same _ _ (same_by m _ _ (p.does m (lists l) ty z).same)

pub stays_counted : F.StaysCounted
stays_counted g p m c ty w = go (g m c).answer.number refl
  where
    go : (n : ℕ) → (g m c).answer.number ≡ n → Counted (own_keys (own_of c)) (g m c).memory
    go zero e = counted-now g p m c ty w e
    go (suc n) e = same_counted (own_keys (own_of c)) m (g m c).memory (refused-same g p m c n e) w

-- an accepted call was lent own records in form
accepted_own : (m : Memory) (c : Call) → ((i : ℕ) → ¬ Num.Applies m c i) → own_form (own_of c) ≡ true
accepted_own m (receives l) none = holds _ (λ e. none 1 (Num.out-of-form refl (λ w. both w.own e)))
accepted_own m (sends l) none = holds _ (λ e. none 1 (Num.send-out-of-form refl (λ w. both w.own e)))
accepted_own m (ticks l) none = holds _ (λ e. none 1 (inl (refl, λ w. both w.own e)))
accepted_own m (lists l) none = holds _ (λ e. none 1 (inl (refl, λ w. both w.own e)))

module _ (g : Gauge) (p : MeetsSentences g) (own : Own) where
  next-counted : (m : Memory) (c : Call) → OneKey own c × Typed c → Counted own m → Counted own (g m c).memory
  next-counted m c fit w = go (g m c).answer.number refl
    where
      go : (n : ℕ) → (g m c).answer.number ≡ n → Counted own (g m c).memory
      go zero e =
          let is = fit.0 (accepted_own m c ((p.table.accepted m c fit.1).0 e)) in
          subst (λ (o : Own). Counted o (g m c).memory) is (stays_counted g p m c fit.1 (subst (λ (o : Own). Counted o m) (sym is) w))
      go (suc n) e = same_counted own m (g m c).memory (refused-same g p m c n e) w

  always : (m : Memory) → Counted own m → (calls : List Call) → Proper own calls → Counted own (left g m calls)
  unfolding left
  always m w [] proper = w
  always m w (c ∷ cs) proper = always (g m c).memory (next-counted m c proper.0 w) cs proper.1

pub always_counted : F.AlwaysCounted
always_counted = always

pub touches_its_own : F.TouchesItsOwn
touches_its_own g p m c ty w = go (g m c).answer.number refl
  where
    go : (n : ℕ) → (g m c).answer.number ≡ n → Touched (own_keys (own_of c)) m (g m c).memory
    go zero e = touched-now g p m c ty w e
    go (suc n) e = touched-same g p m (own_keys (own_of c)) (g m c).memory (refused-same g p m c n e)

-- 1 is the first of all numbers
pub disagree_refused : F.DisagreeRefused
unfolding place_in
disagree_refused g p m l ty other =
    (p.table.number m (receives l) ty 1 (omega arith)).1 (Num.out-of-form refl (λ w. other w.firsts), λ i before-it. absurd (omega arith))
