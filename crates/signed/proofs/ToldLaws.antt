-- The events of a log, computed by what the code's reading shows; they are those that the log tells, and no others are. Assumes nothing.
use Prim.Native.Nat.{ℕ, zero, suc}
use mathlib.Core.Bool.{Bool, true, false, cond}
use mathlib.Core.List.{List, [], ◌∷◌, ◌++◌}
use mathlib.Core.Logic.{◌⊎◌, inl, inr}
use mathlib.Core.Path.{◌≡◌, refl, sym, ap, ap₂, subst, ◌∙◌}
use native.Mathlib.Omega.{arith}
use lib.Dec.{eqb}
use borrow.Author.Tests.{eq-eqb, ne_eqb}
use Rattle.octet.specs.Number.{Bytes}
use Rattle.key.specs.Number.{key_at}
use Rattle.kept.specs.History.{Event}
use Rattle.kept.specs.Keys.{Every}
use Rattle.wire_read.specs.Answers as R
use Rattle.gauge_plan.specs.Lent.{Memory, empty, Call, receives, sends, ticks, lists}
use Rattle.gauge.specs.Words.{Gauge, Entry, entry, log, Typed}
use Rattle.gauge.specs.Ours.{ours}
use Rattle.sentences.specs.Heard.{Heard}
use Rattle.sentences.proofs.HeardLaws.{heard_by, hears-answer}
use Rattle.sentences.proofs.Theorems.{ours_meets}
use Rattle.signed.specs.Events.{told_by, Tells, Happened}

-- what a call does when it is accepted
abbrev pub does : List Entry → Call → List Event
does earlier (receives l) = told_by earlier (key_at 0 l.key) (heard_by l.datagram (R.read_in l.datagram l.major))
does earlier (sends l) = []
does earlier (ticks l) = []
does earlier (lists l) = []

unfoldable pub events_from : List Entry → List Entry → List Event
events_from earlier [] = []
events_from earlier (e ∷ es) = cond (eqb e.number 0) (does earlier e.call) [] ++ events_from (e ∷ earlier) es

abbrev pub events : List Entry → List Event
events es = events_from [] es

-- what happened to the keys in calls on an empty cache of C records and an empty waiting table
abbrev pub happened : Gauge → ℕ → List Call → List Event
happened g C calls = events (log g (empty C) calls)

-- ---- what a call tells is what is computed

tells_does : (earlier : List Entry) (c : Call) → Typed c → (now : List Event) → Tells earlier c now → now ≡ does earlier c
tells_does earlier (receives l) ty now t =
    t.2 ∙ ap (told_by earlier (key_at 0 l.key)) (hears-answer l.datagram ty.0 l.major t.0 t.1).1
tells_does earlier (sends l) ty now t = t
tells_does earlier (ticks l) ty now t = t
tells_does earlier (lists l) ty now t = t

pub happened_events : (earlier es : List Entry) → Every (λ (e : Entry). Typed e.call) es → (history : List Event) → Happened earlier es history
    → history ≡ events_from earlier es
unfolding events_from
happened_events earlier [] ty history h = h
happened_events earlier (e ∷ es) ty history h =
    h.4 ∙ ap₂ ◌++◌ (now-is h.0 h.2) (happened_events (e ∷ earlier) es ty.1 h.1 h.3)
  where
    now-is : (now : List Event) → ((e.number ≡ 0) × Tells earlier e.call now) ⊎ ((¬ (e.number ≡ 0)) × (now ≡ []))
        → now ≡ cond (eqb e.number 0) (does earlier e.call) []
    now-is now (inl t) = rw (eq-eqb e.number 0 t.0) (tells_does earlier e.call ty.0 now t.1)
    now-is now (inr t) = rw (ne_eqb e.number 0 t.0) t.1

-- ---- an accepted call of ours tells it

accepted_tells : (earlier : List Entry) (m : Memory) (c : Call) → Typed c → (ours m c).answer.number ≡ 0 → Tells earlier c (does earlier c)
accepted_tells earlier m (receives l) ty z =
    let s = ours_meets.does m (receives l) ty z in
    (s.x, s.hears, ap (told_by earlier (key_at 0 l.key)) (sym (hears-answer l.datagram ty.0 l.major s.x s.hears).1))
accepted_tells earlier m (sends l) ty z = refl
accepted_tells earlier m (ticks l) ty z = refl
accepted_tells earlier m (lists l) ty z = refl

pub log_happened : (earlier : List Entry) (m : Memory) (cs : List Call) → Every Typed cs
    → Happened earlier (log ours m cs) (events_from earlier (log ours m cs))
unfolding log events_from
log_happened earlier m [] ty = refl
log_happened earlier m (c ∷ cs) ty =
    let n = (ours m c).answer.number in (
      cond (eqb n 0) (does earlier c) [],
      events_from (entry c n ∷ earlier) (log ours (ours m c).memory cs),
      told n refl,
      log_happened (entry c n ∷ earlier) (ours m c).memory cs ty.1,
      refl,
    )
  where
    told : (n : ℕ) → (ours m c).answer.number ≡ n
        → (((ours m c).answer.number ≡ 0) × Tells earlier c (cond (eqb (ours m c).answer.number 0) (does earlier c) []))
        ⊎ ((¬ ((ours m c).answer.number ≡ 0)) × (cond (eqb (ours m c).answer.number 0) (does earlier c) [] ≡ []))
    told zero z = inl (z, rw z (accepted_tells earlier m c ty.0 z))
    told (suc n) z = inr (λ y. omega (arith, y, z), rw (ne_eqb (ours m c).answer.number 0 (λ y. omega (arith, y, z))) refl)

-- the entries of a log are the calls
pub log_typed : (g : Gauge) (m : Memory) (cs : List Call) → Every Typed cs → Every (λ (e : Entry). Typed e.call) (log g m cs)
unfolding log
log_typed g m [] ty = tt
log_typed g m (c ∷ cs) ty = (ty.0, log_typed g (g m c).memory cs ty.1)
