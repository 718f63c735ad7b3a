-- From one call to any sequence of them: where each call does to the keys in memory what its events say, memory holds after any calls the
-- keys that the theorems speak of.
-- Assumes nothing.
use mathlib.Core.Path.{◌≡◌, refl, sym, ◌∙◌, ap}
use mathlib.Core.List.{List, [], ◌∷◌, ◌++◌}
use Prim.Native.Nat.{ℕ}
use mathlib.Core.Logic.{◌⊎◌, inl, inr, ⊎_elim}
use Rattle.key.specs.Around.{Side}
use Rattle.kept.specs.History.{Event, learned, removed, happen, after, kept_by, Learns}
use Rattle.kept.specs.Rules.{Order, DropRule}
use Rattle.kept.specs.Calls.{run, events_of}
use Rattle.kept.specs.Demand3.{KeysDemand3}
use Rattle.kept.proofs.Demand3Laws.{demand3}

pub after_append : (drops : List ℕ → ℕ) (C : ℕ) (keys : List ℕ) (es ds : List Event) → after drops C keys (es ++ ds) ≡ after drops C (after drops C keys es) ds
unfolding after
after_append drops C keys [] ds = refl
after_append drops C keys (e ∷ es) ds = after_append drops C (happen drops C keys e) es ds

module _ {State Call : Type 0} (step : State → Call → State) (events : State → Call → List Event) (keys_of : State → List ℕ) (drops : List ℕ → ℕ) (C : ℕ)
    (InForm : State → Type 0) (stays : (state : State) (call : Call) → InForm state → InForm (step state call))
    (does : (state : State) (call : Call) → InForm state → keys_of (step state call) ≡ after drops C (keys_of state) (events state call)) where
  pub in_form : (state : State) (calls : List Call) → InForm state → InForm (run step state calls)
  unfolding run
  in_form state [] h = h
  in_form state (call ∷ calls) h = in_form (step state call) calls (stays state call h)

  pub keys-after : (state : State) (calls : List Call) → InForm state
      → keys_of (run step state calls) ≡ after drops C (keys_of state) (events_of step events state calls)
  unfolding run events_of
  keys-after state [] h = unfold after in refl
  keys-after state (call ∷ calls) h =
      keys-after (step state call) calls (stays state call h)
      ∙ (ap (λ (keys : List ℕ). after drops C keys (events_of step events (step state call) calls)) (does state call h)
      ∙ sym (after_append drops C (keys_of state) (events state call) (events_of step events (step state call) calls)))

  -- from an empty cache
  pub keys_kept : (state : State) (calls : List Call) → InForm state → keys_of state ≡ []
      → keys_of (run step state calls) ≡ kept_by drops C (events_of step events state calls)
  keys_kept state calls h e = keys-after state calls h ∙ ap (λ (keys : List ℕ). after drops C keys (events_of step events state calls)) e

pub learns_or : (k : ℕ) (es ds : List Event) → Learns k (es ++ ds) → Learns k es ⊎ Learns k ds
learns_or k [] ds m = inr m
learns_or k (learned j ∷ es) ds (inl e) = inl (inl e)
learns_or k (learned j ∷ es) ds (inr m) = ⊎_elim (λ n. inl (inr n)) (λ n. inr n) (learns_or k es ds m)
learns_or k (removed j ∷ es) ds m = learns_or k es ds m

-- demand 3 of any sequence of calls, from what holds of one call
module _ {State Call : Type 0} (step : State → Call → State) (events : State → Call → List Event) (keys_of : State → List ℕ)
    (ok : ℕ → Type 0) (side : ℕ → Side) (near : ℕ → ℕ) (drops : List ℕ → ℕ) (C : ℕ) (order : Order ok side near) (rule : DropRule ok side near drops C)
    (InForm : State → Type 0) (stays : (state : State) (call : Call) → InForm state → InForm (step state call))
    (does : (state : State) (call : Call) → InForm state → keys_of (step state call) ≡ after drops C (keys_of state) (events state call))
    (sound : (state : State) (call : Call) → InForm state → (k : ℕ) → Learns k (events state call) → ok k) where
  all_sound : (state : State) (calls : List Call) → InForm state → (k : ℕ) → Learns k (events_of step events state calls) → ok k
  unfolding events_of
  all_sound state [] h k m = absurd m
  all_sound state (call ∷ calls) h k m =
      ⊎_elim (λ n. sound state call h k n) (λ n. all_sound (step state call) calls (stays state call h) k n)
      (learns_or k (events state call) (events_of step events (step state call) calls) m)

  pub calls-demand3 : (state : State) (calls : List Call) → InForm state → keys_of state ≡ []
      → (keys_of (run step state calls) ≡ kept_by drops C (events_of step events state calls)) × KeysDemand3 ok side near drops C (events_of step events state calls)
  calls-demand3 state calls h e = (
    keys_kept step events keys_of drops C InForm stays does state calls h e,
    demand3 ok side near drops C order rule (events_of step events state calls) (all_sound state calls h),
  )
