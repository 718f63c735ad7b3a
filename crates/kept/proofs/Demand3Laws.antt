-- Demand 3, proved in general, and that the order around a key is one. Elsewhere: for our own keys and the rule by which we drop, in PondRuleLaws.
-- Assumes nothing.
use mathlib.Core.Path.{◌≡◌, refl, sym, ◌∙◌, ap}
use mathlib.Core.List.{List, []}
use Prim.Native.Nat.{ℕ, zero-le}
use Rattle.key.specs.Around.{Side, below, above, is_above, side_of, nearness}
use Rattle.key.proofs.AroundLaws.{side_near}
use Rattle.kept.specs.Neighbours.{neighbours_by}
use Rattle.kept.specs.History.{Event, kept_by, learned_all, Learns, NoRemoval}
use Rattle.kept.specs.Rules.{Order, DropRule}
use Rattle.kept.specs.Demand3.{Demand3Holds, SameKeysSameNeighbours}
use Rattle.kept.proofs.ListLaws.{Test, pass, fail, test}
use Rattle.kept.proofs.HistoryLaws.{Fine, nothing-fine, neighbours-right, neighbours-only, after-fine, after-length, after_same, learned-has, learned_from, learned-fine, learned-same}

-- the neighbours among the kept keys are those among all the keys learned
kept_same : (ok : ℕ → Type 0) (side : ℕ → Side) (near : ℕ → ℕ) → Order ok side near → (drops : List ℕ → ℕ) (C : ℕ) → DropRule ok side near drops C
    → (events : List Event) → ((k : ℕ) → Learns k events → ok k) → NoRemoval drops C [] events
    → (s : Side) → neighbours_by side near s (kept_by drops C events) ≡ neighbours_by side near s (learned_all events)
kept_same ok side near order drops C rule events o calm s =
    after_same ok side near order drops C rule events [] [] (nothing-fine ok) tt (λ t. refl) o calm s

pub demand3 : Demand3Holds
demand3 ok side near drops C order rule events o =
    let fine : Fine ok (kept_by drops C events) = after-fine ok side near order drops C rule events [] (nothing-fine ok) o in
    record {
      increasing = fine.rises;
      allowed = fine.oks;
      fit = after-length ok side near order drops C rule events [] (nothing-fine ok) zero-le o;
      right = neighbours-right ok side near order (kept_by drops C events) fine;
      only = λ s l h. neighbours-only ok side near order (kept_by drops C events) fine.oks s l (neighbours_by side near s (kept_by drops C events)) h
          (neighbours-right ok side near order (kept_by drops C events) fine s);
      all-of-them = λ k m. learned-has k events m;
      no-others = λ k m. learned_from k events m;
      among-all = λ calm s. rw (kept_same ok side near order drops C rule events o calm s)
          (neighbours-right ok side near order (learned_all events) (learned-fine ok events o) s);
    }

pub same_keys_same-neighbours : SameKeysSameNeighbours
same_keys_same-neighbours ok side near order drops drops' C C' rule rule' es ds o same calm calm' s =
    kept_same ok side near order drops C rule es o calm s
    ∙ (ap (λ (l : List ℕ). neighbours_by side near s l) (learned-same es ds same.to same.from)
    ∙ sym (kept_same ok side near order drops' C' rule' ds (λ k m. o k (same.from k m)) calm' s))

-- the order around our own key ----------------------------------------------------------------------------------------------------

pub plain-order : (ok : ℕ → Type 0) (own : ℕ) → Order ok (side_of own) (nearness own)
plain-order ok own = record { apart = λ a b u v e d. side_near own a b (go a b (test (is_above own a)) (test (is_above own b)) e) d }
  where
    go : (a b : ℕ) → Test (is_above own a) → Test (is_above own b) → side_of own a ≡ side_of own b → is_above own a ≡ is_above own b
    go a b (pass x) (pass y) e = x ∙ sym y
    go a b (fail x) (fail y) e = x ∙ sym y
    go a b (pass x) (fail y) e = let z : ◌≡◌ {A = Side} above below = rw (x, y) at e in cc
    go a b (fail x) (pass y) e = let z : ◌≡◌ {A = Side} below above = rw (x, y) at e in cc
