-- "A removal is a held key taken out": where there was none, an event that takes out a key is one exactly where the key is kept. Assumes nothing.
use mathlib.Core.Path.{◌≡◌, sym, subst}
use mathlib.Core.Logic.{◌↔◌}
use mathlib.Core.List.{List, [], ◌∷◌, ◌++◌}
use Prim.Native.Nat.{ℕ}
use Rattle.kept.specs.Keys.{◌∈◌, without}
use Rattle.kept.specs.History.{Event, learned, removed, learn_with, happen, after, NoRemoval}
use Rattle.kept.proofs.WithoutLaws.{without_absent}

module _ (drops : List ℕ → ℕ) (C k : ℕ) where
  absent_none : (keys : List ℕ) (es : List Event) → NoRemoval drops C keys es → ¬ (k ∈ after drops C keys es) → NoRemoval drops C keys (es ++ removed k ∷ [])
  unfolding after happen
  absent_none keys [] calm out = (out, tt)
  absent_none keys (learned j ∷ es) calm out = absent_none (learn_with drops C keys j) es calm out
  absent_none keys (removed j ∷ es) calm out =
      (calm.0, absent_none keys es calm.1 (subst (λ (ks : List ℕ). ¬ (k ∈ after drops C ks es)) (without_absent j keys calm.0) out))

  none-absent : (keys : List ℕ) (es : List Event) → NoRemoval drops C keys (es ++ removed k ∷ []) → NoRemoval drops C keys es × (¬ (k ∈ after drops C keys es))
  unfolding after happen
  none-absent keys [] calm = (tt, calm.0)
  none-absent keys (learned j ∷ es) calm = none-absent (learn_with drops C keys j) es calm
  none-absent keys (removed j ∷ es) calm =
      let w = none-absent keys es calm.1 in
      ((calm.0, w.0), subst (λ (ks : List ℕ). ¬ (k ∈ after drops C ks es)) (sym (without_absent j keys calm.0)) w.1)

  -- one that is none leaves the keys
  pub none-keeps : (keys : List ℕ) (es : List Event) → NoRemoval drops C keys (removed k ∷ es) → without k keys ≡ keys
  none-keeps keys es calm = without_absent k keys calm.0

  pub no-removal : (keys : List ℕ) (es : List Event)
      → NoRemoval drops C keys (es ++ removed k ∷ []) ↔ (NoRemoval drops C keys es × (¬ (k ∈ after drops C keys es)))
  no-removal keys es = (none-absent keys es, λ w. absent_none keys es w.0 w.1)
