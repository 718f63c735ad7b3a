-- Two keys equally far from a target: the one reached by going down is that from which the steps up to the target are less than half the ring.
-- Assumes nothing.
use mathlib.Core.Path.{◌≡◌, refl, sym, ap, ◌∙◌}
use mathlib.Core.Bool.{Bool, true, false, not, ◌&&◌}
use Prim.Native.Nat.{ℕ, ◌^◌, ◌≤◌, ◌<◌}
use native.Mathlib.Omega.{arith}
use lib.Dec.{ltb}
use borrow.Author.Tests.{lt-ltb, le-ltb, le-leb, lt-leb}
use Rattle.key.specs.declared.Key.{Key}
use Rattle.key.specs.Number.{number}
use Rattle.key.specs.Around.{ring, half, up, apart, is_down, tie}
use Rattle.key.proofs.KeyLaws.{Fit}
use Rattle.key.proofs.OrderLaws.{Stand, stand}
use Rattle.key.proofs.OrderLaws.Stand.{below, equal, above}
use Rattle.key.proofs.RingLaws.{half_twice, half-some, up_back, up_self, up_to}
use Rattle.key.proofs.AroundLaws.{apart_round, down_steps, down_far}
use Rattle.ring.proofs.HalfLaws.{word_low, word_high}

module _ (t k j : ℕ) (o : t < ring) (h : k < ring) (g : j < ring) (e : apart t k ≡ apart t j) (d : ¬ (k ≡ j)) where
  tie_down : tie t k j ≡ is_down t k
  unfolding tie
  tie_down = go (is_down t k) (is_down t j) refl refl
    where
      go : (a b : Bool) → is_down t k ≡ a → is_down t j ≡ b → a && not b ≡ a
      go true true p q = absurd (d (down_far t k j (p ∙ sym q) e))
      go true false p q = refl
      go false b p q = refl

  tie-low : up k t < half → tie t k j ≡ true
  tie-low l = tie_down ∙ down_steps t k o h ∙ le-leb (up k t) (up t k) (go (stand k t))
    where
      apart-they : ¬ (k ≡ t) → up k t ≤ up t k
      apart-they n = omega (arith, (up_back k t h o n).0, half_twice, l)

      go : Stand k t → up k t ≤ up t k
      go (below m) = apart-they (omega arith)
      go (equal m) = omega (arith, ap (λ (n : ℕ). up n t) m, up_self t o)
      go (above m) = apart-they (omega arith)

  tie-high : half ≤ up k t → tie t k j ≡ false
  tie-high l = tie_down ∙ down_steps t k o h ∙ lt-leb (up k t) (up t k) (go (stand (up t k) (up k t)))
    where
      other : ¬ (k ≡ t)
      other m = omega (arith, ap (λ (n : ℕ). up n t) m, up_self t o, half-some, l)

      -- both exactly opposite would be one key
      opposite : up k t ≤ up t k → k ≡ j
      opposite m =
          let a = apart_round t k o h in
          let b = apart_round t j o g in
          let c = (up_back k t h o other).0 in
          let n : ¬ (j ≡ t) = λ q. omega (arith, a, b, c, e, m, l, half_twice, half-some, ap (λ (n : ℕ). up n t) q, up_self t o) in
          up_to t k j o h g (omega (arith, a, b, c, e, m, l, half_twice, (up_back j t g o n).0))

      go : Stand (up t k) (up k t) → up t k < up k t
      go (below m) = m
      go (equal m) = absurd (d (opposite (omega arith)))
      go (above m) = absurd (d (opposite (omega arith)))

  -- as the first word of the steps says it
  pub tie-word : (x : Key) → Fit x → number x ≡ up k t → ltb x.a (2 ^ 63) ≡ tie t k j
  tie-word x f n = go (stand x.a (2 ^ 63))
    where
      high : 2 ^ 63 ≤ x.a → ltb x.a (2 ^ 63) ≡ tie t k j
      high l = le-ltb x.a (2 ^ 63) l ∙ sym (tie-high (omega (arith, word_high x l, n)))

      go : Stand x.a (2 ^ 63) → ltb x.a (2 ^ 63) ≡ tie t k j
      go (below l) = lt-ltb x.a (2 ^ 63) l ∙ sym (tie-low (omega (arith, word_low x f l, n)))
      go (equal l) = high (omega arith)
      go (above l) = high (omega arith)
