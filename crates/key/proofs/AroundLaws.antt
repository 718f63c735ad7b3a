-- Laws of `specs/Around.antt`: all that those who go by sides, nearness or closeness ask of it.
-- In this order: sides and nearness, for the neighbour list; how far apart; ties; the closest to a target, for any `apart` and `tie` with these laws.
-- Elsewhere: the ring itself, in RingLaws. Assumes nothing.
use Rattle.std.proofs.Common.{◌≡◌, ℕ, ◌+◌, ◌-◌, ◌<◌, ◌≤◌, min, Bool, true, false, not, ◌&&◌, eqb, ltb, leb, ◌⊎◌, ◌↔◌, sym, refl, ap, ◌∙◌, inl, inr, arith, ltb-false, ltb-true, le-ltb, lt-ltb, eq-eqb, ne_eqb, le-leb, leb-false, leb-true}
use native.Mathlib.Decide.{dec_le}
use borrow.Author.Tests.{lt-leb}
use Rattle.key.specs.Number.{distance}
use Rattle.key.specs.Across.{across}
use Rattle.key.specs.Around.{ring, half, up, is_above, nearness, apart, is_down, tie, closer}
use Rattle.key.proofs.DifferenceLaws.{distance-sym}
use Rattle.key.proofs.OrderLaws.{Stand, stand}
use Rattle.key.proofs.OrderLaws.Stand.{below, equal, above}
use Rattle.key.proofs.RingLaws.{half_twice, half-some, keys_are, keys_not, Stands, stands, up_lt, up_straight, up_over, up_back, up-zero, up_self, up_from, up_to}
use Rattle.key.proofs.RingLaws.Stands.{round, line}

-- ---- sides and nearness

-- round the ring, by the steps up from our own key
pub above_steps : (own k : ℕ) → own < ring → k < ring → is_above own k ≡ (leb 1 (up own k) && leb (up own k) half)
unfolding is_above
above_steps own k o h = rw (keys_are o h)

-- a key that is not our own
pub above_half : (own k : ℕ) → own < ring → k < ring → ¬ (k ≡ own) → is_above own k ≡ leb (up own k) half
above_half own k o h d =
    let p = up_back own k o h (λ e. d (sym e)) in
    above_steps own k o h ∙ rw (le-leb 1 (up own k) (omega arith)) refl

-- the two tests of code
pub steps_many : (n : ℕ) → half < n → (leb 1 n && leb n half) ≡ false
steps_many n h = rw (lt-leb n half h) (go (leb 1 n))
  where
    go : (b : Bool) → (b && false) ≡ false
    go true = refl
    go false = refl

pub steps_few : (n : ℕ) → n ≤ half → (leb 1 n && leb n half) ≡ ltb 0 n
steps_few n h = rw (le-leb n half h) (go (ltb 0 n))
  where
    go : (b : Bool) → (b && true) ≡ b
    go true = refl
    go false = refl

-- by plain order: from a key of the lower half of the ring those above it run up to the point opposite; from one of the upper half they are those over it, and
-- those from the first key up to the point opposite
same-leb : (m n i j : ℕ) → (m ≤ n → i ≤ j) → (i ≤ j → m ≤ n) → leb m n ≡ leb i j
same-leb m n i j to from = go (dec_le m n)
  where
    go : Dec (m ≤ n) → leb m n ≡ leb i j
    go (yes h) = le-leb m n h ∙ sym (le-leb i j (to h))
    go (no h) = lt-leb m n (omega arith) ∙ sym (lt-leb i j (more (dec_le i j)))
      where
        more : Dec (i ≤ j) → j < i
        more (yes g) = absurd (h (from g))
        more (no g) = omega arith

pub low_over : (own k : ℕ) → own < half → own < k → k < ring → is_above own k ≡ leb k (across own)
unfolding across
low_over own k l h g =
    let u = up_straight own k (omega arith) g in
    above_half own k (omega arith) g (omega arith)
    ∙ rw (lt-ltb own half l) (same-leb (up own k) half k (own + half) (λ q. omega arith) (λ q. omega arith))

pub low_under : (own k : ℕ) → own < half → k < own → is_above own k ≡ false
low_under own k l h =
    let r = half_twice in
    let u = up_over own k h (omega arith) in
    above_half own k (omega arith) (omega arith) (omega arith) ∙ lt-leb (up own k) half (omega arith)

pub high_over : (own k : ℕ) → half ≤ own → own < k → k < ring → is_above own k ≡ true
high_over own k l h g =
    let r = half_twice in
    let u = up_straight own k (omega arith) g in
    above_half own k (omega arith) g (omega arith) ∙ le-leb (up own k) half (omega arith)

pub high_under : (own k : ℕ) → half ≤ own → own < ring → k < own → is_above own k ≡ leb k (across own)
unfolding across
high_under own k l o h =
    let r = half_twice in
    let u = up_over own k h o in
    above_half own k o (omega arith) (omega arith)
    ∙ rw (le-ltb own half l) (same-leb (up own k) half k (own - half) (λ q. omega arith) (λ q. omega arith))

above_line : (own k : ℕ) → (ring ≤ own) ⊎ (ring ≤ k) → is_above own k ≡ ltb own k
unfolding is_above
above_line own k h = rw (keys_not h)

near_line : (own k : ℕ) → (ring ≤ own) ⊎ (ring ≤ k) → nearness own k ≡ ring + distance own k
unfolding nearness
near_line own k h = rw (keys_not h)

-- nearness counts along the side
pub near_up : (own k : ℕ) → own < ring → k < ring → is_above own k ≡ true → nearness own k ≡ up own k
unfolding nearness
near_up own k o h e = rw (keys_are o h, e) refl

pub near_down : (own k : ℕ) → own < ring → k < ring → is_above own k ≡ false → nearness own k ≡ up k own
unfolding nearness
near_down own k o h e = rw (keys_are o h, e) refl

near_lt : (own k : ℕ) → own < ring → k < ring → nearness own k < ring
near_lt own k o h = go (is_above own k) refl
  where
    go : (b : Bool) → is_above own k ≡ b → nearness own k < ring
    go true e = omega (arith, near_up own k o h e, up_lt own k)
    go false e = omega (arith, near_down own k o h e, up_lt k own)

line_near : (own j k : ℕ) → ltb own j ≡ ltb own k → distance own j ≡ distance own k → j ≡ k
unfolding distance
line_near own j k s e = by-case (stand own j)
  where
    by-case : Stand own j → j ≡ k
    by-case (below h) = omega (arith, ltb-true own k (sym s ∙ lt-ltb own j h))
    by-case (equal h) = omega (arith, ltb-false own k (sym s ∙ le-ltb own j (omega arith)))
    by-case (above h) = omega (arith, ltb-false own k (sym s ∙ le-ltb own j (omega arith)))

-- two keys on one side and equally near are one key
pub side_near : (own j k : ℕ) → is_above own j ≡ is_above own k → nearness own j ≡ nearness own k → j ≡ k
side_near own j k s e = go (stands own j) (stands own k)
  where
    by : (b : Bool) → is_above own j ≡ b → is_above own k ≡ b → own < ring → j < ring → k < ring → j ≡ k
    by true p q o h g = up_from own j k o h g (sym (near_up own j o h p) ∙ e ∙ near_up own k o g q)
    by false p q o h g = up_to own j k o h g (sym (near_down own j o h p) ∙ e ∙ near_down own k o g q)

    go : Stands own j → Stands own k → j ≡ k
    go (round o h) (round m g) = by (is_above own k) s refl o h g
    go (round o h) (line g) = absurd (omega (arith, near_lt own j o h, near_line own k g, e))
    go (line h) (round o g) = absurd (omega (arith, near_lt own k o g, near_line own j h, e))
    go (line h) (line g) =
        line_near own j k (sym (above_line own j h) ∙ s ∙ above_line own k g)
        (let n = sym (near_line own j h) ∙ e ∙ near_line own k g in omega arith)

-- ---- how far apart

pub apart_round : (j k : ℕ) → j < ring → k < ring → apart j k ≡ min (up j k) (up k j)
unfolding apart
apart_round j k h g = rw (keys_are h g)

-- up to half the ring the steps up, from there on the steps down
pub apart-up : (j k : ℕ) → j < ring → k < ring → up j k < half → apart j k ≡ up j k
apart-up j k h g l = go (stand j k)
  where
    other : ¬ (j ≡ k) → apart j k ≡ up j k
    other d = let m = up_back j k h g d in omega (arith, apart_round j k h g, half_twice)

    go : Stand j k → apart j k ≡ up j k
    go (below d) = other (omega arith)
    go (equal e) = omega (arith, apart_round j k h g, up_straight j k (omega arith) g)
    go (above d) = other (omega arith)

pub apart_down : (j k : ℕ) → j < ring → k < ring → half ≤ up j k → apart j k ≡ up k j
apart_down j k h g l =
    let d : ¬ (j ≡ k) = λ e. omega (arith, up_straight j k (omega arith) g, half-some) in
    let m = up_back j k h g d in
    omega (arith, apart_round j k h g, half_twice)

apart-line : (j k : ℕ) → (ring ≤ j) ⊎ (ring ≤ k) → apart j k ≡ ring + distance j k
unfolding apart
apart-line j k h = rw (keys_not h)

apart-lt : (j k : ℕ) → j < ring → k < ring → apart j k < ring
apart-lt j k h g = omega (arith, apart_round j k h g, up_lt j k, up_lt k j)

turned : {j k : ℕ} → (ring ≤ j) ⊎ (ring ≤ k) → (ring ≤ k) ⊎ (ring ≤ j)
turned (inl h) = inr h
turned (inr h) = inl h

pub apart-sym : (j k : ℕ) → apart j k ≡ apart k j
apart-sym j k = go (stands j k)
  where
    go : Stands j k → apart j k ≡ apart k j
    go (round h g) = omega (arith, apart_round j k h g, apart_round k j g h)
    go (line h) = omega (arith, apart-line j k h, apart-line k j (turned h), distance-sym j k)

pub apart-zero : (j k : ℕ) → j < ring → k < ring → (apart j k ≡ 0) ↔ (j ≡ k)
apart-zero j k h g = (to (stand (up j k) 0), λ e. ap (λ (i : ℕ). apart i k) e ∙ from)
  where
    to : Stand (up j k) 0 → apart j k ≡ 0 → j ≡ k
    to (below z) e = absurd (omega arith)
    to (equal z) e = up-zero j k h g z
    to (above z) e = sym (up-zero k j g h (omega (arith, apart_round j k h g, e)))

    from : apart k k ≡ 0
    from = omega (arith, apart_round k k g g, up_self k g)

-- along the side is the shorter way: from our own key, nearness is the distance
pub near_apart : (own k : ℕ) → nearness own k ≡ apart own k
near_apart own k = go (stands own k)
  where
    other : (b : Bool) → leb (up own k) half ≡ b → own < ring → k < ring → ¬ (own ≡ k) → nearness own k ≡ apart own k
    other true q o h d =
        let m = up_back own k o h d in
        omega (arith, near_up own k o h (above_half own k o h (λ e. d (sym e)) ∙ q), apart_round own k o h, leb-true (up own k) half q, half_twice)
    other false q o h d =
        let m = up_back own k o h d in
        omega (arith, near_down own k o h (above_half own k o h (λ e. d (sym e)) ∙ q), apart_round own k o h, leb-false (up own k) half q, half_twice)

    by : own < ring → k < ring → Stand own k → nearness own k ≡ apart own k
    by o h (equal e) =
        let z : up own k ≡ 0 = omega (arith, up_straight own k (omega arith) h) in
        let y : is_above own k ≡ false = above_steps own k o h ∙ rw z refl in
        omega (arith, near_down own k o h y, apart_round own k o h, up_straight k own (omega arith) o)
    by o h (below e) = other (leb (up own k) half) refl o h (omega arith)
    by o h (above e) = other (leb (up own k) half) refl o h (omega arith)

    go : Stands own k → nearness own k ≡ apart own k
    go (round o h) = by o h (stand own k)
    go (line h) = near_line own k h ∙ sym (apart-line own k h)

-- ---- of two equally far

pub tie_self : (t k : ℕ) → tie t k k ≡ false
unfolding tie
tie_self t k = go (is_down t k)
  where
    go : (b : Bool) → (b && not b) ≡ false
    go true = refl
    go false = refl

pub tie_anti : (t j k : ℕ) → tie t j k ≡ true → tie t k j ≡ false
unfolding tie
tie_anti t j k e = go (is_down t j) (is_down t k) e
  where
    go : (a b : Bool) → (a && not b) ≡ true → (b && not a) ≡ false
    go true true e = refl
    go true false e = refl
    go false true e = sym e
    go false false e = refl

pub tie_trans : (t i j k : ℕ) → apart t i ≡ apart t j → apart t j ≡ apart t k → tie t i j ≡ false → tie t j k ≡ false → tie t i k ≡ false
unfolding tie
tie_trans t i j k p q e f = go (is_down t i) (is_down t j) (is_down t k) e f
  where
    go : (a b c : Bool) → (a && not b) ≡ false → (b && not c) ≡ false → (a && not c) ≡ false
    go true true c e f = f
    go true false true e f = refl
    go true false false e f = e
    go false b c e f = refl

pub down_steps : (t k : ℕ) → t < ring → k < ring → is_down t k ≡ leb (up k t) (up t k)
unfolding is_down
down_steps t k h g = rw (keys_are h g)

-- it is reached by going down where the steps down are the distance
pub down_apart : (t k : ℕ) → t < ring → k < ring → eqb (up k t) (apart t k) ≡ is_down t k
down_apart t k h g = go (stand (up t k) (up k t))
  where
    go : Stand (up t k) (up k t) → eqb (up k t) (apart t k) ≡ is_down t k
    go (below l) =
        ne_eqb (up k t) (apart t k) (λ e. omega (arith, apart_round t k h g)) ∙ sym (down_steps t k h g ∙ lt-leb (up k t) (up t k) l)
    go (equal e) =
        eq-eqb (up k t) (apart t k) (omega (arith, apart_round t k h g)) ∙ sym (down_steps t k h g ∙ le-leb (up k t) (up t k) (omega arith))
    go (above l) =
        eq-eqb (up k t) (apart t k) (omega (arith, apart_round t k h g)) ∙ sym (down_steps t k h g ∙ le-leb (up k t) (up t k) (omega arith))

down_line : (t k : ℕ) → (ring ≤ t) ⊎ (ring ≤ k) → is_down t k ≡ ltb k t
unfolding is_down
down_line t k h = rw (keys_not h)

line_far : (t j k : ℕ) → ltb j t ≡ ltb k t → distance t j ≡ distance t k → j ≡ k
unfolding distance
line_far t j k s e = by-case (stand j t)
  where
    by-case : Stand j t → j ≡ k
    by-case (below h) = omega (arith, ltb-true k t (sym s ∙ lt-ltb j t h))
    by-case (equal h) = omega (arith, ltb-false k t (sym s ∙ le-ltb j t (omega arith)))
    by-case (above h) = omega (arith, ltb-false k t (sym s ∙ le-ltb j t (omega arith)))

-- two keys equally far, both reached by going down or both by going up, are one key
pub down_far : (t j k : ℕ) → is_down t j ≡ is_down t k → apart t j ≡ apart t k → j ≡ k
down_far t j k s e = go (stands t j) (stands t k)
  where
    by : (b : Bool) → is_down t j ≡ b → is_down t k ≡ b → t < ring → j < ring → k < ring → j ≡ k
    by true p q o h g =
        let u = leb-true (up j t) (up t j) (sym (down_steps t j o h) ∙ p) in
        let v = leb-true (up k t) (up t k) (sym (down_steps t k o g) ∙ q) in
        up_to t j k o h g (omega (arith, apart_round t j o h, apart_round t k o g, e, u, v))
    by false p q o h g =
        let u = leb-false (up j t) (up t j) (sym (down_steps t j o h) ∙ p) in
        let v = leb-false (up k t) (up t k) (sym (down_steps t k o g) ∙ q) in
        up_from t j k o h g (omega (arith, apart_round t j o h, apart_round t k o g, e, u, v))

    go : Stands t j → Stands t k → j ≡ k
    go (round o h) (round m g) = by (is_down t k) s refl o h g
    go (round o h) (line g) = absurd (omega (arith, apart-lt t j o h, apart-line t k g, e))
    go (line h) (round o g) = absurd (omega (arith, apart-lt t k o g, apart-line t j h, e))
    go (line h) (line g) =
        line_far t j k (sym (down_line t j h) ∙ s ∙ down_line t k g)
        (let n = sym (apart-line t j h) ∙ e ∙ apart-line t k g in omega arith)

pub tie_both : (t j k : ℕ) → apart t j ≡ apart t k → tie t j k ≡ false → tie t k j ≡ false → j ≡ k
unfolding tie
tie_both t j k p e f = down_far t j k (go (is_down t j) (is_down t k) e f) p
  where
    go : (a b : Bool) → (a && not b) ≡ false → (b && not a) ≡ false → a ≡ b
    go true true e f = refl
    go true false e f = e
    go false true e f = sym f
    go false false e f = refl

-- ---- the closest to a target

pub closer_less : (t k j : ℕ) → apart t k < apart t j → closer t k j ≡ true
unfolding closer
closer_less t k j h = rw (lt-ltb (apart t k) (apart t j) h)

pub closer-same : (t k j : ℕ) → apart t k ≡ apart t j → closer t k j ≡ tie t k j
unfolding closer
closer-same t k j h = rw (le-ltb (apart t k) (apart t j) (omega arith), eq-eqb (apart t k) (apart t j) h)

pub closer_more : (t k j : ℕ) → apart t j < apart t k → closer t k j ≡ false
unfolding closer
closer_more t k j h = rw (le-ltb (apart t k) (apart t j) (omega arith), ne_eqb (apart t k) (apart t j) (λ q. omega arith))

-- a test that holds and does not
both : {A : Type 0} {b : Bool} → b ≡ true → b ≡ false → A
both p q = let z : ◌≡◌ {A = ℕ} 0 1 = cc in absurd (omega arith)

-- what a failed test tells: k is farther, or as far and not the one that is taken
data NotCloser (t k j : ℕ) : Type 0 where
  farther : apart t j < apart t k → NotCloser t k j
  tied : apart t k ≡ apart t j → tie t k j ≡ false → NotCloser t k j

not-closer : (t k j : ℕ) → closer t k j ≡ false → NotCloser t k j
not-closer t k j e = by-case (stand (apart t k) (apart t j))
  where
    by-case : Stand (apart t k) (apart t j) → NotCloser t k j
    by-case (below h) = both (closer_less t k j h) e
    by-case (equal h) = tied h (sym (closer-same t k j h) ∙ e)
    by-case (above h) = farther h

is-not-closer : {t k j : ℕ} → NotCloser t k j → closer t k j ≡ false
is-not-closer {t} {k} {j} (farther h) = closer_more t k j h
is-not-closer {t} {k} {j} (tied h e) = closer-same t k j h ∙ e

-- no key is closer than itself, and of two one at most is closer
pub closer_self : (t k : ℕ) → closer t k k ≡ false
closer_self t k = is-not-closer (tied refl (tie_self t k))

pub closer_anti : (t j k : ℕ) → closer t j k ≡ true → closer t k j ≡ false
closer_anti t j k e = by-case (stand (apart t j) (apart t k))
  where
    by-case : Stand (apart t j) (apart t k) → closer t k j ≡ false
    by-case (below h) = closer_more t k j h
    by-case (equal h) = closer-same t k j (sym h) ∙ tie_anti t j k (sym (closer-same t j k h) ∙ e)
    by-case (above h) = both e (closer_more t j k h)

-- not closer, and not closer: not closer
pub closer_trans : (t i j k : ℕ) → closer t i j ≡ false → closer t j k ≡ false → closer t i k ≡ false
closer_trans t i j k e f = is-not-closer (by-case (not-closer t i j e) (not-closer t j k f))
  where
    by-case : NotCloser t i j → NotCloser t j k → NotCloser t i k
    by-case (farther h) (farther g) = farther (omega arith)
    by-case (farther h) (tied g q) = farther (omega arith)
    by-case (tied h p) (farther g) = farther (omega arith)
    by-case (tied h p) (tied g q) = tied (h ∙ g) (tie_trans t i j k h g p q)

-- neither closer than the other: one key
pub closer_both : (t j k : ℕ) → closer t j k ≡ false → closer t k j ≡ false → j ≡ k
closer_both t j k e f = by-case (not-closer t j k e) (not-closer t k j f)
  where
    by-case : NotCloser t j k → NotCloser t k j → j ≡ k
    by-case (farther h) (farther g) = absurd (omega arith)
    by-case (farther h) (tied g q) = absurd (omega arith)
    by-case (tied h p) (farther g) = absurd (omega arith)
    by-case (tied h p) (tied g q) = tie_both t j k h p q

-- of keys round the ring, the first that is reached by going up from the target and the first by going down: none is closer than both
module _ (t u d k : ℕ) (o : t < ring) (lu : u < ring) (ld : d < ring) (lk : k < ring) (first : up t u ≤ up t k) (last : up t k ≤ up t d) where
  not-before : (j : ℕ) → j < ring → apart t j ≤ apart t k → (is_down t k && not (is_down t j)) ≡ false → closer t k j ≡ false
  unfolding tie
  not-before j l h e = go (stand (apart t k) (apart t j))
    where
      go : Stand (apart t k) (apart t j) → closer t k j ≡ false
      go (below g) = absurd (omega arith)
      go (equal g) = closer-same t k j g ∙ e
      go (above g) = closer_more t k j g

  by-up : is_down t k ≡ false → closer t k u ≡ false
  by-up e =
      let far = leb-false (up k t) (up t k) (sym (down_steps t k o lk) ∙ e) in
      not-before u lu (omega (arith, apart_round t k o lk, apart_round t u o lu)) (rw e refl)

  by_down : is_down t k ≡ true → ¬ (t ≡ k) → closer t k d ≡ false
  by_down e n =
      let near = leb-true (up k t) (up t k) (sym (down_steps t k o lk) ∙ e) in
      let m = up_back t k o lk n in
      let other : ¬ (t ≡ d) = λ q. omega (arith, ap (up t) (sym q), up_self t o) in
      let w = up_back t d o ld other in
      let down : is_down t d ≡ true = down_steps t d o ld ∙ le-leb (up d t) (up t d) (omega arith) in
      not-before d ld (omega (arith, apart_round t k o lk, apart_round t d o ld)) (rw (e, down) refl)

  pub beside : (closer t k u ≡ false) ⊎ (closer t k d ≡ false)
  beside = go (is_down t k) refl (stand t k)
    where
      at_target : t ≡ k → closer t k u ≡ false
      at_target q =
          let z : u ≡ k = sym (up-zero t u o lu (omega (arith, ap (up t) (sym q), up_self t o))) ∙ q in
          ap (closer t k) z ∙ closer_self t k

      go : (b : Bool) → is_down t k ≡ b → Stand t k → (closer t k u ≡ false) ⊎ (closer t k d ≡ false)
      go false e s = inl (by-up e)
      go true e (below h) = inr (by_down e (omega arith))
      go true e (equal q) = inl (at_target q)
      go true e (above h) = inr (by_down e (omega arith))
