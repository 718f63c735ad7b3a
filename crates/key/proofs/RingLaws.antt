-- Laws of the ring of keys: which numbers are keys, and the steps up from one to another. By these the size of the ring is never computed.
-- Assumes nothing.
use Rattle.std.proofs.Common.{◌≡◌, ℕ, ◌+◌, ◌-◌, ◌%◌, ◌<◌, ◌≤◌, Bool, true, false, ◌&&◌, ltb, ◌⊎◌, refl, ◌∙◌, inl, inr, mod-lt, mod-eq_of_lt, arith, pow_pos, le-ltb, lt-ltb}
use native.Mathlib.Nat.{add-mod_right}
use native.Mathlib.Decide.{dec_le, dec_lt}
use Rattle.key.specs.Around.{ring, half, are_keys, up}

-- ---- the ring

pub half_twice : half + half ≡ ring
unfolding ring half
half_twice = refl

pub half-some : 0 < half
unfolding half
half-some = pow_pos 255

-- ---- which numbers are keys

pub keys_are : {j k : ℕ} → j < ring → k < ring → are_keys j k ≡ true
unfolding are_keys
keys_are {j} {k} h g = rw (lt-ltb j ring h, lt-ltb k ring g)

pub keys_not : {j k : ℕ} → (ring ≤ j) ⊎ (ring ≤ k) → are_keys j k ≡ false
unfolding are_keys
keys_not {j} {k} (inl h) = rw (le-ltb j ring h)
keys_not {j} {k} (inr h) = rw (le-ltb k ring h) (go (ltb j ring))
  where
    go : (b : Bool) → (b && false) ≡ false
    go true = refl
    go false = refl

-- both are, or one is not
pub data Stands (j k : ℕ) : Type 0 where
  round : j < ring → k < ring → Stands j k
  line : (ring ≤ j) ⊎ (ring ≤ k) → Stands j k

pub stands : (j k : ℕ) → Stands j k
stands j k = go (dec_lt j ring) (dec_lt k ring)
  where
    go : Dec (j < ring) → Dec (k < ring) → Stands j k
    go (yes h) (yes g) = round h g
    go (yes h) (no g) = line (inr (omega arith))
    go (no h) g = line (inl (omega arith))

-- ---- the steps up

-- n steps up from j is k, straight on or over the last key
pub data Steps (j k n : ℕ) : Type 0 where
  straight : j ≤ k → n + j ≡ k → Steps j k n
  over : k < j → n + j ≡ k + ring → Steps j k n

pub steps : (j k : ℕ) → j < ring → k < ring → Steps j k (up j k)
unfolding up
steps j k h g = go (dec_le j k)
  where
    go : Dec (j ≤ k) → Steps j k (up j k)
    go (yes l) =
        let e : (k + ring) - j ≡ (k - j) + ring = omega arith in
        let f : ((k + ring) - j) % ring ≡ k - j = rw e (add-mod_right (k - j) ring ∙ mod-eq_of_lt (omega arith)) in
        straight l (omega (arith, f))
    go (no l) =
        let f : ((k + ring) - j) % ring ≡ (k + ring) - j = mod-eq_of_lt (omega arith) in
        over (omega arith) (omega (arith, f))

pub up_lt : (j k : ℕ) → up j k < ring
unfolding up
up_lt j k = mod-lt ((k + ring) - j) (omega (arith, half_twice, half-some))

pub up_straight : (j k : ℕ) → j ≤ k → k < ring → up j k ≡ k - j
up_straight j k h g = go (steps j k (omega arith) g)
  where
    go : Steps j k (up j k) → up j k ≡ k - j
    go (straight l e) = omega arith
    go (over l e) = absurd (omega arith)

pub up_over : (j k : ℕ) → k < j → j < ring → up j k ≡ (k + ring) - j
up_over j k h g = go (steps j k g (omega arith))
  where
    go : Steps j k (up j k) → up j k ≡ (k + ring) - j
    go (straight l e) = absurd (omega arith)
    go (over l e) = omega arith

-- there and back is once round
pub up_back : (j k : ℕ) → j < ring → k < ring → ¬ (j ≡ k) → (up j k + up k j ≡ ring) × (0 < up j k)
up_back j k h g d = go (steps j k h g) (steps k j g h)
  where
    go : Steps j k (up j k) → Steps k j (up k j) → (up j k + up k j ≡ ring) × (0 < up j k)
    go (straight l e) (straight m f) = absurd (d (omega arith))
    go (straight l e) (over m f) = (omega arith, omega arith)
    go (over l e) (straight m f) = (omega arith, omega arith)
    go (over l e) (over m f) = absurd (omega arith)

-- on from there to the end of the round
pub up_rest : (j k : ℕ) → j < ring → k < ring → 0 < up j k → up (up j k) 0 ≡ up k j
up_rest j k h g p =
    let d : ¬ (j ≡ k) = λ e. omega (arith, up_straight j k (omega arith) g) in
    let b = up_back j k h g d in
    omega (arith, up_over (up j k) 0 p (up_lt j k))

-- no step, one key
pub up-zero : (j k : ℕ) → j < ring → k < ring → up j k ≡ 0 → j ≡ k
up-zero j k h g e = go (steps j k h g)
  where
    go : Steps j k (up j k) → j ≡ k
    go (straight l f) = omega arith
    go (over l f) = absurd (omega arith)

pub up_self : (k : ℕ) → k < ring → up k k ≡ 0
up_self k h = omega (arith, up_straight k k (omega arith) h)

-- as many steps from one key, or to one key: one key
pub up_from : (own j k : ℕ) → own < ring → j < ring → k < ring → up own j ≡ up own k → j ≡ k
up_from own j k o h g e = go (steps own j o h) (steps own k o g)
  where
    go : Steps own j (up own j) → Steps own k (up own k) → j ≡ k
    go (straight p x) (straight q y) = omega arith
    go (straight p x) (over q y) = absurd (omega arith)
    go (over p x) (straight q y) = absurd (omega arith)
    go (over p x) (over q y) = omega arith

pub up_to : (own j k : ℕ) → own < ring → j < ring → k < ring → up j own ≡ up k own → j ≡ k
up_to own j k o h g e = go (steps j own h o) (steps k own g o)
  where
    go : Steps j own (up j own) → Steps k own (up k own) → j ≡ k
    go (straight p x) (straight q y) = omega arith
    go (straight p x) (over q y) = absurd (omega arith)
    go (over p x) (straight q y) = absurd (omega arith)
    go (over p x) (over q y) = omega arith
