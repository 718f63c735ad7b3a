-- Signed numbers behind their bits, at any width. In this order: a difference of two numbers; how far a number is from 0. Assumes nothing.
use mathlib.Core.Path.{◌≡◌, refl, ◌∙◌, subst}
use mathlib.Core.Bool.{Bool, true, false, cond}
use Prim.Native.Nat.{ℕ, zero, suc, ◌-◌, ◌^◌, ◌<◌}
use native.Mathlib.Omega.{arith}
use native.Mathlib.Nat.{add-zero}
use lib.IntN.{ℤ, pos, negsuc, suc_ℤ, neg_ℤ, ◌+ℤ◌, ◌-ℤ◌, +ℤ_one, +ℤ_idl}
use lib.Dec.{T, ltb}
use lib.Signed.{mag, lt_z}
use borrow.Author.Tests.{ltb-true}
use mir.Syntax.{Width}
use mir.Val.{SFits, to_z, of_z, hbits}
use mir.Facts.{to_z_pos, to_z-of_z}

-- ---- a difference

either : (t : Bool) (x y : ℤ) {m : ℕ} → mag x < m → mag y < m → mag (cond t x y) < m
either true x y p q = p
either false x y p q = q

small : (a b : ℕ) {m : ℕ} → a < m → b < m → mag (pos a -ℤ pos b) < m
small a zero p q = rw add-zero p
small a (suc b) p q = either (ltb a (suc b)) (negsuc (suc b - suc a)) (pos (a - suc b)) (omega arith) (omega arith)

module _ (w : Width) (a b : ℕ) (p : a < 2 ^ hbits w) (q : b < 2 ^ hbits w) where
  pub difference-fits : SFits w (to_z w a -ℤ to_z w b)
  difference-fits = rw (to_z_pos w p, to_z_pos w q) (record { sfits = small a b p q })

  pub difference-is : to_z w (of_z w (to_z w a -ℤ to_z w b)) ≡ pos a -ℤ pos b
  difference-is = to_z-of_z difference-fits ∙ rw (to_z_pos w p, to_z_pos w q)

-- ---- how far from 0, by way of -(z + 1) where it is negative

turned : (n : ℕ) → neg_ℤ (suc_ℤ (negsuc n)) ≡ pos n
turned zero = refl
turned (suc n) = refl

up_small : (n : ℕ) {m : ℕ} → n < m → mag (suc_ℤ (negsuc n)) < m
up_small zero h = h
up_small (suc n) h = omega arith

pub negative : (z : ℤ) → lt_z z (pos 0) ≡ true → z ≡ negsuc (mag z)
negative (pos n) t = absurd (omega (arith, ltb-true n 0 t))
negative (negsuc n) t = refl

pub not_negative : (z : ℤ) → lt_z z (pos 0) ≡ false → z ≡ pos (mag z)
not_negative (pos n) t = refl
not_negative (negsuc n) t = absurd (subst T t tt)

-- each value that the code makes of z, which is -(n + 1): z + 1, and 0 - (z + 1)
module _ (w : Width) (z : ℤ) (n : ℕ) (f : SFits w z) (e : z ≡ negsuc n) where
  below : n < 2 ^ hbits w
  below = (rw e at f).sfits

  up_is : to_z w (of_z w z) +ℤ pos 1 ≡ suc_ℤ (negsuc n)
  up_is = rw (to_z-of_z f, e) (+ℤ_one (negsuc n))

  pub up_fits : SFits w (to_z w (of_z w z) +ℤ pos 1)
  up_fits = rw up_is (record { sfits = up_small n below })

  down_is : pos 0 -ℤ to_z w (of_z w (to_z w (of_z w z) +ℤ pos 1)) ≡ pos n
  down_is = rw (to_z-of_z up_fits, up_is) (+ℤ_idl (neg_ℤ (suc_ℤ (negsuc n))) ∙ turned n)

  pub down_fits : SFits w (pos 0 -ℤ to_z w (of_z w (to_z w (of_z w z) +ℤ pos 1)))
  down_fits = rw down_is (record { sfits = below })

  pub size_is : to_z w (of_z w (pos 0 -ℤ to_z w (of_z w (to_z w (of_z w z) +ℤ pos 1)))) ≡ pos n
  size_is = to_z-of_z down_fits ∙ down_is
