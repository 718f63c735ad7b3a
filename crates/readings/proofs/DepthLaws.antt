-- Depths that are not a number, and the bits of those that are. In this order: none that is not a number is allowed; by the bits; what 32 bits
-- are as a depth. Assumes nothing.
use mathlib.Core.Path.{◌≡◌, refl, sym, ap, ◌∙◌, subst}
use mathlib.Core.Bool.{true, false, not}
use Prim.Native.Nat.{ℕ}
use lib.Dec.{T}
use lib.Ieee.{Float, nan, inf, fin, binary32, fits, is_nan, nan_bits, of_bits, to_bits, of_int, le, lt, eq, ne}
use lib.Ieee.Bits.{nan_bits_is, of_bits-to_bits}
use lib.Ieee.Compare.{differs_from_itself}
use Rattle.std.specs.Prelude.{Some, None}
use Rattle.readings.specs.Depth.{allowed, metres_of}

pub nan_refused : (x : Float) → is_nan x ≡ true → allowed x ≡ false
unfolding allowed le lt eq is_nan of_int
nan_refused nan e = refl
nan_refused (inf s) e = absurd (subst T (sym e) tt)
nan_refused (fin s m k) e = absurd (subst T (sym e) tt)

pub allowed_no_nan : (x : Float) → allowed x ≡ true → T (not (is_nan x))
unfolding allowed le lt eq is_nan of_int
allowed_no_nan nan e = absurd (subst T (sym e) tt)
allowed_no_nan (inf s) e = tt
allowed_no_nan (fin s m k) e = tt

-- bits of an allowed depth are those of a number
pub allowed-bits : (bits : ℕ) → allowed (of_bits binary32 bits) ≡ true → T (not (nan_bits binary32 bits))
allowed-bits bits e = rw (nan_bits_is binary32 bits) (allowed_no_nan (of_bits binary32 bits) e)

-- the bits of what is not a number are not looked at; those of any other depth decide
pub differs_refused : (x : Float) → ne x x ≡ true → false ≡ allowed x
unfolding is_nan
differs_refused x e = sym (ap allowed (differs_from_itself x (subst T (sym e) tt)) ∙ nan_refused nan refl)

pub by_its_bits : (x : Float) → T (fits binary32 x) → allowed (of_bits binary32 (to_bits binary32 x)) ≡ allowed x
by_its_bits x h = ap allowed (of_bits-to_bits binary32 x h)

-- what is not a number, and nothing else, differs from itself
pub same_no_nan : (x : Float) → ne x x ≡ false → T (not (is_nan x))
unfolding ne eq is_nan
same_no_nan nan e = absurd (subst T e tt)
same_no_nan (inf s) e = tt
same_no_nan (fin s m k) e = tt

-- ---- what 32 bits are as a depth

pub bits_within : (bits : ℕ) → allowed (of_bits binary32 bits) ≡ true → Some (of_bits binary32 bits) ≡ metres_of bits
unfolding metres_of
bits_within bits e = rw e refl

pub bits_outside : (bits : ℕ) → allowed (of_bits binary32 bits) ≡ false → None ≡ metres_of bits
unfolding metres_of
bits_outside bits e = rw e refl
