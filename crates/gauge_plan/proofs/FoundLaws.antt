-- Laws of what a search found. Assumes nothing.
use mathlib.Core.Path.{◌≡◌, refl}
use mathlib.Core.Bool.{Bool, true, false, not}
use Prim.Native.Nat.{ℕ}
use native.Mathlib.Omega.{arith}
use Rattle.std.specs.Prelude.{Option, Some, None, is_some, unwrap_or}
use Rattle.gauge_plan.specs.Found.{is_nothing, place_of}

pub some_found : (f : Option ℕ) → is_nothing f ≡ false → f ≡ Some (place_of f)
some_found (Some i) e = refl
some_found None e = let z : ◌≡◌ {A = ℕ} 0 1 = cc in absurd (omega arith)

-- the words of the library say the same
pub none_is : (f : Option ℕ) {b : Bool} → is_some f ≡ not b → b ≡ is_nothing f
none_is f {b} e = go f b e
  where
    go : (f : Option ℕ) (b : Bool) → is_some f ≡ not b → b ≡ is_nothing f
    go (Some i) true e = let z : ◌≡◌ {A = ℕ} 0 1 = cc in absurd (omega arith)
    go (Some i) false e = refl
    go None true e = refl
    go None false e = let z : ◌≡◌ {A = ℕ} 0 1 = cc in absurd (omega arith)

pub place_is : (f : Option ℕ) → unwrap_or f 0 ≡ place_of f
place_is (Some i) = refl
place_is None = refl
