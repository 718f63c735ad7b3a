-- What the key of a place has to be at least. Assumes nothing.
use mathlib.Core.Path.{◌≡◌, ap, ◌∙◌}
use mathlib.Core.Bool.{true}
use mathlib.Core.List.{List}
use Prim.Native.Nat.{ℕ, suc, ◌-◌, ◌*◌}
use native.Mathlib.Omega.{arith}
use lib.Dec.{leb, ltb}
use borrow.Author.Tests.{le-leb}
use Rattle.key.specs.Number.{key_at}
use Rattle.own.specs.Low.{low_at}

pub low_first : (s : List ℕ) (i k : ℕ) → i ≡ 0 → leb (low_at s i) k ≡ true
unfolding low_at
low_first s i k e = ap (λ (j : ℕ). leb (low_at s j) k) e ∙ le-leb 0 k (omega arith)

pub low_next : (s : List ℕ) (i k : ℕ) → (i ≡ 0 → ⊥) → leb (low_at s i) k ≡ ltb (key_at (100 * (i - 1)) s) k
unfolding low_at
low_next s i k d =
    let p : i ≡ suc (i - 1) = omega arith in
    ap (λ (j : ℕ). leb (low_at s j) k) p
