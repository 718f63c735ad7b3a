-- `ring::flip` meets its contract: the two cases of its definition. Assumes nothing.
use mathlib.Core.Path.{◌≡◌, refl}
use mathlib.Core.Bool.{cond}
use Prim.Native.Nat.{ℕ, ◌+◌, ◌-◌}
use native.Mathlib.Omega.{arith}
use lib.Dec.{ltb}
use borrow.Author.Tests.{lt-ltb, le-ltb}
use Rattle.ring.proofs.flip.Goals as goal

pub returns-then-byte-lt128 : goal.returns-then-byte-lt128
returns-then-byte-lt128 c =
    let b : ℕ = c.args.byte in
    let e : cond (ltb b 128) (b + 128) (b - 128) ≡ b + 128 = rw (lt-ltb b 128 c.if-byte-lt128.true) refl in
    omega (arith, e)

pub returns : goal.returns
returns c =
    let b : ℕ = c.args.byte in
    let e : cond (ltb b 128) (b + 128) (b - 128) ≡ b - 128 = rw (le-ltb b 128 (omega arith)) refl in
    omega (arith, e)
