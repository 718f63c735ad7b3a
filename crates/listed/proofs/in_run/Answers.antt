-- `listed::in_run` meets its contract: the place counted from the first above. Assumes nothing.
use mathlib.Core.Path.{refl, sym, ap, ◌∙◌}
use mathlib.Core.Bool.{Bool, cond}
use Prim.Native.Nat.{ℕ, ◌-◌}
use native.Mathlib.Omega.{arith}
use lib.Dec.{ltb}
use borrow.Author.Tests.{lt-ltb, le-ltb}
use Rattle.listed.proofs.in_run.Goals as goal

-- the test of place i
abbrev five : ℕ → ℕ → ℕ → Bool
five n b i = cond (ltb i (n - b)) (ltb i 5) (ltb ((n - 1) - i) 5)

pub returns-then-i-total : goal.returns-then-i-total
returns-then-i-total c =
    let w = c in
    let a = w.args in
    sym (ap (five a.total a.run.below) (sym w.wrap-i.ensures.0)
    ∙ rw (lt-ltb w.wrap-i.result (a.total - a.run.below) c.if-i-total.true) refl)

pub returns : goal.returns
returns c =
    let w = c in
    let a = w.args in
    sym (ap (five a.total a.run.below) (sym w.wrap-i.ensures.0)
    ∙ rw (le-ltb w.wrap-i.result (a.total - a.run.below) (omega (arith, c.if-i-total.false))) refl)
