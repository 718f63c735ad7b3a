-- `leaves::leaves_closer` meets its contract: each refusal by its test, and the answer by what the keys' functions say. Assumes nothing.
use mathlib.Core.Path.{◌≡◌}
use mathlib.Core.Bool.{true, false}
use mathlib.Core.List.{List}
use Prim.Native.Nat.{ℕ}
use borrow.Author.Tests.{eq-eqb, ne_eqb}
use Rattle.key.specs.Number.{key_at}
use Rattle.key.specs.Around.{closer}
use Rattle.leaves.specs.Leaves.{closer_or2}
use borrow.Author.Rules.{rules}
use Rattle.leaves.proofs.leaves_closer.Goals.{Else-j-ne32}
use Rattle.leaves.proofs.leaves_closer.Goals as goal

-- the three slices, as they are where all have 32 bytes
abbrev target : Else-j-ne32 → List ℕ
target c = c.args.target.now

abbrev nearer : Else-j-ne32 → List ℕ
nearer c = c.args.k.now

abbrev farther : Else-j-ne32 → List ℕ
farther c = c.args.j.now

pub returns-then-target-ne32 : goal.returns-then-target-ne32
unfolding closer_or2
returns-then-target-ne32 c = simp (ne_eqb _ _ c.if-target-ne32.true)

pub returns-then-k-ne32 : goal.returns-then-k-ne32
unfolding closer_or2
returns-then-k-ne32 c = simp (eq-eqb _ _ c.if-target-ne32.false, ne_eqb _ _ c.if-k-ne32.true)

pub returns-then-j-ne32 : goal.returns-then-j-ne32
unfolding closer_or2
returns-then-j-ne32 c = simp (eq-eqb _ _ c.if-target-ne32.false, eq-eqb _ _ c.if-k-ne32.false, ne_eqb _ _ c.if-j-ne32.true)

pub returns-then-is_closer : goal.returns-then-is_closer
unfolding closer_or2
returns-then-is_closer c =
    let if3 = (goal.at.returns-then-is_closer c).Else-j-ne32 in
    let told : closer (key_at 0 (target if3)) (key_at 0 (nearer if3)) (key_at 0 (farther if3)) ≡ true = cc in
    simp (eq-eqb _ _ if3.if-target-ne32.false, eq-eqb _ _ if3.if-k-ne32.false, eq-eqb _ _ if3.if-j-ne32.false, told)

pub returns-else-is_closer : goal.returns-else-is_closer
unfolding closer_or2
returns-else-is_closer c =
    let if3 = (goal.at.returns-else-is_closer c).Else-j-ne32 in
    let told : closer (key_at 0 (target if3)) (key_at 0 (nearer if3)) (key_at 0 (farther if3)) ≡ false = cc in
    simp (eq-eqb _ _ if3.if-target-ne32.false, eq-eqb _ _ if3.if-k-ne32.false, eq-eqb _ _ if3.if-j-ne32.false, told)
