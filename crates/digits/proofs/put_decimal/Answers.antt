-- `digits::put_decimal` meets its contract. Assumes nothing.
use mathlib.Core.Path.{◌≡◌, ap, ◌∙◌}
use mathlib.Core.List.{List}
use Prim.Native.Nat.{ℕ, ◌+◌, ◌≤◌}
use native.Mathlib.Omega.{arith}
use lib.ListN.{length, take}
use Rattle.octet.specs.Part.{splice}
use Rattle.digits.specs.Digits.{decimal}
use Rattle.digits.proofs.DigitLaws.{decimal-is, length-decimal}
use Rattle.digits.proofs.put_decimal.Goals.{After-decimal-k}
use Rattle.digits.proofs.put_decimal.Goals as goal

-- what `io` puts there is the number in decimal
text-is : (c : After-decimal-k) → take c.decimal-k.result c.decimal-k.new.out ≡ decimal c.args.n
text-is c = c.decimal-k.ensures.digits ∙ decimal-is _ _ (omega arith) c.decimal-k.ensures.len

long : (c : After-decimal-k) → c.decimal-k.result ≡ length (decimal c.args.n)
long c = c.decimal-k.ensures.in_bounds.1 ∙ ap length (text-is c)

short : (c : After-decimal-k) → c.decimal-k.result ≤ 20
short c = omega (arith, long c, length-decimal c.args.n)

pub copy_to-requires : goal.copy_to-requires
copy_to-requires c =
    let d = (goal.at.copy_to-requires c).After-decimal-k in
    omega (arith, short d, d.decimal-k.ensures.in_bounds)

pub overflow_add-result : goal.overflow_add-result
overflow_add-result c = omega (arith, short (goal.at.overflow_add-result c).After-decimal-k)

pub returns : goal.returns
returns c =
    let d = (goal.at.returns c).After-decimal-k in
    let a = d.args in record { value = ap (λ (k : ℕ). a.at + k) (long d); upper_bound = omega (arith, short d); out_after = c.copy_to.ensures ∙ ap (λ (l : List ℕ). splice a.at l a.out.now) (text-is d) }
