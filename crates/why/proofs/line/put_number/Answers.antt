-- `why::line::put_number` meets its contract. Assumes nothing.
use mathlib.Core.Path.{◌≡◌}
use Prim.Native.Nat.{ℕ, ◌+◌, ◌≤◌}
use native.Mathlib.Omega.{arith}
use lib.ListN.{length}
use borrow.Author.Rules.{rules}
use Rattle.digits.specs.Digits.{decimal}
use Rattle.digits.proofs.DigitLaws.{length-decimal}
use Rattle.why.proofs.PutsLaws.{puts_splice, puts_next}
use Rattle.why.proofs.line.put_number.Goals as goal

pub put-requires : goal.put-requires
put-requires c =
    omega (arith, c.put_decimal-end.ensures.upper_bound, c.put_decimal-end.auto.out, c.requires)

pub returns : goal.returns
returns c =
    let n = c.args.n in
    let last : c.put.result ≡ c.put_decimal-end.result + 1 = c.put.ensures.ends in record {
      puts = puts_next
          (puts_splice 0 (decimal n) c.args.out.now _ _ (omega (arith, c.requires, length-decimal n)) c.put_decimal-end.ensures.value
          c.put_decimal-end.ensures.out_after)
          c.put.ensures;
      upper_bound = omega (arith, last, c.put_decimal-end.ensures.upper_bound);
    }
