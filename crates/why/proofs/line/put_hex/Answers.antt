-- `why::line::put_hex` meets its contract. Assumes nothing.
use mathlib.Core.Path.{◌≡◌, sym, ◌∙◌}
use Prim.Native.Nat.{ℕ, ◌+◌, ◌*◌, ◌≤◌}
use native.Mathlib.Omega.{arith}
use lib.ListN.{length}
use borrow.Author.Rules.{rules}
use Rattle.digits.specs.Digits.{hex_of}
use Rattle.digits.proofs.DigitLaws.{length_hex}
use Rattle.why.proofs.PutsLaws.{puts_splice}
use Rattle.why.proofs.line.put_hex.Goals as goal

pub returns : goal.returns
returns c =
    let l = length_hex c.args.s.now in record {
      puts = puts_splice c.args.at (hex_of c.args.s.now) c.args.out.now _ _ (omega (arith, l, c.requires))
          (omega (arith, l, c.put_hex.ensures.value)) c.put_hex.ensures.out_after;
      value = c.put_hex.ensures.value;
    }
