-- `why::line::put_reason` meets its contract: each arm is the text of its reason. Assumes nothing.
use mathlib.Core.Path.{◌≡◌, sym, subst}
use Prim.Native.Nat.{ℕ, ◌+◌, ◌≤◌}
use native.Mathlib.Omega.{arith}
use lib.ListN.{length}
use Rattle.record.specs.Record.{key_of}
use Rattle.reason.specs.declared.Reason.{Reason}
use Rattle.reason.specs.Reason.{because_of}
use Rattle.why.specs.Text.{reason_text}
use Rattle.why.specs.Puts.{Puts, HasKey}
use borrow.Author.Rules.{rules}
use Rattle.why.proofs.line.put_reason.Goals as goal

pub put_key-requires : goal.put_key-requires
put_key-requires c =
    (omega (arith, c.requires.0), subst (λ (x : Reason). HasKey x c.args.other.now) c.in-Tied.is c.requires.1)

pub put_key-requires-in-Nearest : goal.put_key-requires-in-Nearest
put_key-requires-in-Nearest c =
    (omega (arith, c.requires.0), subst (λ (x : Reason). HasKey x c.args.other.now) c.in-Nearest.is c.requires.1)

pub returns-in-Only : goal.returns-in-Only
returns-in-Only c =
    let last : c.put.result ≡ c.args.at + 5 = c.put.ensures.ends in record {
      puts = subst (λ (x : Reason). Puts c.args.at (reason_text (because_of x (key_of c.args.other.now))) c.args.out.now c.put.result
          c.put.new.out)
          (sym c.in-Only.is) c.put.ensures;
      upper_bound = omega (arith, last);
    }

pub returns-in-Target : goal.returns-in-Target
returns-in-Target c =
    let last : c.put-in-Target.result ≡ c.args.at + 7 = c.put-in-Target.ensures.ends in record {
      puts = subst (λ (x : Reason). Puts c.args.at (reason_text (because_of x (key_of c.args.other.now))) c.args.out.now c.put-in-Target.result
          c.put-in-Target.new.out)
          (sym c.in-Target.is) c.put-in-Target.ensures;
      upper_bound = omega (arith, last);
    }

pub returns-in-Tied : goal.returns-in-Tied
returns-in-Tied c =
    let last : c.put_key.result ≡ c.args.at + 5 + 65 = c.put_key.ensures.value in record {
      puts = subst (λ (x : Reason). Puts c.args.at (reason_text (because_of x (key_of c.args.other.now))) c.args.out.now
          c.put_key.result c.put_key.new.out)
          (sym c.in-Tied.is) c.put_key.ensures.puts;
      upper_bound = omega (arith, last);
    }

pub returns-in-Nearest : goal.returns-in-Nearest
returns-in-Nearest c =
    let last : c.put_key-in-Nearest.result ≡ c.args.at + 8 + 65 = c.put_key-in-Nearest.ensures.value in record {
      puts = subst (λ (x : Reason). Puts c.args.at (reason_text (because_of x (key_of c.args.other.now))) c.args.out.now
          c.put_key-in-Nearest.result c.put_key-in-Nearest.new.out)
          (sym c.in-Nearest.is) c.put_key-in-Nearest.ensures.puts;
      upper_bound = omega (arith, last);
    }
