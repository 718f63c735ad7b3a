-- `why::put_behind` meets its contract: the cache is as long as is said, and the datagram is what follows. Assumes nothing.
use mathlib.Core.Path.{◌≡◌, sym, ap, ap₂, ◌∙◌}
use mathlib.Core.List.{List}
use Prim.Native.Nat.{ℕ, ◌+◌, ◌-◌, ◌≤◌, ◌<◌}
use native.Mathlib.Omega.{arith}
use lib.ListN.{length, get_or, take, drop, length-drop}
use lib.Seq.{take_all}
use Rattle.octet.specs.Part.{part}
use Rattle.trace.specs.Trace.{length_of}
use Rattle.named.specs.Call.{name_call}
use Rattle.why.specs.Text.{text_of}
use Rattle.why.proofs.InputLaws.{behind-cut, behind-whole}
use borrow.Author.Rules.{rules}
use Rattle.why.proofs.put_behind.Goals as goal

pub returns-then-rest-lt2 : goal.returns-then-rest-lt2
returns-then-rest-lt2 c =
    record { out_after = c.put_number.ensures.puts.stands ∙ ap text_of (behind-cut c.args.first.now c.args.rest.now (omega (arith, c.if-rest-lt2.true))); upper_bound = omega (arith, c.requires.0, c.put_number.ensures.upper_bound) }

pub returns-then-rest-size : goal.returns-then-rest-size
returns-then-rest-size c =
    record {
      out_after = c.put_number-then-rest-size.ensures.puts.stands
          ∙ ap text_of (behind-cut c.args.first.now c.args.rest.now (omega (arith, c.if-rest-size.true, c.read_u16_le-size.ensures)));
      upper_bound = omega (arith, c.requires.0, c.put_number-then-rest-size.ensures.upper_bound);
    }

pub returns : goal.returns
returns c =
    let first = c.args.first.now in
    let rest = c.args.rest.now in
    let is = c.read_u16_le-size.ensures in
    let size = c.read_u16_le-size.result in
    let n : 2 + size - 2 ≡ length_of rest = omega (arith, is) in
    let cache : take (2 + size - 2) (drop 2 rest) ≡ part 2 (length_of rest) rest = ap (λ (k : ℕ). take k (drop 2 rest)) n in
    let datagram : take (length rest - (2 + size)) (drop (2 + size) rest) ≡ drop (2 + length_of rest) rest =
    take_all (length rest - (2 + size)) (drop (2 + size) rest) (omega (arith, length-drop (2 + size) rest))
    ∙ ap (λ (k : ℕ). drop (2 + k) rest) is in record {
      out_after = c.put_named.ensures.out_after
          ∙ ap text_of (ap₂ (λ (x y : List ℕ). name_call (part 6 100 first) x (get_or first 4 0) y) cache datagram
          ∙ behind-whole first rest (omega (arith, c.if-rest-size.false, c.if-rest-lt2.false, is)));
      upper_bound = c.put_named.ensures.upper_bound;
    }
