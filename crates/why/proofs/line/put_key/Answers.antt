-- `why::line::put_key` meets its contract: the word, the key's bytes in hexadecimal, the line's end. Assumes nothing.
use mathlib.Core.Path.{◌≡◌, ap, subst, ◌∙◌}
use mathlib.Core.List.{List, [], ◌∷◌, ◌++◌}
use Prim.Native.Nat.{ℕ, ◌+◌, ◌*◌, ◌≤◌}
use native.Mathlib.Omega.{arith}
use lib.ListN.{length}
use borrow.Author.Rules.{rules}
use Rattle.octet.proofs.PartLaws.{length_part}
use Rattle.digits.specs.Digits.{hex_of}
use Rattle.why.specs.Puts.{Puts}
use Rattle.why.proofs.PutsLaws.{puts_next, key_bytes_lem}
use Rattle.why.proofs.line.put_key.Goals.{After-put-a, After-put_hex-b, Start}
use Rattle.why.proofs.line.put_key.Goals as goal

-- behind the key
module _ (c : After-put_hex-b) where
  abbrev word : After-put-a
  word = (goal.at.After-put_hex-b c).After-put-a

  abbrev start : Start
  start = (goal.at.After-put-a word).Start

  ends : c.put_hex-b.result ≡ start.args.at + length start.args.word.now + 64
  ends =
      let l = length_part 0 32 start.args.«record».now (omega (arith, start.requires.1)) in
      omega (arith, word.put-a.ensures.ends, c.put_hex-b.ensures.value, l)

  long : length c.put_hex-b.new.out ≡ length start.args.out.now
  long = c.put_hex-b.auto.out ∙ word.put-a.auto.out

pub put-requires : goal.put-requires
put-requires c =
    let h = (goal.at.put-requires c).After-put_hex-b in
    omega (arith, ends h, long h, (start h).requires.0)

pub returns : goal.returns
returns c =
    let h = (goal.at.returns c).After-put_hex-b in
    let s = start h in
    let r = s.args.«record».now in
    let last : c.put.result ≡ h.put_hex-b.result + 1 = c.put.ensures.ends in
    let key = key_bytes_lem r (λ i. omega (arith, c.type_inv.«record» i)) (omega (arith, s.requires.1)) in record {
      puts = subst (λ (bs : List ℕ). Puts s.args.at (s.args.word.now ++ hex_of bs ++ (10 ∷ [])) s.args.out.now c.put.result
          c.put.new.out) key
          (puts_next (puts_next (word h).put-a.ensures h.put_hex-b.ensures.puts) c.put.ensures);
      value = omega (arith, last, ends h);
    }
