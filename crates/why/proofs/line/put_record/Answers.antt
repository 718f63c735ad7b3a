-- `why::line::put_record` meets its contract: each piece stands behind the one before it. Assumes nothing.
use mathlib.Core.Path.{◌≡◌, ap, subst, ◌∙◌}
use mathlib.Core.List.{List, [], ◌∷◌, ◌++◌}
use Prim.Native.Nat.{ℕ, ◌+◌, ◌*◌, ◌≤◌}
use native.Mathlib.Omega.{arith}
use lib.ListN.{length}
use borrow.Author.Rules.{rules}
use Rattle.octet.specs.Part.{part}
use Rattle.octet.proofs.PartLaws.{length_part}
use Rattle.record.specs.Record.{port_of}
use Rattle.digits.specs.Digits.{decimal, hex_of}
use Rattle.digits.proofs.DigitLaws.{length-decimal}
use Rattle.why.specs.Puts.{Puts}
use Rattle.why.proofs.PutsLaws.{puts_splice, puts_next}
use Rattle.why.proofs.line.put_record.Goals.{After-put-a, After-put-c, After-put-e, After-put_decimal-d, After-put_hex-b, After-put_hex-f, Start}
use Rattle.why.proofs.line.put_record.Goals as goal

-- where each piece ends, and that the slice keeps its length
module _ (c : After-put-a) where
  abbrev start : Start
  start = (goal.at.After-put-a c).Start

  abbrev room : List ℕ
  room = start.args.out.now

  word-ends : c.put-a.result ≡ 7
  word-ends = c.put-a.ensures.ends

  word-long : length c.put-a.new.out ≡ length room
  word-long = c.put-a.auto.out

module _ (c : After-put_hex-b) where
  abbrev word : After-put-a
  word = (goal.at.After-put_hex-b c).After-put-a

  key-ends : c.put_hex-b.result ≡ 71
  key-ends = omega (
    arith,
    word-ends word,
    c.put_hex-b.ensures.value,
    length_part 0 32 (start word).args.«record».now
        (omega (arith, (start word).requires.1)),
  )

  key-long : length c.put_hex-b.new.out ≡ length (room word)
  key-long = c.put_hex-b.auto.out ∙ word-long word

module _ (c : After-put-c) where
  abbrev key : After-put_hex-b
  key = (goal.at.After-put-c c).After-put_hex-b

  space-ends : c.put-c.result ≡ 72
  space-ends = let e : c.put-c.result ≡ key.put_hex-b.result + 1 = c.put-c.ensures.ends in omega (arith, e, key-ends key)

  space-long : length c.put-c.new.out ≡ length (room (word key))
  space-long = c.put-c.auto.out ∙ key-long key

module _ (c : After-put_decimal-d) where
  abbrev space : After-put-c
  space = (goal.at.After-put_decimal-d c).After-put-c

  port-ends : c.put_decimal-d.result ≤ 92
  port-ends = omega (arith, c.put_decimal-d.ensures.upper_bound, space-ends space)

  port-long : length c.put_decimal-d.new.out ≡ length (room (word (key space)))
  port-long = c.put_decimal-d.auto.out ∙ space-long space

module _ (c : After-put-e) where
  abbrev port : After-put_decimal-d
  port = (goal.at.After-put-e c).After-put_decimal-d

  gap_ends : c.put-e.result ≤ 93
  gap_ends = let e : c.put-e.result ≡ port.put_decimal-d.result + 1 = c.put-e.ensures.ends in omega (arith, e, port-ends port)

  gap-long : length c.put-e.new.out ≡ length (room (word (key (space port))))
  gap-long = c.put-e.auto.out ∙ port-long port

module _ (c : After-put_hex-f) where
  abbrev gap : After-put-e
  gap = (goal.at.After-put_hex-f c).After-put-e

  abbrev first : After-put-a
  first = word (key (space (port gap)))

  address-ends : c.put_hex-f.result ≤ 125
  address-ends =
      omega (arith, gap_ends gap, c.put_hex-f.ensures.value, length_part 36 16 (start first).args.«record».now (omega (arith, (start first).requires.1)))

  address-long : length c.put_hex-f.new.out ≡ length (room first)
  address-long = c.put_hex-f.auto.out ∙ gap-long gap

pub put-c-requires : goal.put-c-requires
put-c-requires c = let k = (goal.at.put-c-requires c).After-put_hex-b in omega (arith, key-ends k, key-long k, (start (word k)).requires.0)

pub put_decimal-d-requires : goal.put_decimal-d-requires
put_decimal-d-requires c = let s = (goal.at.put_decimal-d-requires c).After-put-c in omega (arith, space-ends s, space-long s, (start (word (key s))).requires.0)

pub put-e-requires : goal.put-e-requires
put-e-requires c =
    let p = (goal.at.put-e-requires c).After-put_decimal-d in
    omega (arith, port-ends p, port-long p, (start (word (key (space p)))).requires.0)

pub put_hex-f-requires : goal.put_hex-f-requires
put_hex-f-requires c =
    let g = (goal.at.put_hex-f-requires c).After-put-e in
    let s = start (word (key (space (port g)))) in
    omega (arith, gap_ends g, gap-long g, s.requires.0, length_part 36 16 s.args.«record».now (omega (arith, s.requires.1)))

pub put-requires : goal.put-requires
put-requires c = let a = (goal.at.put-requires c).After-put_hex-f in omega (arith, address-ends a, address-long a, (start (first a)).requires.0)

pub returns : goal.returns
returns c =
    let a = (goal.at.returns c).After-put_hex-f in
    let g = gap a in
    let p = port g in
    let s = space p in
    let k = key s in
    let w = word k in
    let number = w.read_u16-port.result in
    let digits = puts_splice s.put-c.result (decimal number) s.put-c.new.out p.put_decimal-d.result p.put_decimal-d.new.out
    (omega (arith, space-ends s, space-long s, (start w).requires.0, length-decimal number)) p.put_decimal-d.ensures.value
    p.put_decimal-d.ensures.out_after in
    let read : number ≡ port_of (start w).args.«record».now = w.read_u16-port.ensures in
    let named = subst (λ (n : ℕ). Puts s.put-c.result (decimal n) s.put-c.new.out p.put_decimal-d.result p.put_decimal-d.new.out) read
    digits in
    let last : c.put.result ≡ a.put_hex-f.result + 1 = c.put.ensures.ends in record {
      puts = puts_next (puts_next (puts_next (puts_next (puts_next (puts_next w.put-a.ensures k.put_hex-b.ensures.puts) s.put-c.ensures) named)
          g.put-e.ensures)
          a.put_hex-f.ensures.puts) c.put.ensures;
      upper_bound = omega (arith, last, address-ends a);
    }
