-- Laws of the head of a field: its number and its length, as numbers and as bytes, at any width. Behind them the bytes that a datagram begins with, four of
-- them as one number. Assumes nothing.
use Prim.Native.Nat.{ℕ, ◌+◌, ◌^◌, ◌≤◌, ◌<◌}
use native.Mathlib.Omega.{arith}
use mathlib.Core.List.{List, ◌++◌}
use mathlib.Core.Bool.{◌&&◌}
use lib.Dec.{eqb}
use mathlib.Core.Path.{◌≡◌, sym, ap, ap₂, ◌∙◌}
use lib.ListN.{length, get_or, take, drop}
use lib.Seq.{take_at, drop_at, take_all}
use Rattle.octet.specs.Number.{Bytes, value_be, digits_be}
use Rattle.octet.specs.Part.{part, same}
use Rattle.octet.proofs.PartLaws.{part_add, part_one, part-digits, length_part}
use Rattle.octet.proofs.BigLaws.{length-digits_be, value_be-lt, value_be-digits_be, digits_be-value_be, value_be_inj}
use Rattle.octet.proofs.TestLaws.{and_true, same_by, same_append}
use Rattle.wire_shapes.specs.Field.{number_at}
use Rattle.record.proofs.PlaceLaws.{part-part}

-- bytes are the digits of their number
pub digits_at : (i w : ℕ) (d : List ℕ) → Bytes d → i + w ≤ length d → digits_be 256 w (number_at i w d) ≡ part i w d
digits_at i w d b h =
    ap (λ (n : ℕ). digits_be 256 n (number_at i w d)) (sym (length_part i w d h))
    ∙ digits_be-value_be 256 (part i w d) (part-digits 256 i w d (omega arith) b)

-- a number of w bytes is below that power of 256
pub number_small : (i w : ℕ) (d : List ℕ) → Bytes d → i + w ≤ length d → number_at i w d < 256 ^ w
number_small i w d b h = rw (length_part i w d h) at (value_be-lt 256 (part i w d) (part-digits 256 i w d (omega arith) b))

-- a number whose digits stand at a place
pub number_at_lem : (i w n : ℕ) (d : List ℕ) → n < 256 ^ w → part i w d ≡ digits_be 256 w n → number_at i w d ≡ n
number_at_lem i w n d h e = ap (value_be 256) e ∙ value_be-digits_be 256 w n (omega arith) h

pub head_bytes : (d : List ℕ) → Bytes d → (i n w : ℕ) → i + 4 ≤ length d → number_at i 2 d ≡ n → number_at (i + 2) 2 d ≡ w
    → take 4 (drop i d) ≡ digits_be 256 2 n ++ digits_be 256 2 w
head_bytes d b i n w h p q =
    part_add i 2 2 d
    ∙ ap₂ ◌++◌ (sym (digits_at i 2 d b (omega arith)) ∙ ap (digits_be 256 2) p)
    (sym (digits_at (i + 2) 2 d b (omega arith)) ∙ ap (digits_be 256 2) q)

module _ (d : List ℕ) (i n w : ℕ) (hn : n < 65536) (hw : w < 65536) (e : take 4 (drop i d) ≡ digits_be 256 2 n ++ digits_be 256 2 w) where
  pub head-number : number_at i 2 d ≡ n
  head-number =
      let z : i + 0 ≡ i = omega arith in
      number_at_lem i 2 n d hn
      (ap (λ (j : ℕ). part j 2 d) (sym z) ∙ sym (part-part i 4 0 2 d (omega arith)) ∙ ap (take 2) e
      ∙ take_at (digits_be 256 2 n) (digits_be 256 2 w) 2 (length-digits_be 256 2 n))

  pub head_length : number_at (i + 2) 2 d ≡ w
  head_length =
      number_at_lem (i + 2) 2 w d hw
      (sym (part-part i 4 2 2 d (omega arith)) ∙ ap (λ (l : List ℕ). take 2 (drop 2 l)) e
      ∙ ap (take 2) (drop_at (digits_be 256 2 n) (digits_be 256 2 w) 2 (length-digits_be 256 2 n))
      ∙ whole)
    where
      whole : take 2 (digits_be 256 2 w) ≡ digits_be 256 2 w
      whole = take_all 2 (digits_be 256 2 w) (omega (arith, length-digits_be 256 2 w))

-- ---- the opening

-- five bytes are the same where the number of the first four is, and the last
pub five-same : (d e : List ℕ) → Bytes d → Bytes e → 5 ≤ length d → 5 ≤ length e
    → same (part 0 5 d) (part 0 5 e) ≡ eqb (number_at 0 4 d) (number_at 0 4 e) && eqb (get_or d 4 0) (get_or e 4 0)
unfolding same
five-same d e b c m n =
    let last : same (part 4 1 d) (part 4 1 e) ≡ eqb (get_or d 4 0) (get_or e 4 0) =
    rw (part_one 4 d (omega arith), part_one 4 e (omega arith)) (and_true (eqb (get_or d 4 0) (get_or e 4 0))) in
    let l = length_part 0 4 d (omega arith) in
    let k = length_part 0 4 e (omega arith) in
    let first : same (part 0 4 d) (part 0 4 e) ≡ eqb (number_at 0 4 d) (number_at 0 4 e) =
    same_by (value_be 256) (part 0 4 d) (part 0 4 e)
    (value_be_inj 256 (part 0 4 d) (part 0 4 e) (part-digits 256 0 4 d (omega arith) b) (part-digits 256 0 4 e (omega arith) c) (l ∙ sym k)) in
    ap₂ same (part_add 0 4 1 d) (part_add 0 4 1 e)
    ∙ same_append (part 0 4 d) (part 0 4 e) (part 4 1 d) (part 4 1 e) (l ∙ sym k) ∙ ap₂ ◌&&◌ first last
