-- What the conversion makes of one record: it is in the new form, with the key it had, and one that is in the new form already stays. Assumes nothing.
use mathlib.Core.Path.{◌≡◌, refl, sym, ap, ◌∙◌}
use mathlib.Core.Bool.{true}
use mathlib.Core.List.{List, [], ◌∷◌, ◌++◌}
use Prim.Native.Nat.{ℕ, ◌+◌, ◌≤◌}
use native.Mathlib.Omega.{arith}
use lib.ListN.{length, take, drop, get_or, replicate, length-drop}
use lib.Seq.{take-take, take_at, take_all, length-take-le, get_or-set_same}
use borrow.Author.Tests.{eq-eqb}
use Rattle.octet.specs.Number.{value_be}
use Rattle.octet.specs.Part.{part, splice}
use Rattle.octet.proofs.PartLaws.{length-splice, take-splice, part-splice, splice-above, splice-below, splice_one, part_one}
use Rattle.octet.proofs.TestLaws.{zeros_all, all_zeros}
use Rattle.record.specs.Record.{key_of, count_of, record_form}
use Rattle.record.proofs.EntryLaws.{form_length, form_told}
use Rattle.table.proofs.PieceLaws.{drop-behind}
use Rattle.convert.specs.Old.{old_record_form}
use Rattle.cut.specs.Cut.{converted}
use Rattle.convert.proofs.OldLaws.{old_length, old_zero_byte}
use Rattle.cut.proofs.CutLaws.{splice_self, zeros_long, converted-length}

-- what stands before a replaced part
pub take-before : (n at : ℕ) (xs s : List ℕ) → n ≤ at → at + length xs ≤ length s → take n (splice at xs s) ≡ take n s
take-before n at xs s h k =
    let head : List ℕ = take at s in
    let long : length head ≡ at = length-take-le at s (omega arith) in
    sym (take-take n (at + length xs) (splice at xs s) (omega arith))
    ∙ ap (take n) (take-splice at xs s k)
    ∙ sym (take-take n at (head ++ xs) h)
    ∙ ap (take n) (take_at head xs at long)
    ∙ take-take n at s h

module _ (r : List ℕ) (long : length r ≡ 100) where
  cleared : length (splice 52 (replicate 48 0) r) ≡ 100
  cleared = length-splice 52 (replicate 48 0) r (omega (arith, zeros_long)) ∙ long

  -- the key, and the port behind it, are as they were
  pub converted-front : take 34 (converted r) ≡ take 34 r
  unfolding converted
  converted-front =
      take-before 34 34 (1 ∷ []) (splice 52 (replicate 48 0) r) (omega arith) (omega (arith, cleared))
      ∙ take-before 34 52 (replicate 48 0) r (omega arith) (omega (arith, zeros_long))

  pub converted-key : key_of (converted r) ≡ key_of r
  converted-key =
      ap (value_be 256) (sym (take-take 32 34 (converted r) (omega arith)) ∙ ap (take 32) converted-front ∙ take-take 32 34 r (omega arith))

  converted-count : count_of (converted r) ≡ 1
  unfolding converted
  converted-count =
      ap (λ (l : List ℕ). get_or l 34 0) (splice_one 34 1 (splice 52 (replicate 48 0) r) (omega (arith, cleared)))
      ∙ get_or-set_same (splice 52 (replicate 48 0) r) 34 1 0 (omega (arith, cleared))

  converted-zero : get_or r 35 0 ≡ 0 → get_or (converted r) 35 0 ≡ 0
  unfolding converted
  converted-zero e =
      splice-above 34 (1 ∷ []) (splice 52 (replicate 48 0) r) (omega (arith, cleared)) 35 (omega arith)
      ∙ splice-below 52 (replicate 48 0) r (omega (arith, zeros_long)) 35 (omega arith) ∙ e

  converted-rest : drop 52 (converted r) ≡ replicate 48 0
  unfolding converted
  converted-rest =
      let u = splice 52 (replicate 48 0) r in
      drop-behind 34 (1 ∷ []) u 52 (omega (arith, cleared)) (omega arith)
      ∙ sym (take_all 48 (drop 52 u) (omega (arith, length-drop 52 u, cleared)))
      ∙ ap (λ (n : ℕ). part 52 n u) (sym zeros_long)
      ∙ part-splice 52 (replicate 48 0) r (omega (arith, zeros_long))

-- an old record becomes one of today
pub converted_form : (r : List ℕ) → old_record_form r ≡ true → record_form (converted r) ≡ true
unfolding record_form
converted_form r e =
    let long = old_length r e in
    rw (
      eq-eqb (length (converted r)) 100 (converted-length r long),
      eq-eqb (count_of (converted r)) 1 (converted-count r long),
      eq-eqb (get_or (converted r) 35 0) 0 (converted-zero r long (old_zero_byte r e)),
      converted-rest r long,
      zeros_all 48,
    ) refl

-- and one of today stays
pub converted_stays : (r : List ℕ) → record_form r ≡ true → converted r ≡ r
unfolding converted
converted_stays r e =
    let long = form_length r e in
    let w = form_told r e in
    let rest : length (drop 52 r) ≡ 48 = length-drop 52 r ∙ omega (arith, long) in
    let zeros : replicate 48 0 ≡ part 52 48 r =
    sym (take_all 48 (drop 52 r) (omega (arith, rest)) ∙ all_zeros (drop 52 r) w.2 ∙ ap (λ (n : ℕ). replicate n 0) rest) in
    let one : (1 ∷ []) ≡ part 34 1 r = sym (part_one 34 r (omega (arith, long)) ∙ ap (λ (n : ℕ). n ∷ []) w.0) in
    ap (splice 34 (1 ∷ [])) (ap (λ (l : List ℕ). splice 52 l r) zeros ∙ splice_self 52 48 r (omega (arith, long)))
    ∙ ap (λ (l : List ℕ). splice 34 l r) one ∙ splice_self 34 1 r (omega (arith, long))
