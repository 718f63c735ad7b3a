-- What is told by what was read. In this order: behind a good first record; the whole. Assumes nothing.
use mathlib.Core.Path.{◌≡◌, sym, ap, ◌∙◌}
use mathlib.Core.Bool.{Bool}
use mathlib.Core.List.{List, [], ◌∷◌}
use Prim.Native.Nat.{ℕ, ◌+◌, ◌-◌, ◌≤◌, ◌<◌}
use native.Mathlib.Omega.{arith}
use lib.Dec.{eqb, ltb}
use lib.ListN.{length, get_or, drop, length-drop}
use borrow.Author.Tests.{eq-eqb, ne_eqb, lt-ltb, le-ltb}
use Rattle.octet.specs.Part.{part}
use Rattle.refusal.specs.Table.{by_number, first_of as firstRow}
use Rattle.refusal.proofs.TableLaws.{all_fail}
use Rattle.refusal.proofs.CallLaws.{row_applies, row_passes, no_row, all_pass, or_refuses}
use Rattle.trace.specs.Trace.{length_of, kind_of, body_of}
use Rattle.trace.specs.Fault.{faults}
use Rattle.trace.proofs.FaultLaws.{good-record, in_order, fits_4, first-opens}
use Rattle.named.specs.Call.{Told, refused, name_call}
use Rattle.why.specs.Input.{first_of, behind_of, told_behind, told_of}

module _ (first rest : List ℕ) where
  abbrev done : Told
  done = name_call (part 6 100 first) (part 2 (length_of rest) rest) (get_or first 4 0) (drop (2 + length_of rest) rest)

  pub behind-cut : length rest < 2 + length_of rest → refused 16 ≡ told_behind first rest
  unfolding told_behind
  behind-cut h = sym (row_applies refused 16 (ltb (length rest) (2 + length_of rest)) [] done (lt-ltb (length rest) (2 + length_of rest) h))

  pub behind-whole : 2 + length_of rest ≤ length rest → done ≡ told_behind first rest
  unfolding told_behind
  behind-whole h =
      sym (row_passes refused 16 (ltb (length rest) (2 + length_of rest)) [] done (le-ltb (length rest) (2 + length_of rest) h) ∙ no_row refused done)

-- a good first record has 106 bytes
pub first_long : (r : List ℕ) → firstRow (faults 0 r) ≡ 0 → length r ≡ 106
first_long r e =
    let w = good-record 0 r e in
    let b : length (body_of r) ≡ 102 = fits_4 (kind_of r) (length (body_of r)) (first-opens 0 r e (omega arith)) w.1 in
    omega (arith, w.0, b, length-drop 4 r)

module _ (input : List ℕ) where
  abbrev behind : Told
  behind = told_behind (first_of input) (behind_of input)

  pub told_none : length input ≡ 0 → refused 17 ≡ told_of input
  unfolding told_of
  told_none h = sym (row_applies refused 17 (eqb (length input) 0) (faults 0 (first_of input)) behind (eq-eqb (length input) 0 h))

  module _ (some : length input ≡ 0 → ⊥) where
    pub told-bad : (n : ℕ) → n ≡ firstRow (faults 0 (first_of input)) → (n ≡ 0 → ⊥) → refused n ≡ told_of input
    unfolding told_of
    told-bad n e d =
        ap refused e
        ∙ sym (row_passes refused 17 (eqb (length input) 0) (faults 0 (first_of input)) behind (ne_eqb (length input) 0 some)
        ∙ or_refuses refused (faults 0 (first_of input)) behind (omega (arith, e, d)))

    pub told-good : firstRow (faults 0 (first_of input)) ≡ 0 → behind ≡ told_of input
    unfolding told_of
    told-good e =
        sym (row_passes refused 17 (eqb (length input) 0) (faults 0 (first_of input)) behind (ne_eqb (length input) 0 some)
        ∙ all_pass refused (faults 0 (first_of input)) behind (all_fail by_number (faults 0 (first_of input)) 16 (in_order 0 (first_of input)) e))
