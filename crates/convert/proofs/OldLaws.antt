-- Laws of a record in the old form: as code tests it where it lies; what it says; the new form is a part of it. Assumes nothing.
use mathlib.Core.Path.{◌≡◌, refl, sym, ap, ap₂, ◌∙◌}
use mathlib.Core.Bool.{Bool, true, false, ◌&&◌}
use mathlib.Core.List.{List}
use Prim.Native.Nat.{ℕ, zero, suc, ◌+◌, ◌-◌, ◌*◌, ◌≤◌, ◌<◌}
use native.Mathlib.Omega.{arith}
use lib.Dec.{leb, eqb}
use lib.ListN.{length, get_or}
use borrow.Author.Tests.{le-leb, lt-leb, eq-eqb, ne_eqb, eqb-true}
use Rattle.octet.specs.Part.{part, all_zero}
use Rattle.octet.proofs.PartLaws.{part_at, length_part}
use Rattle.octet.proofs.TestLaws.{both_true, zero_two}
use Rattle.record.specs.Record.{count_of, record_form}
use Rattle.record.proofs.EntryLaws.{form_length, form_told}
use Rattle.record.proofs.PlaceLaws.{drop-part}
use Rattle.convert.specs.Old.{old_record_form}

-- a record at a place, tested in its place
pub form_at : (at : ℕ) (s : List ℕ) → at + 100 ≤ length s → get_or s (at + 34) 0 ≤ 4
    → old_record_form (part at 100 s)
    ≡ leb 1 (get_or s (at + 34) 0) && leb (get_or s (at + 34) 0) 4 && eqb (get_or s (at + 35) 0) 0
    && all_zero (part (at + 36 + 16 * get_or s (at + 34) 0) (8 * (8 - 2 * get_or s (at + 34) 0)) s)
unfolding old_record_form
form_at at s h m =
    let c = get_or s (at + 34) 0 in
    let e : 100 - (36 + 16 * c) ≡ 8 * (8 - 2 * c) = omega arith in
    let f : at + (36 + 16 * c) ≡ at + 36 + 16 * c = omega arith in
    rw (
      length_part at 100 s h,
      part_at at 100 34 s (omega arith),
      part_at at 100 35 s (omega arith),
      drop-part at 100 (36 + 16 * c) s (omega arith),
      e,
      f,
    )

-- the same where what is left of it starts and ends at known places
pub form_left : (at p n : ℕ) (s : List ℕ) → at + 100 ≤ length s → 1 ≤ get_or s (at + 34) 0 → get_or s (at + 34) 0 ≤ 4 → get_or s (at + 35) 0 ≡ 0
    → p ≡ at + 36 + 16 * get_or s (at + 34) 0 → n ≡ 8 * (8 - 2 * get_or s (at + 34) 0) → all_zero (part p n s) ≡ old_record_form (part at 100 s)
form_left at p n s h l m z e w =
    let c = get_or s (at + 34) 0 in
    let left : all_zero (part p n s) ≡ all_zero (part (at + 36 + 16 * c) (8 * (8 - 2 * c)) s) = ap₂ (λ (i k : ℕ). all_zero (part i k s)) e w in
    rw (form_at at s h m, le-leb 1 c l, le-leb c 4 m, eq-eqb (get_or s (at + 35) 0) 0 z) left

pub zero-none : (p : ℕ) (s : List ℕ) → true ≡ all_zero (part p 0 s)
unfolding all_zero
zero-none p s = refl

-- more than four addresses are too many
pub form_many : (at : ℕ) (s : List ℕ) → 4 < get_or s (at + 34) 0 → false ≡ old_record_form (part at 100 s)
unfolding old_record_form
form_many at s m =
    let c = get_or s (at + 34) 0 in
    sym (rw (part_at at 100 34 s (omega arith), lt-leb c 4 m) (none (eqb (length (part at 100 s)) 100) (leb 1 c) _ _))
  where
    none : (a b c d : Bool) → a && b && false && c && d ≡ false
    none true true c d = refl
    none true false c d = refl
    none false b c d = refl

-- a number above four: too many addresses, or a zero byte that is none
pub form_over : (at : ℕ) (s : List ℕ) → 4 < get_or s (at + 35) 0 * 256 + get_or s (at + 34) 0 → false ≡ old_record_form (part at 100 s)
unfolding old_record_form
form_over at s m = by-case (get_or s (at + 35) 0) refl
  where
    none : (a b c d : Bool) → a && b && c && false && d ≡ false
    none true true true d = refl
    none true true false d = refl
    none true false c d = refl
    none false b c d = refl

    other : (get_or s (at + 35) 0 ≡ 0 → ⊥) → false ≡ old_record_form (part at 100 s)
    other ne =
        sym (rw (part_at at 100 35 s (omega arith), ne_eqb (get_or s (at + 35) 0) 0 ne)
        (none (eqb (length (part at 100 s)) 100) (leb 1 (count_of (part at 100 s))) (leb (count_of (part at 100 s)) 4) _))

    by-case : (z : ℕ) → get_or s (at + 35) 0 ≡ z → false ≡ old_record_form (part at 100 s)
    by-case zero e = form_many at s (omega arith)
    by-case (suc z) e = other (λ (f : get_or s (at + 35) 0 ≡ 0). omega arith)

-- bytes that are not zero where an unused address is
pub form_spoilt : (at p : ℕ) (s : List ℕ) → at + 100 ≤ length s → get_or s (at + 34) 0 ≤ 4 → at + 36 + 16 * get_or s (at + 34) 0 ≤ p → p + 16 ≤ at + 100
    → all_zero (part p 16 s) ≡ false → false ≡ old_record_form (part at 100 s)
form_spoilt at p s h m from to bad =
    let c = get_or s (at + 34) 0 in
    let q : ℕ = at + 36 + 16 * c in
    let n : ℕ = 8 * (8 - 2 * c) in
    let before : ℕ = p - q in
    let after : ℕ = n - (before + 16) in
    let width : n ≡ before + (16 + after) = omega arith in
    let place : q + before ≡ p = omega arith in
    let left : all_zero (part q n s) ≡ false =
    ap (λ (k : ℕ). all_zero (part q k s)) width ∙ zero_two q before (16 + after) s
    ∙ ap (λ (k : ℕ). all_zero (part q before s) && all_zero (part k (16 + after) s)) place
    ∙ ap (λ (t : Bool). all_zero (part q before s) && t) (zero_two p 16 after s ∙ ap (λ (t : Bool). t && all_zero (part (p + 16) after s)) bad)
    ∙ and_false (all_zero (part q before s)) in
    sym (form_at at s h m ∙ ap (λ (t : Bool). leb 1 c && leb c 4 && eqb (get_or s (at + 35) 0) 0 && t) left
    ∙ last (leb 1 c) (leb c 4) (eqb (get_or s (at + 35) 0) 0))
  where
    and_false : (t : Bool) → t && false ≡ false
    and_false true = refl
    and_false false = refl

    last : (a b c : Bool) → a && b && c && false ≡ false
    last true true true = refl
    last true true false = refl
    last true false c = refl
    last false b c = refl

-- 16 bytes and those after them
pub zero_both : (p q m : ℕ) (s : List ℕ) → q ≡ p + 16 → all_zero (part p 16 s) ≡ true → all_zero (part q m s) ≡ true → all_zero (part p (16 + m) s)
    ≡ true
zero_both p q m s e a b = zero_two p 16 m s ∙ ap₂ ◌&&◌ a (ap (λ (k : ℕ). all_zero (part k m s)) (sym e) ∙ b)

-- ---- what it says

pub old_length : (r : List ℕ) → old_record_form r ≡ true → length r ≡ 100
unfolding old_record_form
old_length r e = eqb-true _ _ (both_true _ _ (both_true _ _ (both_true _ _ (both_true _ _ e).0).0).0).0

pub old_zero_byte : (r : List ℕ) → old_record_form r ≡ true → get_or r 35 0 ≡ 0
unfolding old_record_form
old_zero_byte r e =
    let front = eqb (length r) 100 && leb 1 (count_of r) && leb (count_of r) 4 in
    eqb-true (get_or r 35 0) 0 (both_true front (eqb (get_or r 35 0) 0) (both_true (front && eqb (get_or r 35 0) 0) _ e).0).1

-- a record in the new form is one in the old, with one address
pub new_old : (r : List ℕ) → record_form r ≡ true → old_record_form r ≡ true
unfolding old_record_form
new_old r e =
    let w = form_told r e in
    let place : 36 + 16 * count_of r ≡ 52 = omega (arith, w.0) in
    rw (
      eq-eqb (length r) 100 (form_length r e),
      le-leb 1 (count_of r) (omega (arith, w.0)),
      le-leb (count_of r) 4 (omega (arith, w.0)),
      eq-eqb (get_or r 35 0) 0 w.1,
      place,
      w.2,
    ) refl
