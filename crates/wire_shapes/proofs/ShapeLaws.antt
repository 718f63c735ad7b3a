-- Laws of the contents of a field: their bytes are the datagram's, and so what the shape tests say of them. In this order: a number in a part;
-- route entry, LOOKUP's controls, split controls, arrays. Assumes nothing.
use Prim.Native.Nat.{ℕ, zero, suc, ◌+◌, ◌*◌, ◌%◌, ◌≤◌, ◌<◌}
use native.Mathlib.Omega.{arith}
use mathlib.Core.List.{List}
use mathlib.Core.Bool.{Bool, true, false, ◌&&◌}
use mathlib.Core.Path.{◌≡◌, refl, sym, ap, ◌∙◌}
use lib.Dec.{leb, eqb}
use native.Mathlib.Decide.{dec_lt}
use lib.ListN.{length, get_or, get_or-eq_default}
use borrow.Author.Tests.{le-leb, lt-leb, eq-eqb, ne_eqb}
use Rattle.octet.specs.Part.{part}
use Rattle.octet.specs.Number.{value_be}
use Rattle.octet.proofs.PartLaws.{length_part, part_at}
use Rattle.record.specs.Entry.{entry_form}
use Rattle.record.proofs.PlaceLaws.{part-part}
use Rattle.wire_shapes.specs.Field.{number_at}
use Rattle.wire_shapes.specs.Shapes.{array_form, lookup_form, split_form, is_criteria}

-- a test that fails makes the rest false
pub and_false : (b : Bool) → b && false ≡ false
and_false true = refl
and_false false = refl

module _ (d : List ℕ) (s l : ℕ) (h : s + l ≤ length d) where
  -- a number in a part, and at its start
  pub number_in : (j w : ℕ) → j + w ≤ l → number_at j w (part s l d) ≡ number_at (s + j) w d
  number_in j w m = ap (value_be 256) (part-part s l j w d m)

  pub number-first : (w : ℕ) → w ≤ l → number_at 0 w (part s l d) ≡ number_at s w d
  number-first w m =
      let z : s + 0 ≡ s = omega arith in
      number_in 0 w (omega arith) ∙ ap (λ (n : ℕ). number_at n w d) z

  pub entry-short : l < 38 → entry_form (part s l d) ≡ false
  unfolding entry_form
  entry-short m =
      let e : get_or (part s l d) 37 0 ≡ 0 = get_or-eq_default (part s l d) 0 {n = 37} (omega (arith, length_part s l d h)) in
      rw e

  pub entry_in_lem : 38 ≤ l → entry_form (part s l d)
      ≡ leb 1 (get_or d (s + 37) 0) && leb (get_or d (s + 37) 0) 4 && eqb l (38 + 16 * get_or d (s + 37) 0)
  unfolding entry_form
  entry_in_lem m = rw (length_part s l d h, part_at s l 37 d (omega arith))

  -- an entry has an address, and so 54 bytes at least; with so many the count need not be asked whether it is 0
  count-few : (c : ℕ) → l < 54 → leb 1 c && leb c 4 && eqb l (38 + 16 * c) ≡ false
  count-few zero m = refl
  count-few (suc c) m = rw (ne_eqb l (38 + 16 * suc c) (λ e. omega (arith, e))) (and_false (leb 1 (suc c) && leb (suc c) 4))

  count-many : (c : ℕ) → 54 ≤ l → c ≤ 4 → leb 1 c && leb c 4 && eqb l (38 + 16 * c) ≡ eqb l (38 + 16 * c)
  count-many zero m k = sym (ne_eqb l (38 + 16 * 0) (λ e. omega (arith, e)))
  count-many (suc c) m k = rw (le-leb 1 (suc c) (omega arith), le-leb (suc c) 4 k) refl

  pub entry-few : l < 54 → entry_form (part s l d) ≡ false
  entry-few m = go (dec_lt l 38)
    where
      go : Dec (l < 38) → entry_form (part s l d) ≡ false
      go (yes k) = entry-short k
      go (no k) = entry_in_lem (omega (arith, k)) ∙ count-few (get_or d (s + 37) 0) m

  pub entry-many : 54 ≤ l → get_or d (s + 37) 0 ≤ 4 → entry_form (part s l d) ≡ eqb l (38 + 16 * get_or d (s + 37) 0)
  entry-many m k = entry_in_lem (omega arith) ∙ count-many (get_or d (s + 37) 0) m k

  pub lookup-other : (l ≡ 8 → ⊥) → lookup_form (part s l d) ≡ false
  unfolding lookup_form
  lookup-other m = rw (length_part s l d h, ne_eqb l 8 m)

  pub lookup-in : l ≡ 8 → lookup_form (part s l d) ≡ leb (get_or d (s + 5) 0) 3 && is_criteria (get_or d (s + 4) 0)
  unfolding lookup_form
  lookup-in m = rw (length_part s l d h, eq-eqb l 8 m, part_at s l 5 d (omega arith), part_at s l 4 d (omega arith))

  pub split-other : (l ≡ 4 → ⊥) → split_form (part s l d) ≡ false
  unfolding split_form
  split-other m = rw (length_part s l d h, ne_eqb l 4 m)

  pub split-in : l ≡ 4 → split_form (part s l d) ≡ leb (number_at s 2 d) 0x91E4 && eqb (number_at (s + 2) 2 d % 1188) 0
  unfolding split_form
  split-in m = rw (length_part s l d h, eq-eqb l 4 m, number-first 2 (omega arith), number_in 2 2 (omega arith))

  module _ (element size least most : ℕ) where
    pub array-short : l < 8 → array_form element size least most (part s l d) ≡ false
    unfolding array_form
    array-short m = rw (length_part s l d h, lt-leb 8 l m)

    pub array_in : 8 ≤ l → array_form element size least most (part s l d)
        ≡ leb least (number_at s 2 d) && leb (number_at s 2 d) most && eqb (number_at (s + 2) 2 d) (8 + number_at s 2 d * size)
        && eqb (number_at (s + 4) 2 d) element && eqb (number_at (s + 6) 2 d) size && eqb l (8 + number_at s 2 d * size)
    unfolding array_form
    array_in m =
        rw (
          length_part s l d h,
          le-leb 8 l m,
          number-first 2 (omega arith),
          number_in 2 2 (omega arith),
          number_in 4 2 (omega arith),
          number_in 6 2 (omega arith),
        )
