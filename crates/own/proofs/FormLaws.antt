-- Laws of the own records' form, whatever a record in form is: as code tests it, place by place, and what it says.
-- In this order: the walk over the records; the answer; what it says. Assumes nothing.
use mathlib.Core.Path.{◌≡◌, refl, sym, ap, ◌∙◌}
use mathlib.Core.Bool.{Bool, true, false, ◌&&◌}
use mathlib.Core.List.{List, [], ◌∷◌, map}
use Prim.Native.Nat.{ℕ, suc, ◌+◌, ◌*◌, ◌/◌, ◌%◌, ◌≤◌, ◌<◌}
use native.Mathlib.Numerals.{add-one}
use native.Mathlib.Omega.{arith}
use lib.Dec.{leb, eqb}
use lib.ListN.{length, drop, length-map}
use lib.Seq.{take-take}
use borrow.Author.Tests.{eq-eqb, ne_eqb, le-leb, lt-leb, leb-true, eqb-true}
use Rattle.octet.specs.Number.{value_be}
use Rattle.octet.specs.Part.{part}
use Rattle.octet.proofs.TestLaws.{both_true}
use Rattle.key.specs.Number.{key_at}
use Rattle.record.specs.Record.{key_of, record_form}
use Rattle.table.specs.Rows.{rows}
use Rattle.table.proofs.RowLaws.{rows-length, rows_next, rows_end}
use Rattle.kept.specs.Keys.{Every, Rising, plain}
use Rattle.own.specs.Own.{own_records, own_keys, rising_by, own_by, own_form}
use Rattle.own.specs.Low.{low_at}

pub row-key : (at : ℕ) (s : List ℕ) → key_of (part at 100 s) ≡ key_at at s
row-key at s = ap (value_be 256) (take-take 32 100 (drop at s) (omega arith))

-- ---- the walk over the records

module _ (good : List ℕ → Bool) (n : ℕ) (s : List ℕ) (i : ℕ) where
  step : (b : Bool) → i < n → good (part (100 * i) 100 s) && leb (low_at s i) (key_of (part (100 * i) 100 s)) ≡ b
      → rising_by good (low_at s i) (drop i (rows 100 n s)) ≡ b && rising_by good (low_at s (i + 1)) (drop (i + 1) (rows 100 n s))
  unfolding rising_by low_at
  step b h f =
      let row : List ℕ = part (100 * i) 100 s in
      let rest : List (List ℕ) = drop (i + 1) (rows 100 n s) in
      let low : suc (key_of row) ≡ low_at s (i + 1) = ap suc (row-key (100 * i) s) ∙ ap (low_at s) (sym (add-one i)) in
      ap (rising_by good (low_at s i)) (rows_next 100 n s i h)
      ∙ ap (λ (t : Bool). t && rising_by good (suc (key_of row)) rest) f
      ∙ ap (λ (l : ℕ). b && rising_by good l rest) low

  pub rising-more : i < n → good (part (100 * i) 100 s) && leb (low_at s i) (key_of (part (100 * i) 100 s)) ≡ true
      → rising_by good (low_at s i) (drop i (rows 100 n s)) ≡ rising_by good (low_at s (i + 1)) (drop (i + 1) (rows 100 n s))
  rising-more h f = step true h f

  pub rising-stop : i < n → good (part (100 * i) 100 s) && leb (low_at s i) (key_of (part (100 * i) 100 s)) ≡ false
      → rising_by good (low_at s i) (drop i (rows 100 n s)) ≡ false
  rising-stop h f = step false h f

  pub rising-end : n ≤ i → rising_by good (low_at s i) (drop i (rows 100 n s)) ≡ true
  unfolding rising_by
  rising-end h = ap (rising_by good (low_at s i)) (rows_end 100 n s i h)

-- ---- the answer

module _ (good : List ℕ → Bool) (own : List ℕ) where
  pub not-whole : (length own % 100 ≡ 0 → ⊥) → own_by good own ≡ false
  unfolding own_by
  not-whole d = rw (ne_eqb (length own % 100) 0 d) refl

  module _ (whole : length own % 100 ≡ 0) where
    pub too_few : length own < 100 → own_by good own ≡ false
    unfolding own_by
    too_few h = rw (eq-eqb (length own % 100) 0 whole, lt-leb 100 (length own) h) refl

    module _ (least : 100 ≤ length own) where
      pub too_many : 400 < length own → own_by good own ≡ false
      unfolding own_by
      too_many h = rw (eq-eqb (length own % 100) 0 whole, le-leb 100 (length own) least, lt-leb (length own) 400 h) refl

      pub by-records : length own ≤ 400 → own_by good own ≡ rising_by good 0 (own_records own)
      unfolding own_by
      by-records h = rw (eq-eqb (length own % 100) 0 whole, le-leb 100 (length own) least, le-leb (length own) 400 h) refl

-- ---- what it says

-- one to four records in form, keys rising
pub record OwnFormed (good : List ℕ → Bool) (own : List ℕ) : Type 0 where
  pub many : length own ≡ 100 * (length own / 100)
  pub least : 1 ≤ length own / 100
  pub most : length own / 100 ≤ 4
  pub formed : Every (λ (r : List ℕ). good r ≡ true) (own_records own)
  pub rising : Rising plain 0 (own_keys own)

rising_formed : (good : List ℕ → Bool) (low : ℕ) (rs : List (List ℕ)) → rising_by good low rs ≡ true → Every (λ (r : List ℕ). good r ≡ true) rs
unfolding rising_by
rising_formed good low [] e = tt
rising_formed good low (r ∷ rs) e =
    let a = both_true (good r && leb low (key_of r)) (rising_by good (suc (key_of r)) rs) e in
    ((both_true (good r) (leb low (key_of r)) a.0).0, rising_formed good (suc (key_of r)) rs a.1)

rising_keys : (good : List ℕ → Bool) (low : ℕ) (rs : List (List ℕ)) → rising_by good low rs ≡ true → Rising plain low (map key_of rs)
unfolding rising_by
rising_keys good low [] e = tt
rising_keys good low (r ∷ rs) e =
    let a = both_true (good r && leb low (key_of r)) (rising_by good (suc (key_of r)) rs) e in
    (leb-true low (key_of r) (both_true (good r) (leb low (key_of r)) a.0).1, rising_keys good (suc (key_of r)) rs a.1)

pub own_told : (good : List ℕ → Bool) (own : List ℕ) → own_by good own ≡ true → OwnFormed good own
unfolding own_by
own_told good own e =
    let a = both_true (eqb (length own % 100) 0 && leb 100 (length own) && leb (length own) 400) (rising_by good 0 (own_records own)) e in
    let b = both_true (eqb (length own % 100) 0 && leb 100 (length own)) (leb (length own) 400) a.0 in
    let c = both_true (eqb (length own % 100) 0) (leb 100 (length own)) b.0 in
    let w = eqb-true (length own % 100) 0 c.0 in
    let l = leb-true 100 (length own) c.1 in
    let m = leb-true (length own) 400 b.1 in
    record {
      many = omega (arith, w);
      least = omega (arith, w, l);
      most = omega (arith, m);
      formed = rising_formed good 0 (own_records own) a.1;
      rising = rising_keys good 0 (own_records own) a.1;
    }

pub own_formed : (own : List ℕ) → own_form own ≡ true → OwnFormed record_form own
own_formed own e = own_told record_form own e

-- how many keys there are
pub keys_many : (own : List ℕ) → length (own_keys own) ≡ length own / 100
keys_many own = length-map (own_records own) key_of ∙ rows-length 100 (length own / 100) own

pub own_some : (own : List ℕ) → own_form own ≡ true → 0 < length (own_keys own)
own_some own e = omega (arith, keys_many own, (own_formed own e).least)

pub own_long : (own : List ℕ) → own_form own ≡ true → 32 ≤ length own
own_long own e = omega (arith, (own_formed own e).many, (own_formed own e).least)
