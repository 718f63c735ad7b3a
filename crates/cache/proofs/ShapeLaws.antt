-- Laws of the test of the form as code makes it: place by place, then by the size and by what follows the records.
-- In this order: what a place's key has to be at least; the loop over the places; the answer. Assumes nothing.
use mathlib.Core.Path.{◌≡◌, refl, ap, ◌∙◌, subst}
use mathlib.Core.List.{List}
use mathlib.Core.Bool.{Bool, true, false, cond}
use Prim.Native.Nat.{ℕ, zero, suc, ◌+◌, ◌-◌, ◌*◌, ◌%◌, ◌≤◌, ◌<◌}
use native.Mathlib.Numerals.{add-one}
use native.Mathlib.Omega.{arith}
use lib.Dec.{leb, ltb}
use lib.ListN.{length, drop}
use borrow.Author.Tests.{eq-eqb, ne_eqb, le-leb, lt-leb}
use mathlib.Core.Path.{sym}
use Rattle.octet.specs.Number.{Digits, value_be}
use Rattle.octet.specs.Part.{part, all_zero}
use Rattle.key.proofs.OrderLaws.{test_less}
use Rattle.key.specs.Number.{key_at}
use Rattle.record.specs.Record.{key_of, record_form}
use Rattle.own.specs.Own.{Own}
use Rattle.own.specs.Low.{low_at}
use Rattle.own.proofs.LowLaws.{low_first, low_next}
use Rattle.table.specs.Rows.{rows}
use Rattle.table.proofs.RowLaws.{rows_next, rows_end}
use Rattle.search.proofs.SeekLaws.{first-less}
use Rattle.std.specs.Prelude.{Some, None}
use Rattle.cache.specs.Form.{Form, follows, leading, held_in, held_of, cache_form, places_in}
use Rattle.cache.specs.Place.{cache_formed, Carried}
use Rattle.cache.proofs.FormLaws.{key_of-row, true_form}

-- ---- what the key of a place has to be at least

-- by the key before it
pub low_by : (s : List ℕ) (i k : ℕ) → ltb (key_at (100 * (i - 1)) s) k ≡ true → true ≡ leb (low_at s i) k
low_by s zero k t = sym (low_first s 0 k refl)
low_by s (suc i) k t = sym (low_next s (suc i) k (λ e. omega arith) ∙ t)

-- by the first words
pub low_words : (s : List ℕ) (i last : ℕ) → Digits 256 s → 100 * i + 100 ≤ length s → Carried s i last → last < value_be 256 (part (100 * i) 8 s)
    → true ≡ leb (low_at s i) (key_at (100 * i) s)
low_words s zero last d h is l = sym (low_first s 0 (key_at 0 s) refl)
low_words s (suc i) last d h is l =
    let p : 100 * (suc i - 1) ≡ 100 * i = omega arith in
    low_by s (suc i) (key_at (100 * suc i) s)
    (ap (λ (n : ℕ). ltb (key_at n s) (key_at (100 * suc i) s)) p
    ∙ (test_less (key_at (100 * i) s) (key_at (100 * suc i) s) (first-less (100 * i) (100 * suc i) s s d d (omega arith) (omega arith)
    (omega (arith, is)))).0)

pub carried_next : (s : List ℕ) (i last : ℕ) → last ≡ value_be 256 (part (100 * i) 8 s) → Carried s (i + 1) last
carried_next s i last e = subst (λ (n : ℕ). Carried s n last) (sym (add-one i)) e

-- ---- the loop that counts the places in order

module _ (good : List ℕ → Bool) (own : Own) (n : ℕ) (s : List ℕ) (i : ℕ) where
  step : (b : Bool) → i < n → follows good own (low_at s i) (part (100 * i) 100 s) ≡ b
      → leading good own (low_at s i) (drop i (rows 100 n s)) ≡ cond b (suc (leading good own (low_at s (i + 1)) (drop (i + 1) (rows 100 n s)))) 0
  unfolding leading low_at
  step b h f =
      let row : List ℕ = part (100 * i) 100 s in
      let rest : List (List ℕ) = drop (i + 1) (rows 100 n s) in
      let low : suc (key_of row) ≡ low_at s (i + 1) = ap suc (key_of-row (100 * i) s) ∙ ap (low_at s) (sym (add-one i)) in
      ap (leading good own (low_at s i)) (rows_next 100 n s i h)
      ∙ ap (λ (t : Bool). cond t (suc (leading good own (suc (key_of row)) rest)) 0) f
      ∙ ap (λ (l : ℕ). cond b (suc (leading good own l rest)) 0) low

  pub count-more : i < n → follows good own (low_at s i) (part (100 * i) 100 s) ≡ true
      → i + leading good own (low_at s i) (drop i (rows 100 n s)) ≡ i + 1 + leading good own (low_at s (i + 1)) (drop (i + 1) (rows 100 n s))
  count-more h f = omega (arith, step true h f)

  pub count-stop : i < n → follows good own (low_at s i) (part (100 * i) 100 s) ≡ false → i + leading good own (low_at s i) (drop i (rows 100 n s)) ≡ i
  count-stop h f = omega (arith, step false h f)

  pub count-end : n ≤ i → i + leading good own (low_at s i) (drop i (rows 100 n s)) ≡ i
  unfolding leading
  count-end h =
      let a : leading good own (low_at s i) (drop i (rows 100 n s)) ≡ 0 = ap (leading good own (low_at s i)) (rows_end 100 n s i h) in
      omega arith

-- ---- the answer

module _ (own : Own) (s : List ℕ) where
  pub not-whole : (length s % 100 ≡ 0 → ⊥) → cache_formed own s ≡ None
  unfolding cache_formed cache_form
  not-whole d = rw (ne_eqb (length s % 100) 0 d) refl

  module _ (whole : length s % 100 ≡ 0) where
    pub too_small : length s < 1000 → cache_formed own s ≡ None
    unfolding cache_formed cache_form
    too_small h = rw (eq-eqb (length s % 100) 0 whole, lt-leb 1000 (length s) h) refl

    module _ (least : 1000 ≤ length s) where
      pub too_large : 25600 < length s → cache_formed own s ≡ None
      unfolding cache_formed cache_form
      too_large h = rw (eq-eqb (length s % 100) 0 whole, le-leb 1000 (length s) least, lt-leb (length s) 25600 h) refl

      pub too_few : length s ≤ 25600 → length s < 1000 * length own → cache_formed own s ≡ None
      unfolding cache_formed cache_form
      too_few m h =
          rw (eq-eqb (length s % 100) 0 whole, le-leb 1000 (length s) least, le-leb (length s) 25600 m, lt-leb (1000 * length own) (length s) h) refl

      pub by-rest : (used : ℕ) (b : Bool) → length s ≤ 25600 → 1000 * length own ≤ length s → used ≡ leading record_form own 0 (rows 100 (places_in (length s)) s)
          → b ≡ all_zero (drop (100 * used) s) → cache_formed own s ≡ cond b (Some used) None
      unfolding cache_formed cache_form held_in
      by-rest used b most enough is z =
          rw (
            eq-eqb (length s % 100) 0 whole,
            le-leb 1000 (length s) least,
            le-leb (length s) 25600 most,
            le-leb (1000 * length own) (length s) enough,
            z,
            is,
          ) refl

  tells : (b : Bool) (n m : ℕ) → cond b (Some n) None ≡ Some m → (b ≡ true) × (n ≡ m)
  tells true n m e = (refl, cc)
  tells false n m e = let z : ◌≡◌ {A = ℕ} 0 1 = cc in absurd (omega arith)

  tells-bad : (b : Bool) (n : ℕ) → cond b (Some n) None ≡ None → b ≡ false
  tells-bad true n e = let z : ◌≡◌ {A = ℕ} 0 1 = cc in absurd (omega arith)
  tells-bad false n e = refl

  -- what it tells
  pub good-is : {used : ℕ} → cache_formed own s ≡ Some used → (cache_form own s ≡ true) × (held_in own s ≡ used)
  unfolding cache_formed
  good-is {used} e = tells (cache_form own s) (held_in own s) used e

  pub bad-is : cache_formed own s ≡ None → cache_form own s ≡ false
  unfolding cache_formed
  bad-is e = tells-bad (cache_form own s) (held_in own s) e

  pub good-held : {used : ℕ} → cache_formed own s ≡ Some used → held_of own s ≡ rows 100 used s
  unfolding held_of
  good-held e = ap (λ (n : ℕ). rows 100 n s) (good-is e).1

  pub good_form : {used : ℕ} → cache_formed own s ≡ Some used → Form own s (rows 100 used s)
  good_form e = rw (good-held e) at (true_form own s (good-is e).0)
