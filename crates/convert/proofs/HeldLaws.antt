-- Laws of the old form of the cache, as code tests it. Elsewhere: the walk over the places, whatever a record in form is, in ShapeLaws of the crate
-- cache; what the form says, in FormLaws. Assumes nothing.
use mathlib.Core.Path.{◌≡◌, refl}
use mathlib.Core.List.{List}
use mathlib.Core.Bool.{Bool, true, false, cond}
use Prim.Native.Nat.{ℕ, ◌*◌, ◌%◌, ◌≤◌, ◌<◌}
use native.Mathlib.Omega.{arith}
use lib.ListN.{length, drop}
use borrow.Author.Tests.{eq-eqb, ne_eqb, le-leb, lt-leb}
use Rattle.octet.specs.Part.{all_zero}
use Rattle.own.specs.Own.{Own}
use Rattle.table.specs.Rows.{rows}
use Rattle.table.proofs.RowLaws.{rows-length}
use Rattle.std.specs.Prelude.{Some, None}
use Rattle.cache.specs.Form.{leading, places_in}
use Rattle.cache.proofs.FormLaws.{leading_most}
use Rattle.convert.specs.Old.{old_record_form, old_held_in, old_cache_form}
use Rattle.convert.specs.Formed.{old_cache_formed}

pub held_most : (own : Own) (s : List ℕ) → old_held_in own s ≤ places_in (length s)
unfolding old_held_in
held_most own s =
    omega (arith, leading_most old_record_form own 0 (rows 100 (places_in (length s)) s), rows-length 100 (places_in (length s)) s)

module _ (own : Own) (s : List ℕ) where
  pub not-whole : (length s % 100 ≡ 0 → ⊥) → old_cache_formed own s ≡ None
  unfolding old_cache_formed old_cache_form
  not-whole d = rw (ne_eqb (length s % 100) 0 d) refl

  module _ (whole : length s % 100 ≡ 0) where
    pub too_small : length s < 1000 → old_cache_formed own s ≡ None
    unfolding old_cache_formed old_cache_form
    too_small h = rw (eq-eqb (length s % 100) 0 whole, lt-leb 1000 (length s) h) refl

    module _ (least : 1000 ≤ length s) where
      pub too_large : 25600 < length s → old_cache_formed own s ≡ None
      unfolding old_cache_formed old_cache_form
      too_large h = rw (eq-eqb (length s % 100) 0 whole, le-leb 1000 (length s) least, lt-leb (length s) 25600 h) refl

      pub too_few : length s ≤ 25600 → length s < 1000 * length own → old_cache_formed own s ≡ None
      unfolding old_cache_formed old_cache_form
      too_few m h =
          rw (eq-eqb (length s % 100) 0 whole, le-leb 1000 (length s) least, le-leb (length s) 25600 m, lt-leb (1000 * length own) (length s) h) refl

      pub by-rest : (used : ℕ) (b : Bool) → length s ≤ 25600 → 1000 * length own ≤ length s → used ≡ leading old_record_form own 0 (rows 100 (places_in (length s)) s)
          → b ≡ all_zero (drop (100 * used) s) → old_cache_formed own s ≡ cond b (Some used) None
      unfolding old_cache_formed old_cache_form old_held_in
      by-rest used b most enough is z =
          rw (
            eq-eqb (length s % 100) 0 whole,
            le-leb 1000 (length s) least,
            le-leb (length s) 25600 most,
            le-leb (1000 * length own) (length s) enough,
            z,
            is,
          ) refl

  tells : (b : Bool) (n m : ℕ) → cond b (Some n) None ≡ Some m → (b ≡ true) × (n ≡ m)
  tells true n m e = (refl, cc)
  tells false n m e = let z : ◌≡◌ {A = ℕ} 0 1 = cc in absurd (omega arith)

  tells-bad : (b : Bool) (n : ℕ) → cond b (Some n) None ≡ None → b ≡ false
  tells-bad true n e = let z : ◌≡◌ {A = ℕ} 0 1 = cc in absurd (omega arith)
  tells-bad false n e = refl

  -- what it tells
  pub good-is : {used : ℕ} → old_cache_formed own s ≡ Some used → (old_cache_form own s ≡ true) × (old_held_in own s ≡ used)
  unfolding old_cache_formed
  good-is {used} e = tells (old_cache_form own s) (old_held_in own s) used e

  pub bad-is : old_cache_formed own s ≡ None → old_cache_form own s ≡ false
  unfolding old_cache_formed
  bad-is e = tells-bad (old_cache_form own s) (old_held_in own s) e
