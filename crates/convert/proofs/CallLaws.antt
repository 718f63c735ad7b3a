-- The conversion by its tests. Assumes nothing.
use mathlib.Core.Path.{◌≡◌, refl}
use mathlib.Core.Bool.{true, false, ◌&&◌}
use mathlib.Core.List.{List}
use Prim.Native.Nat.{ℕ, ◌*◌, ◌%◌}
use native.Mathlib.Omega.{arith}
use lib.Dec.{eqb, leb}
use lib.ListN.{length, drop}
use borrow.Author.Tests.{eqb-true, leb-true}
use Rattle.octet.specs.Part.{all_zero}
use Rattle.octet.proofs.TestLaws.{both_true}
use Rattle.refusal.specs.Table.{or_refuse}
use Rattle.own.specs.Own.{Own, own_keys}
use Rattle.table.specs.Rows.{Laid}
use Rattle.cache.specs.Form.{Places}
use Rattle.waiting.specs.Form.{used_of, places_of, places_by}
use Rattle.waiting.proofs.FormLaws.{used_few}
use Rattle.convert.specs.Old.{old_record_form, old_own_form, old_held_in, old_cache_form, old_waiting_form}
use Rattle.convert.specs.Convert.{convert_handed, convert_wrong, convert_done, convert_call}
use Rattle.convert.proofs.HeldLaws.{held_most}

module _ (own cache t : List ℕ) where
  pub own-bad : old_own_form own ≡ false → convert_call own cache t ≡ convert_handed 1 cache t
  unfolding convert_call convert_wrong or_refuse
  own-bad e = rw e refl

  module _ (whole : old_own_form own ≡ true) where
    pub cache-bad : old_cache_form (own_keys own) cache ≡ false → convert_call own cache t ≡ convert_handed 1 cache t
    unfolding convert_call convert_wrong or_refuse
    cache-bad e = rw (whole, e) refl

    module _ (held : old_cache_form (own_keys own) cache ≡ true) where
      pub table-bad : old_waiting_form (own_keys own) t ≡ false → convert_call own cache t ≡ convert_handed 1 cache t
      unfolding convert_call convert_wrong or_refuse
      table-bad e = rw (whole, held, e) refl

      pub converts : old_waiting_form (own_keys own) t ≡ true → convert_call own cache t ≡ convert_done own cache t
      unfolding convert_call convert_wrong or_refuse
      converts e = rw (whole, held, e) refl

-- memory in the old form is laid out in its records, and in its places
module _ (own : Own) (s : List ℕ) (e : old_cache_form own s ≡ true) where
  cache-told : Places own (length s) × (all_zero (drop (100 * old_held_in own s) s) ≡ true)
  unfolding old_cache_form
  cache-told =
      let a = both_true (eqb (length s % 100) 0 && leb 1000 (length s) && leb (length s) 25600 && leb (1000 * length own) (length s)) _ e in
      let d = both_true (eqb (length s % 100) 0 && leb 1000 (length s) && leb (length s) 25600) _ a.0 in
      let b = both_true (eqb (length s % 100) 0 && leb 1000 (length s)) _ d.0 in
      let c = both_true (eqb (length s % 100) 0) _ b.0 in (
        record {
          whole = eqb-true (length s % 100) 0 c.0;
          least = leb-true 1000 (length s) c.1;
          most = leb-true (length s) 25600 b.1;
          enough = leb-true (1000 * length own) (length s) d.1;
        },
        a.1,
      )

  pub cache-places : Places own (length s)
  cache-places = cache-told.0

  pub cache-laid : Laid 100 (old_held_in own s) s
  cache-laid = record { room = omega (arith, held_most own s, cache-places.whole); clear = cache-told.1 }

module _ (own : Own) (t : List ℕ) (e : old_waiting_form own t ≡ true) where
  outer : (eqb (length t) 2240 && all_zero (drop (140 * used_of t) t) ≡ true) × (places_by old_record_form own 0 (places_of t) ≡ true)
  unfolding old_waiting_form
  outer = both_true (eqb (length t) 2240 && all_zero (drop (140 * used_of t) t)) (places_by old_record_form own 0 (places_of t)) e

  inner : (eqb (length t) 2240 ≡ true) × (all_zero (drop (140 * used_of t) t) ≡ true)
  inner = both_true (eqb (length t) 2240) (all_zero (drop (140 * used_of t) t)) outer.0

  pub table-size : length t ≡ 2240
  table-size = eqb-true (length t) 2240 inner.0

  pub table-laid : Laid 140 (used_of t) t
  table-laid = record { room = omega (arith, table-size, used_few t); clear = inner.1 }

  pub table-places : places_by old_record_form own 0 (places_of t) ≡ true
  table-places = outer.1
