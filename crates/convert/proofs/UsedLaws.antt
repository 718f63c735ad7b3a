-- Laws of the old form of the waiting table, as code tests it. Elsewhere: the walk over the places, whatever a record in form is, in WalkLaws of the
-- crate waiting; what the form says, in FormLaws. Assumes nothing.
use mathlib.Core.Path.{◌≡◌, refl}
use mathlib.Core.Bool.{Bool, true, false, ◌&&◌, cond}
use mathlib.Core.List.{List}
use Prim.Native.Nat.{ℕ, ◌*◌, ◌-◌}
use native.Mathlib.Omega.{arith}
use lib.ListN.{length, take, drop, length-drop}
use lib.Seq.{take_all}
use borrow.Author.Tests.{eq-eqb, ne_eqb}
use Rattle.octet.specs.Part.{all_zero}
use Rattle.own.specs.Own.{Own}
use Rattle.table.specs.Rows.{rows}
use Rattle.std.specs.Prelude.{Some, None}
use Rattle.std.specs.Bool.{then_some}
use Rattle.waiting.specs.Form.{places_by, used_of}
use Rattle.convert.specs.Old.{old_record_form, old_waiting_form}
use Rattle.convert.specs.Formed.{old_waiting_formed}

pub not_long : (own : Own) (t : List ℕ) → (length t ≡ 2240 → ⊥) → old_waiting_formed own t ≡ None
unfolding old_waiting_formed old_waiting_form
not_long own t h = rw (ne_eqb (length t) 2240 h) refl

module _ (own : Own) (t : List ℕ) (size : length t ≡ 2240) {u : ℕ} {z p : Bool} (hu : u ≡ used_of t)
    (hz : z ≡ all_zero (take (2240 - 140 * u) (drop (140 * u) t))) (hp : p ≡ places_by old_record_form own 0 (rows 140 u t)) where
  form-tests : old_waiting_form own t ≡ (z && p)
  unfolding old_waiting_form
  form-tests =
      let whole : take (2240 - 140 * u) (drop (140 * u) t) ≡ drop (140 * u) t =
      take_all (2240 - 140 * u) (drop (140 * u) t) (simp length-drop (omega arith)) in
      rw (eq-eqb (length t) 2240 size, hz, hp, whole, hu) refl

  pub formed-is : old_waiting_formed own t ≡ then_some (z && p) u
  unfolding old_waiting_formed
  formed-is = by (z && p) refl
    where
      by : (b : Bool) → (z && p) ≡ b → old_waiting_formed own t ≡ then_some b u
      by true e = rw (form-tests, e, ← hu) refl
      by false e = rw (form-tests, e) refl

-- ---- what it tells

bad_by : (b : Bool) (u : ℕ) → cond b (Some u) None ≡ None → b ≡ false
bad_by true u e = let z : ◌≡◌ {A = ℕ} 0 1 = cc in absurd (omega arith)
bad_by false u e = refl

good_by : (b : Bool) (u v : ℕ) → cond b (Some u) None ≡ Some v → (b ≡ true) × (v ≡ u)
good_by true u v e = (refl, cc)
good_by false u v e = let z : ◌≡◌ {A = ℕ} 0 1 = cc in absurd (omega arith)

pub bad_form : (own : Own) (t : List ℕ) → old_waiting_formed own t ≡ None → old_waiting_form own t ≡ false
unfolding old_waiting_formed
bad_form own t e = bad_by (old_waiting_form own t) (used_of t) e

pub good_form : (own : Own) (t : List ℕ) {u : ℕ} → old_waiting_formed own t ≡ Some u → (old_waiting_form own t ≡ true) × (u ≡ used_of t)
unfolding old_waiting_formed
good_form own t {u} e = good_by (old_waiting_form own t) (used_of t) u e
