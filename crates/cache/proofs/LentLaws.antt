-- The tests that every call makes, and what they say of its table of refusals. Assumes nothing.
use mathlib.Core.Path.{◌≡◌, refl, sym, ◌∙◌}
use mathlib.Core.Bool.{Bool, true, false, not, cond}
use mathlib.Core.List.{List}
use Prim.Native.Nat.{ℕ}
use native.Mathlib.Omega.{arith}
use Rattle.refusal.specs.Table.{Refusal, or_refuse}
use Rattle.refusal.proofs.CallLaws.{row_applies, row_passes}
use Rattle.own.specs.Own.{own_form, own_keys}
use Rattle.table.specs.Rows.{rows}
use Rattle.std.specs.Prelude.{Option, Some, None}
use Rattle.cache.specs.Form.{Form, cache_form}
use Rattle.cache.specs.Place.{cache_formed}
use Rattle.cache.specs.Calls.{memory_wrong, held_by}
use Rattle.cache.proofs.ShapeLaws.{good-is, good-held, good_form, bad-is}

pub not_is : {b : Bool} → b ≡ true → not b ≡ false
not_is {b} e = rw e refl

pub not_isn't : {b : Bool} → b ≡ false → not b ≡ true
not_isn't {b} e = rw e refl

-- what the test of memory tells where it is good
record Good-memory (own cache : List ℕ) (used : ℕ) : Type 0 where
  pub formed : own_form own ≡ true
  pub form : cache_formed (own_keys own) cache ≡ Some used

tells : (own cache : List ℕ) (used : ℕ) (b : Bool) → own_form own ≡ b → cond b (cache_formed (own_keys own) cache) None ≡ Some used → Good-memory own cache used
tells own cache used true e g = record { formed = e; form = g }
tells own cache used false e g = let z : ◌≡◌ {A = ℕ} 0 1 = cc in absurd (omega arith)

module _ (own cache : List ℕ) {m : Option ℕ} (is : m ≡ cond (own_form own) (cache_formed (own_keys own) cache) None) where
  module _ {used : ℕ} (good : m ≡ Some used) where
    both : Good-memory own cache used
    both = tells own cache used (own_form own) refl (sym is ∙ good)

    pub memory-own : own_form own ≡ true
    memory-own = both.formed

    pub memory-form : Form (own_keys own) cache (rows 100 used cache)
    memory-form = good_form (own_keys own) cache both.form

    pub memory-held : held_by own cache ≡ rows 100 used cache
    memory-held = good-held (own_keys own) cache both.form

    pub memory-passes : {A : Type 0} (refuse : ℕ → A) (more : List Refusal) (done : A)
        → or_refuse refuse (memory_wrong own cache more) done ≡ or_refuse refuse more done
    memory-passes refuse more done =
        row_passes refuse 1 (not (own_form own)) _ done (not_is both.formed)
        ∙ row_passes refuse 1 (not (cache_form (own_keys own) cache)) more done (not_is (good-is (own_keys own) cache both.form).0)

  pub memory-refuses : m ≡ None → {A : Type 0} (refuse : ℕ → A) (more : List Refusal) (done : A) → or_refuse refuse (memory_wrong own cache more) done ≡ refuse 1
  memory-refuses bad refuse more done = by-case (own_form own) refl
    where
      later : own_form own ≡ true → cache_form (own_keys own) cache ≡ false
      later e = bad-is (own_keys own) cache (sym (rw e refl) ∙ sym is ∙ bad)

      by-case : (b : Bool) → own_form own ≡ b → or_refuse refuse (memory_wrong own cache more) done ≡ refuse 1
      by-case false e = row_applies refuse 1 (not (own_form own)) _ done (not_isn't e)
      by-case true e =
          row_passes refuse 1 (not (own_form own)) _ done (not_is e)
          ∙ row_applies refuse 1 (not (cache_form (own_keys own) cache)) more done (not_isn't (later e))
