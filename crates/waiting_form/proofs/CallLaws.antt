-- The tick on untested memory, by its tests; an accepted one leaves the table in form; its numbers are given exactly when they apply.
-- Assumes nothing.
use mathlib.Core.Path.{◌≡◌, refl, sym, ◌∙◌}
use mathlib.Core.Logic.{◌↔◌}
use mathlib.Core.Bool.{true, false}
use mathlib.Core.List.{List}
use Prim.Native.Nat.{ℕ, ◌≤◌, ◌<◌}
use native.Mathlib.Omega.{arith}
use lib.ListN.{length}
use borrow.Author.Tests.{lt-ltb, le-ltb, not-false}
use Rattle.octet.proofs.TestLaws.{both_true}
use Rattle.refusal.specs.Table.{or_refuse, applies_in, by_number}
use Rattle.refusal.proofs.TableLaws.{all_fail}
use Rattle.refusal.proofs.CallLaws.{call-exactly, refusal-keeps, number_is, or_known}
use Rattle.own.specs.Own.{own_keys, own_form}
use Rattle.waiting.specs.Form.{waiting_form, places_of}
use Rattle.waiting_form.specs.Call.{Ticked, tick_handed, tick_refusals, tick_done, tick_call}
use Rattle.waiting.proofs.FormLaws.{form_of, form_test}
use Rattle.waiting.specs.Ticking.{ticked}
use Rattle.waiting.proofs.KeptLaws.{tick-kept}

module _ (own t o : List ℕ) where
  pub own-bad : own_form own ≡ false → tick_call own t o ≡ tick_handed 1 0 t o
  unfolding tick_call tick_refusals or_refuse
  own-bad e = rw e refl

  module _ (whole : own_form own ≡ true) where
    pub table-bad : waiting_form (own_keys own) t ≡ false → tick_call own t o ≡ tick_handed 1 0 t o
    unfolding tick_call tick_refusals or_refuse
    table-bad e = rw (whole, e) refl

    pub no_room : waiting_form (own_keys own) t ≡ true → length o < 64 → tick_call own t o ≡ tick_handed 15 0 t o
    unfolding tick_call tick_refusals or_refuse
    no_room e h = rw (whole, e, lt-ltb (length o) 64 h) refl

    pub ticks : waiting_form (own_keys own) t ≡ true → 64 ≤ length o → tick_call own t o ≡ tick_done t o
    unfolding tick_call tick_refusals or_refuse
    ticks e h = rw (whole, e, le-ltb (length o) 64 h) refl

  -- a number is given exactly when it applies and no lower one does
  pub tick-exactly : (n : ℕ) → 0 < n
      → ((tick_call own t o).number ≡ n)
      ↔ ((applies_in n (tick_refusals own t o) ≡ true) × ((m : ℕ) → m < n → applies_in m (tick_refusals own t o) ≡ false))
  unfolding tick_call tick_refusals tick_done
  tick-exactly n p =
      call-exactly (λ (r : Ticked). r.number) (λ (k : ℕ). tick_handed k 0 t o) (λ k. refl) (tick_done t o) refl (tick_refusals own t o) 1
      (omega arith, omega arith, (omega arith, omega arith, tt)) n p

  -- a refused one leaves table and output as they were
  pub tick_refused : 0 < (tick_call own t o).number → ((tick_call own t o).table ≡ t) × ((tick_call own t o).output ≡ o)
  unfolding tick_call tick_done
  tick_refused p = (
    refusal-keeps (λ (r : Ticked). r.number) (λ (k : ℕ). tick_handed k 0 t o) (λ k. refl) (tick_done t o) refl (λ (r : Ticked). r.table) t (λ k. refl)
        (tick_refusals own t o) p,
    refusal-keeps (λ (r : Ticked). r.number) (λ (k : ℕ). tick_handed k 0 t o) (λ k. refl) (tick_done t o) refl (λ (r : Ticked). r.output) o (λ k. refl)
        (tick_refusals own t o) p,
  )

  -- a table in form stays in form, whatever is given
  pub tick-stays : waiting_form (own_keys own) t ≡ true → waiting_form (own_keys own) (tick_call own t o).table ≡ true
  unfolding tick_call tick_done
  tick-stays e =
      or_known (λ (r : Ticked). waiting_form (own_keys own) r.table ≡ true) (λ (k : ℕ). tick_handed k 0 t o) (tick_refusals own t o) (tick_done t o)
      (λ k. e) (λ f. form_test (own_keys own) _ (ticked (places_of t)) (tick-kept (own_keys own) t (places_of t) (form_of (own_keys own) t e)))

  -- and an accepted tick was lent one in form, so it leaves one
  pub tick-leaves : (tick_call own t o).number ≡ 0 → waiting_form (own_keys own) (tick_call own t o).table ≡ true
  unfolding tick_call tick_done tick_refusals
  tick-leaves z =
      let none = all_fail by_number (tick_refusals own t o) 1 (omega arith, omega arith, (omega arith, omega arith, tt))
      (sym (number_is (λ (r : Ticked). r.number) (λ (k : ℕ). tick_handed k 0 t o) (λ k. refl) (tick_done t o) refl (tick_refusals own t o)) ∙ z) in
      tick-stays (both_true (own_form own) (waiting_form (own_keys own) t) (not-false _ none.0)).1
