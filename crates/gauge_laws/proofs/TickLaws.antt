-- What an accepted tick leaves. Assumes nothing.
use mathlib.Core.Path.{◌≡◌, sym, ap, ◌∙◌}
use mathlib.Core.Bool.{true}
use mathlib.Core.List.{List}
use Prim.Native.Nat.{ℕ}
use borrow.Author.Tests.{not-false}
use Rattle.own.specs.Own.{Own, own_keys}
use Rattle.refusal.proofs.CallLaws.{all_pass}
use Rattle.table.specs.Rows.{bytes_of}
use Rattle.waiting.specs.Form.{PlacesForm, waiting_form, places_of}
use Rattle.waiting.specs.Ticking.{ticked}
use Rattle.waiting_form.specs.Call.{tick_done}
use Rattle.waiting.proofs.FormLaws.{form_of, form_unique}
use Rattle.waiting.proofs.KeptLaws.{tick-kept}
use Rattle.gauge_plan.specs.Lent.{Memory, Tick, ticks}
use Rattle.gauge_plan.proofs.MemoryLaws.{tick_fit_lent}
use Rattle.gauge_commit.specs.Sending.{answer, Handed, handed}
use Rattle.gauge.specs.Counts.{tick_answered, tick_table, gauge_tick}
use Rattle.gauge.specs.Ours.{ours}
use Rattle.gauge_laws.proofs.TableLaws.{none_applies}

-- the table was in form, and its places are those ticked
pub record Round (t t' : List ℕ) : Type 0 where
  pub own : Own
  pub form : PlacesForm own t (places_of t)
  pub places : places_of t' ≡ ticked (places_of t)

pub tick_done_lem : (m : Memory) (l : Tick) → (gauge_tick m l).answer.number ≡ 0
    → (waiting_form (own_keys l.own) m.waiting ≡ true) × ((gauge_tick m l).memory.waiting ≡ bytes_of 2240 (ticked (places_of m.waiting)))
unfolding gauge_tick tick_done
tick_done_lem m l z =
    let none = none_applies m (ticks l) z in (
      (tick_fit_lent m l (not-false _ none.0)).waiting,
      ap (λ (h : Handed). h.memory.waiting) (all_pass (λ (k : ℕ). handed (answer k 0 0) m l.output) (tick_table m l)
          (tick_answered m (tick_done m.waiting l.output)) none),
    )

pub tick_round : (m : Memory) (l : Tick) → (gauge_tick m l).answer.number ≡ 0 → Round m.waiting (gauge_tick m l).memory.waiting
tick_round m l z =
    let k = own_keys l.own in
    let t = m.waiting in
    let done = tick_done_lem m l z in
    let f = form_of k t done.0 in
    let g = tick-kept k t (places_of t) f in
    record { own = k; form = f; places = ap places_of done.1 ∙ sym (form_unique k _ (ticked (places_of t)) g) }
