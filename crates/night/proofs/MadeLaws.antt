-- The replay is the calls made one by one. In this order: a call's number ends no night; a good record, by its place; the records behind the
-- first; all of them. Assumes nothing.
use mathlib.Core.Path.{◌≡◌, refl, sym, ap, ap₂, subst, ◌∙◌}
use mathlib.Core.Bool.{Bool, true, false, not, cond, ◌&&◌}
use mathlib.Core.List.{List, [], ◌∷◌, ◌++◌}
use Prim.Native.Nat.{ℕ, ◌+◌, ◌<◌}
use native.Mathlib.Omega.{arith}
use lib.Dec.{eqb}
use lib.ListN.{length, length-replicate}
use borrow.Author.Tests.{eq-eqb, ne_eqb, eqb-true, eqb-false}
use Rattle.refusal.specs.Table.{Refusal, first_of, order}
use Rattle.kept.specs.Keys.{Every, ◌∈◌}
use Rattle.kept.proofs.ListLaws.{every_at}
use Rattle.gauge_laws.specs.Table.{table_of}
use Rattle.gauge_laws.proofs.TableLaws.{call_number, refusal_numbers}
use Rattle.gauge_plan.specs.Lent.{Memory, empty, Call}
use Rattle.gauge.specs.Words.{left, log}
use Rattle.gauge.specs.Ours.{ours}
use Rattle.trace.specs.Trace.{kind_of, body_of, body_fits}
use Rattle.trace.specs.Fault.{faults, is_good, ends}
use Rattle.night.specs.Step.{Night, night, start, Stepped, stepped, called, call_of, step_of}
use Rattle.night.specs.Replay.{Line, line, line_of, replayed, behind, Replayed, at_end, replay_from}
use Rattle.night.specs.Statements.{calls_behind, calls_of, opening_of, numbered, stop_of, OneByOne, AllGood, Stops}
use Rattle.trace.proofs.FaultLaws.{first_is, good-record, bad-ends, first-opens, later-calls, fits_4}
use Rattle.night.proofs.StepLaws.{step-bad, step-good, taken-opens, taken-calls}
use Rattle.night.proofs.ReplayLaws.{at_end_lem, goes_on, ends_there}

-- ---- a call's number

-- no number of the order ends a night
goes_on_with : (n : ℕ) → n ∈ order → ends n ≡ false
goes_on_with n i = every_at (λ (k : ℕ). ends k ≡ false) n order
    (refl, (refl, (refl, (refl, (refl, (refl, (refl, (refl, (refl, (refl, (refl, (refl, (refl, (refl, (refl, tt))))))))))))))) i

each_goes : (rs : List Refusal) → Every (λ (r : Refusal). r.number ∈ order) rs → Every (λ (r : Refusal). ends r.number ≡ false) rs
each_goes [] e = tt
each_goes (r ∷ rs) e = (goes_on_with r.number e.0, each_goes rs e.1)

pub goes : (m : Memory) (c : Call) → ends (ours m c).answer.number ≡ false
goes m c =
    subst (λ (n : ℕ). ends n ≡ false) (sym (call_number m c))
    (first_is (λ (n : ℕ). ends n ≡ false) (table_of m c) refl (each_goes (table_of m c) (refusal_numbers m c)))

neither : (a b : Bool) → (a ≡ true → b ≡ true → ⊥) → a && b ≡ false
neither true true u = absurd (u refl refl)
neither true false u = refl
neither false b u = refl

-- ---- a record, good or bad

module _ (at : ℕ) (r : List ℕ) where
  pub good-zero : is_good at r ≡ true → first_of (faults at r) ≡ 0
  good-zero e = eqb-true (first_of (faults at r)) 0 e

  pub bad-some : is_good at r ≡ false → 0 < first_of (faults at r)
  bad-some e = omega (arith, eqb-false (first_of (faults at r)) 0 e)

  stopped : is_good at r ≡ false → ends (first_of (faults at r)) ≡ true
  stopped e = bad-ends at r (bad-some e)

  -- a record has a line, but for the first where it is good
  has-line : (answer : ℕ) → (at ≡ 0 → answer ≡ 0 → ⊥) → line_of at answer ≡ line at answer ∷ []
  has-line answer u =
      ap (λ (b : Bool). cond b [] (line at answer ∷ [])) (neither (eqb at 0) (eqb answer 0) (λ p q. u (eqb-true at 0 p) (eqb-true answer 0 q)))

module _ (at : ℕ) (r : List ℕ) (rs : List (List ℕ)) where
  pub stop-good : is_good at r ≡ true → stop_of at (r ∷ rs) ≡ stop_of (at + 1) rs
  unfolding stop_of
  stop-good e = rw e refl

  pub stop-bad : is_good at r ≡ false → stop_of at (r ∷ rs) ≡ line at (first_of (faults at r)) ∷ []
  unfolding stop_of
  stop-bad e = rw e refl

-- ---- the records behind the first

module _ (o : List ℕ) (fit : length o ≡ 102) where
  -- a bad one ends it
  bad-behind : (at : ℕ) (m : Memory) (r : List ℕ) (rs : List (List ℕ)) → is_good at r ≡ false
      → replay_from at (night o m) (r ∷ rs) ≡ replayed (line at (first_of (faults at r)) ∷ []) (night o m)
  bad-behind at m r rs e =
      let s = step-bad at (night o m) r fit (bad-some at r e) in
      ends_there at (night o m) r rs (ap (λ (x : Stepped). ends x.answer) s ∙ stopped at r e)
      ∙ ap (λ (x : Stepped). replayed (line_of at x.answer) x.night) s
      ∙ ap (λ (ls : List Line). replayed ls (night o m)) (has-line at r (first_of (faults at r)) (λ z q. omega (arith, bad-some at r e, q)))

  -- a good one is its call
  good-behind : (at : ℕ) (m : Memory) (r : List ℕ) (rs : List (List ℕ)) → 0 < at → is_good at r ≡ true
      → (let c = call_of o (kind_of r) (body_of r) in
      replay_from at (night o m) (r ∷ rs) ≡ behind (line at (ours m c).answer.number ∷ []) (replay_from (at + 1) (night o (ours m c).memory) rs))
  unfolding called
  good-behind at m r rs p e =
      let n = night o m in
      let c = call_of o (kind_of r) (body_of r) in
      let num = (ours m c).answer.number in
      let zero = good-zero at r e in
      let s : step_of at n r ≡ stepped num (night o (ours m c).memory) = step-good at n r fit zero ∙ taken-calls at n r (later-calls at r zero p) in
      goes_on at n r rs (ap (λ (x : Stepped). ends x.answer) s ∙ goes m c)
      ∙ ap (λ (x : Stepped). behind (line_of at x.answer) (replay_from (at + 1) x.night rs)) s
      ∙ ap (λ (ls : List Line). behind ls (replay_from (at + 1) (night o (ours m c).memory) rs)) (has-line at r num (λ z q. omega (arith, p, z)))

  -- the calls and the line at which it stops, by the next record
  module _ (at : ℕ) (r : List ℕ) (rs : List (List ℕ)) where
    calls-good : is_good at r ≡ true → calls_behind at o (r ∷ rs) ≡ call_of o (kind_of r) (body_of r) ∷ calls_behind (at + 1) o rs
    unfolding calls_behind
    calls-good e = rw e refl

    calls-bad : is_good at r ≡ false → calls_behind at o (r ∷ rs) ≡ []
    unfolding calls_behind
    calls-bad e = rw e refl

  abbrev Made : ℕ → Memory → List (List ℕ) → Type 0
  Made at m rs =
      replay_from at (night o m) rs ≡ replayed (numbered at (log ours m (calls_behind at o rs)) ++ stop_of at rs)
      (night o (left ours m (calls_behind at o rs)))

  made-step : (at : ℕ) (m : Memory) (r : List ℕ) (rs : List (List ℕ)) → 0 < at → (b : Bool) → is_good at r ≡ b
      → ((later : Memory) → Made (at + 1) later rs) → Made at m (r ∷ rs)
  unfolding numbered log left
  made-step at m r rs p true e rest =
      let c = call_of o (kind_of r) (body_of r) in
      good-behind at m r rs p e ∙ ap (behind (line at (ours m c).answer.number ∷ [])) (rest (ours m c).memory)
      ∙ sym (ap₂ (λ (cs : List Call) (ls : List Line). replayed (numbered at (log ours m cs) ++ ls) (night o (left ours m cs))) (calls-good at r rs e)
      (stop-good at r rs e))
  made-step at m r rs p false e rest =
      bad-behind at m r rs e
      ∙ sym (ap₂ (λ (cs : List Call) (ls : List Line). replayed (numbered at (log ours m cs) ++ ls) (night o (left ours m cs))) (calls-bad at r rs e)
      (stop-bad at r rs e))

  pub made-behind : (at : ℕ) (m : Memory) (rs : List (List ℕ)) → 0 < at → Made at m rs
  unfolding calls_behind numbered log left stop_of
  made-behind at m [] p = at_end_lem at (night o m)
  made-behind at m (r ∷ rs) p = made-step at m r rs p (is_good at r) refl (λ later. made-behind (at + 1) later rs (omega arith))

-- ---- all of them

opens_first : (r : List ℕ) (rs : List (List ℕ)) → is_good 0 r ≡ true → replay_from 0 start (r ∷ rs) ≡ replay_from 1 (night (body_of r) (empty 64)) rs
opens_first r rs e =
    let zero = good-zero 0 r e in
    let s = step-good 0 start r (length-replicate {A = ℕ} 102 0) zero ∙ taken-opens 0 start r (first-opens 0 r zero refl) in
    goes_on 0 start r rs (ap (λ (x : Stepped). ends x.answer) s)
    ∙ ap (λ (x : Stepped). behind (line_of 0 x.answer) (replay_from 1 x.night rs)) s

opening-fits : (r : List ℕ) → is_good 0 r ≡ true → length (body_of r) ≡ 102
opening-fits r e =
    let zero = good-zero 0 r e in
    fits_4 (kind_of r) (length (body_of r)) (first-opens 0 r zero refl) (good-record 0 r zero).1

first_step : (r : List ℕ) (rs : List (List ℕ)) (b : Bool) → is_good 0 r ≡ b
    → replay_from 0 start (r ∷ rs)
    ≡ replayed (numbered 1 (log ours (empty 64) (calls_of (r ∷ rs))) ++ stop_of 0 (r ∷ rs))
    (night (opening_of (r ∷ rs)) (left ours (empty 64) (calls_of (r ∷ rs))))
unfolding numbered log left
first_step r rs true e =
    opens_first r rs e ∙ made-behind (body_of r) (opening-fits r e) 1 (empty 64) rs (omega arith)
    ∙ sym (rw (e, stop-good 0 r rs e) refl)
first_step r rs false e =
    bad-behind start.opening (length-replicate {A = ℕ} 102 0) 0 (empty 64) r rs e ∙ sym (rw (e, stop-bad 0 r rs e) refl)

pub one_by_one : OneByOne
unfolding numbered log left stop_of
one_by_one [] = at_end_lem 0 start
one_by_one (r ∷ rs) = first_step r rs (is_good 0 r) refl

-- ---- a bad record stops it

module _ (bad : List ℕ) (more : List (List ℕ)) (k : ℕ) (e : is_good k bad ≡ false) where
  bad-at : (at : ℕ) → k ≡ at → is_good at bad ≡ false
  bad-at at z = subst (λ (j : ℕ). is_good j bad ≡ false) z e

  calls-cut : (at : ℕ) (o : List ℕ) (good : List (List ℕ)) → AllGood at good → k ≡ at + length good
      → calls_behind at o (good ++ (bad ∷ more)) ≡ calls_behind at o good
  unfolding calls_behind
  calls-cut at o [] a z = rw (bad-at at (omega (arith, z))) refl
  calls-cut at o (r ∷ rs) a z =
      rw a.0 (ap (λ (cs : List Call). call_of o (kind_of r) (body_of r) ∷ cs) (calls-cut (at + 1) o rs a.1 (omega (arith, z))))

  stop-cut : (at : ℕ) (good : List (List ℕ)) → AllGood at good → k ≡ at + length good
      → stop_of at (good ++ (bad ∷ more)) ≡ line k (first_of (faults k bad)) ∷ []
  stop-cut at [] a z =
      let here : k ≡ at = omega (arith, z) in
      stop-bad at bad more (bad-at at here) ∙ ap (λ (j : ℕ). line j (first_of (faults j bad)) ∷ []) (sym here)
  stop-cut at (r ∷ rs) a z = stop-good at r (rs ++ (bad ∷ more)) a.0 ∙ stop-cut (at + 1) rs a.1 (omega (arith, z))

  all-calls-cut : (good : List (List ℕ)) → AllGood 0 good → k ≡ length good → calls_of (good ++ (bad ∷ more)) ≡ calls_of good
  all-calls-cut [] a z = rw (bad-at 0 z) refl
  all-calls-cut (r ∷ rs) a z = rw a.0 (calls-cut 1 (body_of r) rs a.1 (omega (arith, z)))

  opening-cut : (good : List (List ℕ)) → AllGood 0 good → k ≡ length good → opening_of (good ++ (bad ∷ more)) ≡ opening_of good
  opening-cut [] a z = rw (bad-at 0 z) refl
  opening-cut (r ∷ rs) a z = refl

pub stops : Stops
stops good more bad a e =
    let k = length good in
    one_by_one (good ++ (bad ∷ more))
    ∙ ap₂ (λ (cs : List Call) (ls : List Line). replayed (numbered 1 (log ours (empty 64) cs) ++ ls)
    (night (opening_of (good ++ (bad ∷ more))) (left ours (empty 64) cs)))
    (all-calls-cut bad more k e good a refl) (stop-cut bad more k e 0 good a (omega arith))
    ∙ ap (λ (n : Night). replayed (numbered 1 (log ours (empty 64) (calls_of good)) ++ (line k (first_of (faults k bad)) ∷ [])) n)
    (ap (λ (o : List ℕ). night o (left ours (empty 64) (calls_of good))) (opening-cut bad more k e good a refl)
    ∙ sym (ap (λ (x : Replayed). x.night) (one_by_one good)))
