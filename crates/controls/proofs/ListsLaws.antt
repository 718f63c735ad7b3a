-- Document 01's wrong gauges are shut out: each by one call or one history that antt computes, byte by byte. Assumes nothing.
use Prim.Native.Nat.{ℕ, ◌<◌, min}
use mathlib.Core.Bool.{true}
use mathlib.Core.List.{List, [], ◌∷◌, ◌++◌}
use mathlib.Core.Option.{Option, some, none}
use mathlib.Core.Path.{◌≡◌, refl, ap, ◌∙◌}
use native.Mathlib.Omega.{arith}
use lib.ListN.{length, get_or, replicate}
use Rattle.key.specs.Around.{Side, below, above, side_of}
use Rattle.own.specs.Own.{Own, own_keys}
use Rattle.own.proofs.PlaceLaws.{own_in}
use Rattle.kept.specs.History.{Event}
use Rattle.kept.specs.Neighbours.{on_side}
use Rattle.kept.specs.Plain.{kept}
use Rattle.wire_write.specs.Making.{flood_made}
use Rattle.gauge_commit.specs.declared.Answer.{Answer}
use Rattle.gauge_plan.specs.Lent.{empty, tick, listing, Call, ticks, lists}
use Rattle.gauge_commit.specs.Sending.{Handed}
use Rattle.gauge.specs.Words.{Gauge, left, log, Proper}
use Rattle.sentences.specs.Sentences.{NeighbourList}
use Rattle.sentences.specs.Meets.{MeetsSentences}
use Rattle.sentences.proofs.ComputedLaws.{computed}
use Rattle.sentences.proofs.Theorems.{acts, ours_meets_table}
use Rattle.signed.specs.Statements.{Demand3, MeetsDemand3}
use Rattle.signed.specs.Answered.{told_from, inquired, answered, first_told}
use Rattle.signed.specs.Cases.{key, record_with, holding, hears, inquiry_for, authority}
use Rattle.signed.proofs.ToldLaws.{events_from, happened, happened_events, log_typed}
use Rattle.signed.proofs.Theorems.{typed_calls}
use Rattle.controls.specs.Lists as W
use Rattle.controls.proofs.ShutLaws.{fits, fits_bytes, shut}

-- our keys, of which 100 is the only one; its neighbour list
abbrev own : Own
own = own_keys (record_with 100)

one : length own ≡ 1
unfolding computed
one = refl

abbrev asked : Call
asked = lists (listing (record_with 100) (key 100) (replicate 320 0))

-- ---- the histories of a gauge with the key 100

-- a record with the key k, a port below 256 and one address
abbrev record_at : ℕ → ℕ → List ℕ
record_at k port = key k ++ (0 ∷ port ∷ 1 ∷ 0 ∷ []) ++ replicate 64 0

abbrev flood_of : ℕ → ℕ → List ℕ
flood_of k port = (flood_made 6 101 5 (key 100) (record_at k port) 0).bytes

-- the key k is learned, before the calls cs: a FLOOD of its record, and the AUTHORITY that answers the INQUIRE
abbrev learning : ℕ → ℕ → List Call → List Call
learning k port cs = hears 100 k (flood_of k port) ∷ hears 100 k authority ∷ cs

proper : (k port : ℕ) (cs : List Call) → fits (flood_of k port) ≡ true → Proper own cs → Proper own (learning k port cs)
unfolding computed fits
proper k port cs f p =
    ((λ o. refl, (fits_bytes (flood_of k port) f, omega arith)), ((λ o. refl, (fits_bytes authority refl, omega arith)), p))

-- ---- what a gauge that meets demand 3 counts

abbrev counted : Gauge → List Call → Answer
counted g cs = (g (left g (empty 10) cs) asked).answer

-- as many keys of a side as are kept there, and five at most
abbrev wanted : Side → List Event → ℕ
wanted s history = min 5 (length (on_side (side_of 100) s (kept own 10 history)))

module _ (g : Gauge) (cs : List Call) (p : Proper own cs) (m : MeetsDemand3 g) where
  met : Demand3 g own 10 cs
  met = m own 10 (omega arith, omega (arith, one)) (omega arith) cs p

  list : NeighbourList 100 (kept own 10 met.history) (replicate 320 0) (g (left g (empty 10) cs) asked)
  unfolding computed
  list = met.listed 100 (own_in own 100 refl) (listing (record_with 100) (key 100) (replicate 320 0)) refl refl refl refl (omega arith)

  told : met.history ≡ happened g 10 cs
  told = happened_events [] (log g (empty 10) cs) (log_typed g (empty 10) cs (typed_calls own cs p)) met.history met.happened

  below-met : (counted g cs).first ≡ wanted below (happened g 10 cs)
  below-met = ap (λ (a : Answer). a.first) list.counts ∙ list.nearest-below.many ∙ ap (wanted below) told

  above-met : (counted g cs).second ≡ wanted above (happened g 10 cs)
  above-met = ap (λ (a : Answer). a.second) list.counts ∙ list.nearest-above.many ∙ ap (wanted above) told

-- ---- the theorems

-- one call: a tick that no number of the table applies to
pub refuses_all_shut : W.RefusesAllShut
unfolding computed W.refuses_all
refuses_all_shut n p d =
    let c = ticks (tick (record_with 100) (replicate 64 0)) in
    let z : ◌≡◌ {A = ℕ} n 0 = (d.accepted (empty 10) c tt).1 ((ours_meets_table.accepted (empty 10) c tt).0 refl) in omega arith

-- the key 99 is learned, or held
pub empty_list_shut : W.EmptyListShut
unfolding computed left log events_from W.empty_list fits
empty_list_shut = (
  λ m. let z : ◌≡◌ {A = ℕ} 0 1 = below-met W.empty_list (learning 99 0 []) (proper 99 0 [] refl tt) m in absurd (omega arith),
  shut W.empty_list (holding 10 (99 ∷ []) []) asked (λ (h : Handed). h.answer.first) tt (λ e. absurd (let z : ◌≡◌ {A = ℕ} 0 1 = e in omega arith)),
)

pub learns_nothing_shut : W.LearnsNothingShut
unfolding computed left log events_from W.learns_nothing fits
learns_nothing_shut = (
  λ m. let z : ◌≡◌ {A = ℕ} 0 1 = below-met W.learns_nothing (learning 99 0 []) (proper 99 0 [] refl tt) m in absurd (omega arith),
  shut W.learns_nothing (holding 10 [] (inquiry_for 99 ∷ [])) (hears 100 99 authority) (λ (h : Handed). get_or h.memory.cache 31 0)
      (fits_bytes authority refl, omega arith) (λ e. absurd (let z : ◌≡◌ {A = ℕ} 0 99 = e in omega arith)),
)

-- the keys 99 and 101 are learned
pub learns_once_shut : W.LearnsOnceShut
unfolding computed left log events_from W.learns_nothing W.learns_once fits
learns_once_shut = (
  λ m. let z : ◌≡◌ {A = ℕ} 0 1 =
      above-met W.learns_once (learning 99 0 (learning 101 0 [])) (proper 99 0 (learning 101 0 []) refl (proper 101 0 [] refl tt)) m in
      absurd (omega arith),
  shut W.learns_once (holding 10 (98 ∷ []) (inquiry_for 99 ∷ [])) (hears 100 99 authority) (λ (h : Handed). get_or h.memory.cache 131 0)
      (fits_bytes authority refl, omega arith) (λ e. absurd (let z : ◌≡◌ {A = ℕ} 0 99 = e in omega arith)),
)

-- nothing is learned, and then the key 99
pub invented_counts_shut : W.InventedCountsShut
unfolding computed left log events_from W.invented_counts fits
invented_counts_shut first second = (
  λ m. let z : ◌≡◌ {A = ℕ} first 0 = below-met (W.invented_counts first second) [] tt m in
      let y : ◌≡◌ {A = ℕ} first 1 = below-met (W.invented_counts first second) (learning 99 0 []) (proper 99 0 [] refl tt) m in
      absurd (omega arith),
  λ p. let z : ◌≡◌ {A = ℕ} first 0 = ap (λ (h : Handed). h.answer.first) (acts (W.invented_counts first second) p (holding 10 [] []) asked tt) in
      let y : ◌≡◌ {A = ℕ} first 1 =
      ap (λ (h : Handed). h.answer.first) (acts (W.invented_counts first second) p (holding 10 (99 ∷ []) []) asked tt) in
      absurd (omega arith),
)

-- the keys 99 with port 1 and 101 with port 2 are learned
abbrev port_of : Option (List ℕ) → ℕ
port_of none = 0
port_of (some r) = get_or r 33 0

pub mixes_shut : W.MixesShut
unfolding computed left told_from inquired answered first_told W.mixes fits
mixes_shut m =
    let both =
    (m own 10 (omega arith, omega (arith, one)) (omega arith) (learning 99 1 (learning 101 2 [])) (proper 99 1 (learning 101 2 []) refl (proper 101 2 [] refl tt))).last in
    let z : ◌≡◌ {A = ℕ} 2 1 = ap port_of both.1.0 in
    absurd (omega arith)
