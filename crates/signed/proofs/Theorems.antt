-- The demands, of our gauge. Assumes nothing.
use mathlib.Core.Path.{◌≡◌, refl, sym, ap, subst, ◌∙◌}
use mathlib.Core.Bool.{true, false, not}
use mathlib.Core.Logic.{◌↔◌}
use mathlib.Core.List.{List, [], ◌∷◌, ◌++◌}
use Prim.Native.Nat.{ℕ, zero, suc, ◌+◌, ◌-◌, ◌*◌, ◌≤◌, ◌<◌}
use native.Mathlib.Omega.{arith}
use lib.Dec.{ltb}
use lib.ListN.{length, replicate, length-append, length-replicate, length-take}
use borrow.Author.Tests.{le-ltb, eq-eqb}
use Rattle.octet.specs.Part.{part, splice}
use Rattle.octet.proofs.PartLaws.{part-splice}
use Rattle.key.specs.Number.{key_at}
use Rattle.key.specs.Around.{Side, below, above, side_of, nearness}
use Rattle.own.specs.Own.{Own, own_form, own_keys, IsOwn}
use Rattle.own.proofs.PlaceLaws.{in_own}
use Rattle.refusal.proofs.CallLaws.{all_pass}
use Rattle.table.specs.Rows.{bytes_of, joined}
use Rattle.kept.specs.Keys.{Every}
use Rattle.kept.specs.Plain.{NotOwn, neighbours, neighbour_list, drops, kept}
use Rattle.kept.specs.Neighbours.{IsNeighbours}
use Rattle.kept.specs.History.{Event, Learns, learned_all}
use Rattle.kept.specs.Demand3.{KeysDemand3}
use Rattle.kept.proofs.PondRuleLaws.{plain_demand3}
use Rattle.cache.specs.Form.{Places, Form, cache_form, keys_of, held_of}
use Rattle.neighbours.specs.Listing.{key_bytes}
use Rattle.neighbours.specs.Calls.{list_call, list_wrong}
use Rattle.cache.proofs.FormLaws.{form-true, form-held}
use Rattle.cache.proofs.KeepLaws.{form_anew}
use Rattle.neighbours.proofs.ListLaws.{keys_length}
use Rattle.waiting.specs.Form as W
use Rattle.waiting.proofs.FormLaws as WF
use Rattle.waiting.proofs.KeptLaws.{made_of}
use Rattle.waiting.proofs.RoundLaws.{All}
use Rattle.gauge_commit.specs.Sending.{answer, Handed, handed}
use Rattle.wire.proofs.Theorems.{at_most_one, written_back, read_again}
use Rattle.gauge.specs.Counts.{list_answered, gauge_list}
use Rattle.gauge_plan.specs.Lent.{Memory, empty, Listing, Call, lists}
use Rattle.gauge.specs.Words.{left, Typed, Proper}
use Rattle.sentences.specs.Sentences.{NeighbourList}
use Rattle.gauge.specs.Ours.{ours}
use Rattle.sentences.proofs.DoesLaws.{start_one}
use Rattle.gauge_laws.proofs.FirstLaws.{first_bytes}
use Rattle.gauge_laws.proofs.FormLaws.{form_kept}
use Rattle.sentences.proofs.Theorems.{ours_meets_table, ours_meets}
use Rattle.sentences.proofs.BackLaws.{sent_reads, flood_reads}
use Rattle.signed.specs.Statements.{MeetsDemand1, MeetsDemand2, ListsThese, MeetsDemand3, Signed}
use Rattle.signed.proofs.KeyLaws.{Owed}
use Rattle.signed.proofs.ToldLaws.{happened, log_happened}
use Rattle.signed.proofs.StepLaws.{Inv, ran}

-- ---- demand 1

pub meets_demand1 : MeetsDemand1 ours
meets_demand1 = record { table = ours_meets_table; first = λ m c ty. first_bytes m c; form = form_kept }

-- ---- demand 2

pub meets_demand2 : MeetsDemand2 ours
meets_demand2 = record {
  one-message = at_most_one;
  written_reads = written_back;
  read_written = read_again;
  sent_reads = (sent_reads, flood_reads);
  sentences = ours_meets;
}

-- ---- the start

-- no rows are zeros
zeros : (size : ℕ) → bytes_of size [] ≡ replicate size 0
unfolding bytes_of joined
zeros size = let e : size - 0 ≡ size = omega arith in ap (λ (n : ℕ). replicate n 0) e

-- a cache of zeros holds nothing, and a table of zeros has no place
module _ (k : Own) (C : ℕ) (least : (10 ≤ C) × (10 * length k ≤ C)) (most : C ≤ 256) where
  pub empty-cache : Form k (replicate (100 * C) 0) []
  empty-cache = subst (λ (s : List ℕ). Form k s []) (zeros (100 * C))
      (form_anew k (100 * C) [] (record { whole = omega arith; least = omega (arith, least.0); most = omega arith; enough = omega (arith, least.1) })
      (record { formed = tt; rising = tt; others = tt }) (omega arith))

  pub empty-table : W.PlacesForm k (replicate 2240 0) []
  empty-table = subst (λ (s : List ℕ). W.PlacesForm k s []) (zeros 2240) (made_of k [] tt (omega arith) tt)

  pub start : Inv k C [] [] (empty C)
  start = record {
    cached = form-true k (replicate (100 * C) 0) [] empty-cache;
    tabled = WF.form_test k (replicate 2240 0) [] empty-table;
    keeps = record { size = length-replicate {A = ℕ} (100 * C) 0; held = ap keys_of (form-held k (replicate (100 * C) 0) [] empty-cache) };
    owed = subst (All (Owed [])) (WF.form_unique k (replicate 2240 0) [] empty-table) tt;
  }

-- ---- the neighbour list of memory in form

module _ (m : Memory) (l : Listing) (owned : own_form l.own ≡ true) (form : cache_form (own_keys l.own) m.cache ≡ true)
    (keyed : length l.key ≡ 32) (mine : IsOwn (own_keys l.own) (key_at 0 l.key)) (room : 320 ≤ length l.output) where
  abbrev asked : ℕ
  asked = key_at 0 l.key

  -- the list of these keys, where they are the keys held
  abbrev list_of : List ℕ → Handed
  list_of keys =
      handed (answer 0 (length (neighbours asked below keys)) (length (neighbours asked above keys))) m
      (splice 0 (key_bytes (neighbour_list asked keys)) l.output)

  list_done : gauge_list m l ≡ list_of (keys_of (held_of (own_keys l.own) m.cache))
  unfolding gauge_list list_call
  list_done =
      ap (list_answered m) (all_pass _ (list_wrong l.own m.cache l.key l.output) _ (
        rw owned refl,
        (
          rw form refl,
          (
            ap not (eq-eqb (length l.key) 32 keyed),
            (
              ap not (in_own (own_keys l.own) asked mine),
              (le-ltb (length l.output) 320 room, tt),
            ),
          ),
        ),
      ))

  -- the list of the keys held is right among others too, where the same keys are the nearest of them
  lists-keys : (keys : List ℕ) → keys_of (held_of (own_keys l.own) m.cache) ≡ keys → (among : List ℕ)
      → ((s : Side) → IsNeighbours (side_of asked) (nearness asked) s among (neighbours asked s keys))
      → NeighbourList asked among l.output (ours m (lists l))
  lists-keys keys is among near =
      let k = asked in
      let g : gauge_list m l ≡ list_of keys = subst (λ (ks : List ℕ). gauge_list m l ≡ list_of ks) is list_done in
      record {
        low = neighbours k below keys;
        high = neighbours k above keys;
        nearest-below = near below;
        nearest-above = near above;
        counts = ap (λ (h : Handed). h.answer) g;
        bytes = ap (λ (h : Handed). h.output) g ∙ start_one (key_bytes (neighbour_list k keys)) l.output;
      }

-- ---- demand 3

pub typed_calls : (k : Own) (calls : List Call) → Proper k calls → Every Typed calls
typed_calls k [] p = tt
typed_calls k (c ∷ cs) p = (p.0.1, typed_calls k cs p.1)

-- after any calls the list is that of the keys kept, and of any among which these are the nearest
module _ (own : Own) (keys : List ℕ) (m : Memory) (formed : cache_form own m.cache ≡ true) (held : keys_of (held_of own m.cache) ≡ keys)
    (k : ℕ) (mine : IsOwn own k) where
  pub lists-these : (among : List ℕ) → ((s : Side) → IsNeighbours (side_of k) (nearness k) s among (neighbours k s keys)) → ListsThese ours m own k among
  lists-these among near l owned one keyed is room =
      subst (λ (j : ℕ). NeighbourList j among l.output (ours m (lists l))) is
      (lists-keys m l owned (subst (λ (o : Own). cache_form o m.cache ≡ true) (sym one) formed) keyed
      (subst (λ (o : Own). IsOwn o (key_at 0 l.key)) (sym one) (subst (IsOwn own) (sym is) mine)) room keys
      (subst (λ (o : Own). keys_of (held_of o m.cache) ≡ keys) (sym one) held) among
      (subst (λ (j : ℕ). (s : Side) → IsNeighbours (side_of j) (nearness j) s among (neighbours j s keys)) (sym is) near))

-- of each own key
pub each_own : (own : Own) (C : ℕ) → 10 * length own ≤ C → (events : List Event) → ((j : ℕ) → Learns j events → NotOwn own j) → (k : ℕ) → IsOwn own k
    → KeysDemand3 (NotOwn own) (side_of k) (nearness k) (drops own) C events
each_own own C least events fine k mine = plain_demand3 own C least events fine k mine

pub meets_demand3 : MeetsDemand3 ours
meets_demand3 k C least most calls proper =
    let r = ran k C [] [] (empty C) (start k C least most) calls proper in
    let d = each_own k C least.1 (happened ours C calls) r.fine in
    let m = left ours (empty C) calls in
    record {
      history = happened ours C calls;
      happened = log_happened [] (empty C) calls (typed_calls k calls proper);
      listed = λ j mine. lists-these k (kept k C (happened ours C calls)) m r.inv.cached r.inv.keeps.held j mine
          (kept k C (happened ours C calls)) (d j mine).right;
      among-all = λ none j mine. lists-these k (kept k C (happened ours C calls)) m r.inv.cached r.inv.keeps.held j mine
          (learned_all (happened ours C calls)) ((d j mine).among-all none);
    }

-- ---- all three

pub signed : Signed ours
signed = record { demand1 = meets_demand1; demand2 = meets_demand2; demand3 = meets_demand3 }
