-- The drop rule of several own keys is a drop rule for each of them, where C is at least ten times their number; so demand 3 holds for each.
-- In this order: how many of a list pass a test; the key that goes; demand 3. Assumes nothing.
use mathlib.Core.Path.{◌≡◌, refl, sym, ap, ◌∙◌}
use mathlib.Core.Logic.{◌⊎◌, inl, inr}
use mathlib.Core.Bool.{Bool, true, false, not, cond, ◌||◌}
use mathlib.Core.List.{List, [], ◌∷◌}
use Prim.Native.Nat.{ℕ, suc, ◌+◌, ◌*◌, ◌≤◌, ◌<◌}
use native.Mathlib.Omega.{arith}
use lib.Dec.{eqb}
use lib.ListN.{length, length-append, length-take}
use borrow.Author.Tests.{eqb-true, ne_eqb}
use Rattle.key.specs.Around.{Side, below, above, ring, side_of, nearness, apart}
use Rattle.key.specs.Number.{distance}
use Rattle.key.proofs.DifferenceLaws.{distance_self, distance-zero}
use Rattle.key.proofs.RingLaws.{Stands, stands, keys_not, up_lt, up_self, up_back}
use Rattle.key.proofs.RingLaws.Stands.{round, line}
use Rattle.key.proofs.AroundLaws.{apart_round}
use Rattle.kept.specs.Keys.{◌∈◌, has, Every, Rising, plain, among}
use Rattle.kept.specs.Neighbours.{nearest_first}
use Rattle.kept.specs.Plain.{NotOwn, first_of, neighbours, neighbour_list, drops}
use Rattle.kept.specs.Rules.{DropRule}
use Rattle.kept.specs.Demand3.{PlainDemand3, PlainSameKeysSameNeighbours}
use Rattle.kept.specs.Ponds.{is_listed, spare, farthest_from, drops_of}
use Rattle.kept.proofs.ListLaws.{Test, pass, fail, test, every_at, every_of, rising-at, has_in, mem-among, among-pass, among-fail}
use Rattle.kept.proofs.SplitLaws.{among_none}
use Rattle.kept.proofs.Demand3Laws.{demand3, same_keys_same-neighbours, plain-order}
use Rattle.kept.proofs.TurnLaws.{append_left, append_right, among_both}
use Rattle.kept.proofs.PondLaws.{farthest_in, farthest_all}

-- ---- how many pass

among_or : (p q : ℕ → Bool) (l : List ℕ) → length (among (λ (k : ℕ). p k || q k) l) ≤ length (among p l) + length (among q l)
unfolding among
among_or p q [] = omega arith
among_or p q (j ∷ l) = go (p j) (q j) (among_or p q l)
  where
    go : (a b : Bool) → length (among (λ (k : ℕ). p k || q k) l) ≤ length (among p l) + length (among q l)
        → length (cond (a || b) (j ∷ among (λ (k : ℕ). p k || q k) l) (among (λ (k : ℕ). p k || q k) l))
        ≤ length (cond a (j ∷ among p l) (among p l)) + length (cond b (j ∷ among q l) (among q l))
    go true true h = omega arith
    go true false h = omega arith
    go false true h = omega arith
    go false false h = h

among_one : (j b : ℕ) (l : List ℕ) → Rising plain b l → length (among (λ (k : ℕ). eqb k j) l) ≤ 1
unfolding among
among_one j b [] r = omega arith
among_one j b (i ∷ l) r = go (test (eqb i j)) (among_one j (suc i) l r.1)
  where
    go : Test (eqb i j) → length (among (λ (k : ℕ). eqb k j) l) ≤ 1 → length (among (λ (k : ℕ). eqb k j) (i ∷ l)) ≤ 1
    go (pass e) ih =
        let none : among (λ (k : ℕ). eqb k j) l ≡ [] =
        among_none (λ (k : ℕ). eqb k j) l
        (every_of _ l (λ k m. ne_eqb k j (λ d. absurd (omega (arith, rising-at plain (suc i) k l r.1 m, eqb-true i j e))))) in
        rw (among-pass (λ (k : ℕ). eqb k j) i l e, none) (omega arith)
    go (fail e) ih = rw (among-fail (λ (k : ℕ). eqb k j) i l e) ih

none-false : (l : List ℕ) → length (among (λ (k : ℕ). false) l) ≡ 0
unfolding among
none-false [] = refl
none-false (j ∷ l) = none-false l

among-has : (l keys : List ℕ) → Rising plain 0 keys → length (among (λ (k : ℕ). has k l) keys) ≤ length l
unfolding has
among-has [] keys r = omega (arith, none-false keys)
among-has (j ∷ l) keys r =
    omega (arith, among_or (λ (k : ℕ). eqb k j) (λ (k : ℕ). has k l) keys, among_one j 0 keys r, among-has l keys r)

list_few : (own : ℕ) (keys : List ℕ) → length (neighbour_list own keys) ≤ 10
list_few own keys =
    omega (
      arith,
      length-append (neighbours own below keys) (neighbours own above keys),
      length-take 5 (nearest_first (side_of own) (nearness own) below keys),
      length-take 5 (nearest_first (side_of own) (nearness own) above keys),
    )

listed_few : (owns all keys : List ℕ) → Rising plain 0 keys → length (among (is_listed owns all) keys) ≤ 10 * length owns
unfolding is_listed
listed_few [] all keys r = omega (arith, none-false keys)
listed_few (own ∷ owns) all keys r =
    omega (
      arith,
      among_or (λ (k : ℕ). has k (neighbour_list own all)) (is_listed owns all) keys,
      among-has (neighbour_list own all) keys r,
      list_few own all,
      listed_few owns all keys r,
    )

-- ---- the key that goes

apart-line : (j k : ℕ) → (ring ≤ j) ⊎ (ring ≤ k) → apart j k ≡ ring + distance j k
unfolding apart
apart-line j k h = rw (keys_not h)

-- each other number is farther than itself
pub apart_more : (own k : ℕ) → ¬ (k ≡ own) → apart own own < apart own k
apart_more own k d = go (stands own own) (stands own k)
  where
    beyond : (ring ≤ own) ⊎ (ring ≤ own) → own < ring → ⊥
    beyond (inl h) p = omega arith
    beyond (inr h) p = omega arith

    go : Stands own own → Stands own k → apart own own < apart own k
    go (round o h) (round p q) =
        let m = up_back own k o q (λ e. d (sym e)) in
        let n = up_back k own q o d in
        omega (arith, apart_round own own o o, up_self own o, apart_round own k o q)
    go (round o h) (line q) = omega (arith, apart_round own own o o, up_lt own own, apart-line own k q)
    go (line h) (round p q) = absurd (beyond h p)
    go (line h) (line q) =
        let n : ¬ (distance own k ≡ 0) = λ e. d (sym (distance-zero own k e)) in
        omega (arith, apart-line own own h, apart-line own k q, distance_self own)

pub spare-some : (owns keys : List ℕ) → Rising plain 0 keys → 10 * length owns < length keys → 0 < length (spare owns keys)
spare-some owns keys r h =
    omega (arith, among_both (is_listed owns keys) (λ (k : ℕ). not (is_listed owns keys k)) keys (λ k m. refl), listed_few owns keys keys r)

first_of_lem : (l : List ℕ) → 0 < length l → (P : Type 0) → ((k : ℕ) → k ∈ l → P) → P
first_of_lem [] h P f = absurd (omega arith)
first_of_lem (k ∷ l) h P f = f k (inl refl)

pub drops-spare : (first : ℕ) (owns keys : List ℕ) → first ∈ owns → Every (λ (k : ℕ). ¬ (k ∈ owns)) keys → Rising plain 0 keys
    → 10 * length owns < length keys → drops_of first owns keys ∈ spare owns keys
unfolding drops_of
drops-spare first owns keys w a r h = go (farthest_in first first (spare owns keys))
  where
    go : (farthest_from first first (spare owns keys) ≡ first) ⊎ (farthest_from first first (spare owns keys) ∈ spare owns keys)
        → farthest_from first first (spare owns keys) ∈ spare owns keys
    go (inr m) = m
    go (inl e) =
        first_of_lem (spare owns keys) (spare-some owns keys r h) _
        (λ k m.
        let n = mem-among (λ (k : ℕ). not (is_listed owns keys k)) k keys m in
        let d : ¬ (k ≡ first) = λ q. every_at (λ (k : ℕ). ¬ (k ∈ owns)) k keys a n.0 (rw q w) in
        absurd (omega (arith, apart_more first k d, farthest_all first first (spare owns keys) k m, ap (apart first) e)))

listed_has : (k own : ℕ) (s : Side) (owns keys : List ℕ) → own ∈ owns → k ∈ neighbours own s keys → is_listed owns keys k ≡ true
unfolding is_listed
listed_has k own s [] keys w m = absurd w
listed_has k own s (o ∷ owns) keys (inl e) m = rw (has_in k (neighbour_list o keys) (side s (rw e at m))) refl
  where
    side : (s : Side) → k ∈ neighbours o s keys → k ∈ neighbour_list o keys
    side below m = append_left k (neighbours o below keys) (neighbours o above keys) m
    side above m = append_right k (neighbours o below keys) (neighbours o above keys) m
listed_has k own s (o ∷ owns) keys (inr w) m = later (has k (neighbour_list o keys)) (listed_has k own s owns keys w m)
  where
    later : (b : Bool) → is_listed owns keys k ≡ true → (b || is_listed owns keys k) ≡ true
    later true e = refl
    later false e = e

pub ponds_rule : (first : ℕ) (owns : List ℕ) (C : ℕ) → first ∈ owns → 10 * length owns ≤ C → (own : ℕ) → own ∈ owns
    → DropRule (λ (k : ℕ). ¬ (k ∈ owns)) (side_of own) (nearness own) (drops_of first owns) C
ponds_rule first owns C f c own w =
    record {
      held = λ keys r a n. (chosen keys r a n).0;
      spare = λ keys r a n s m. both (listed_has (drops_of first owns keys) own s owns keys w m) (chosen keys r a n).1;
    }
  where
    chosen : (keys : List ℕ) → Rising plain 0 keys → Every (λ (k : ℕ). ¬ (k ∈ owns)) keys → C < length keys
        → (drops_of first owns keys ∈ keys) × (not (is_listed owns keys (drops_of first owns keys)) ≡ true)
    chosen keys r a n =
        mem-among (λ (k : ℕ). not (is_listed owns keys k)) (drops_of first owns keys) keys (drops-spare first owns keys f a r (omega arith))

    both : {b : Bool} → b ≡ true → not b ≡ true → ⊥
    both {b} e d = let z : ◌≡◌ {A = Bool} false true = ap not (sym e) ∙ d in let y : ◌≡◌ {A = ℕ} 0 1 = cc in omega arith

-- ---- demand 3 for each own key

first_in : (own : List ℕ) (k : ℕ) → k ∈ own → first_of own ∈ own
first_in [] k m = absurd m
first_in (j ∷ own) k m = inl refl

pub plain_rule : (own : List ℕ) (C : ℕ) → 10 * length own ≤ C → (k : ℕ) → k ∈ own → DropRule (NotOwn own) (side_of k) (nearness k) (drops own) C
plain_rule own C c k w = ponds_rule (first_of own) own C (first_in own k w) c k w

pub plain_demand3 : PlainDemand3
plain_demand3 own C c events o k w =
    demand3 (NotOwn own) (side_of k) (nearness k) (drops own) C (plain-order (NotOwn own) k) (plain_rule own C c k w) events o

pub plain-same_keys_same-neighbours : PlainSameKeysSameNeighbours
plain-same_keys_same-neighbours own C C' c c' es ds o same calm calm' k w s =
    same_keys_same-neighbours (NotOwn own) (side_of k) (nearness k) (plain-order (NotOwn own) k) (drops own) (drops own) C C'
    (plain_rule own C c k w) (plain_rule own C' c' k w) es ds o same calm calm' s
