-- Laws of the search for a key, and of how few keys are compared. In this order: places; when it is refused, and what an accepted one answers; what
-- its first number tells; how few the two calls compare that tell it. Assumes nothing.
use mathlib.Core.Path.{◌≡◌, refl, sym, ap, ◌∙◌, subst}
use mathlib.Core.Logic.{◌↔◌}
use mathlib.Core.Bool.{Bool, true, false, cond}
use mathlib.Core.List.{List}
use Prim.Native.Nat.{ℕ, suc, ◌<◌}
use native.Mathlib.Nat.{suc_inj}
use native.Mathlib.Omega.{arith}
use lib.ListN.{get_or}
use borrow.Author.Tests.{not-false}
use Rattle.std.specs.Prelude.{Result, Ok, Err}
use Rattle.key.specs.Number.{key_at}
use Rattle.refusal.specs.Table.{applies_in, InOrder, by_number}
use Rattle.refusal.proofs.TableLaws.{AllFail, all_fail}
use Rattle.refusal.proofs.CallLaws.{all_pass, number_is, refusal-keeps, call-exactly, or_known}
use Rattle.own.specs.Own.{own_keys, IsOwn}
use Rattle.kept.specs.Keys.{has, Rising, plain}
use Rattle.kept.specs.Turned.{count_under}
use Rattle.kept.specs.Plain.{NotOwn}
use Rattle.kept.proofs.ListLaws.{has_in, has_out, every_at}
use Rattle.search.specs.Halving.{halvings}
use Rattle.cache.specs.Form.{keys_of}
use Rattle.cache.specs.Calls.{held_by}
use Rattle.cache.specs.Place.{find_key}
use Rattle.cache.specs.Searching.{searched, place_among, search_wrong, search_call}
use Rattle.cache.specs.declared.calls.Searched.{Searched}
use Rattle.std.specs.Prelude.{Ok}
use Rattle.cache.proofs.FormLaws.{true_form}
use Rattle.cache.proofs.FindLaws as found
use Rattle.cache.proofs.SearchLaws.{keys_bound, keys_few, search-bound, search-few}
use Rattle.neighbours.specs.Calls.{closest_wrong, closest_compared}
use Rattle.neighbours.specs.declared.nearest.Spot.{Spot}
use Rattle.neighbours.specs.declared.nearest.Spot.TheVariants.{Own, Held}
use Rattle.gauge_commit.specs.Sending.{answer}
use Rattle.gauge.specs.Nearest.{closest_answered, nearest_call}
use Rattle.gauge.specs.Searching.{search_answered, gauge_search, SearchTells, Few, SearchComparesFew, ClosestComparesFew}

-- ---- places

-- the place of a key that is there, and of one that is not
place_none : (k : ℕ) (ks : List ℕ) → place_among k ks ≡ 0 → has k ks ≡ false
unfolding place_among
place_none k ks e = by (has k ks) e
  where
    by : (b : Bool) → cond b (suc (count_under k ks)) 0 ≡ 0 → b ≡ false
    by true h = absurd (omega arith)
    by false h = refl

place_out : (k : ℕ) (ks : List ℕ) → has k ks ≡ false → place_among k ks ≡ 0
unfolding place_among
place_out k ks e = rw e refl

place_some : (k : ℕ) (ks : List ℕ) → Rising plain 0 ks → (i : ℕ) → place_among k ks ≡ suc i → get_or ks i 0 ≡ k
unfolding place_among
place_some k ks r i e = by (has k ks) refl e
  where
    by : (b : Bool) → has k ks ≡ b → cond b (suc (count_under k ks)) 0 ≡ suc i → get_or ks i 0 ≡ k
    by true h n =
        let at : find_key k ks ≡ Ok (count_under k ks) = found.found_sought k 0 ks r h in
        subst (λ (j : ℕ). get_or ks j 0 ≡ k) (suc_inj n) (subst (found.Tells k ks) at (found.found_tells k 0 ks r))
    by false h n = absurd (omega arith)

-- ---- refused, or done

module _ (own cache key : List ℕ) where
  abbrev keys : List ℕ
  keys = keys_of (held_by own cache)

  order : InOrder by_number 0 (search_wrong own cache key)
  order = (omega arith, omega arith, (omega arith, omega arith, (omega arith, omega arith, tt)))

  abbrev done : Searched
  done = searched 0 (place_among (key_at 0 key) keys) (halvings keys (key_at 0 key))

  abbrev refused : ℕ → Searched
  refused n = searched n 0 0

  -- 1 is given exactly where own record, cache or key are not in form
  pub search-exactly : (n : ℕ) → 0 < n
      → ((gauge_search own cache key).number ≡ n)
      ↔ ((applies_in n (search_wrong own cache key) ≡ true) × ((m : ℕ) → m < n → applies_in m (search_wrong own cache key) ≡ false))
  unfolding search_call
  search-exactly n p = call-exactly (λ (s : Searched). s.number) refused (λ n. refl) done refl (search_wrong own cache key) 0 order n p

  -- refused: the counts are 0
  pub search-keeps : 0 < (gauge_search own cache key).number → ((gauge_search own cache key).first ≡ 0) × ((gauge_search own cache key).second ≡ 0)
  unfolding search_call
  search-keeps p = (of (λ (s : Searched). s.place) (λ n. refl), of (λ (s : Searched). s.compared) (λ n. refl))
    where
      of : (count : Searched → ℕ) → ((n : ℕ) → count (refused n) ≡ 0) → count (search_call own cache key) ≡ 0
      of count none =
          refusal-keeps (λ (s : Searched). s.number) refused (λ n. refl) done refl count 0 none (search_wrong own cache key) p

  module _ (e : (gauge_search own cache key).number ≡ 0) where
    passes : AllFail (search_wrong own cache key)
    unfolding search_call
    passes =
        all_fail by_number (search_wrong own cache key) 0 order
        (sym (number_is (λ (s : Searched). s.number) refused (λ n. refl) done refl (search_wrong own cache key)) ∙ e)

    -- accepted: place and steps of halving
    pub search-does : gauge_search own cache key ≡ answer 0 (place_among (key_at 0 key) keys) (halvings keys (key_at 0 key))
    unfolding search_call
    search-does = ap search_answered (all_pass refused (search_wrong own cache key) done passes)

    first_is : (gauge_search own cache key).first ≡ place_among (key_at 0 key) keys
    unfolding search_call
    first_is = ap (λ (s : Searched). s.place) (all_pass refused (search_wrong own cache key) done passes)

    rises : Rising plain 0 keys
    rises = (true_form (own_keys own) cache (not-false _ passes.1.0)).held.rising

-- ---- what the first number tells

pub search_tells : SearchTells
search_tells own cache key e =
    let k = key_at 0 key in
    let ks = keys_of (held_by own cache) in
    record {
      none = (
        (λ n m. differ (sym (has_in k ks m) ∙ place_none k ks (sym (first_is own cache key e) ∙ n))),
        (λ out. first_is own cache key e ∙ place_out k ks (has_out k ks out)),
      );
      place = (λ i n. place_some k ks (rises own cache key e) i (sym (first_is own cache key e) ∙ n));
    }
  where
    differ : ◌≡◌ {A = Bool} true false → ⊥
    differ z = let y : ◌≡◌ {A = ℕ} 0 1 = cc in absurd (omega arith)

-- our own key is not held
pub own_not-held : (own cache key : List ℕ) → (gauge_search own cache key).number ≡ 0 → IsOwn (own_keys own) (key_at 0 key)
    → (gauge_search own cache key).first ≡ 0
own_not-held own cache key e ours =
    let f = true_form (own_keys own) cache (not-false _ (passes own cache key e).1.0) in
    (search_tells own cache key e).none.1
    (λ m. every_at (NotOwn (own_keys own)) (key_at 0 key) (keys_of (held_by own cache)) f.held.others m ours)

-- ---- how few

pub search_compares_few : SearchComparesFew
search_compares_few own cache key = (search-bound own cache key, (search-few own cache key).1)

-- whatever the path is
pub closest_few : (own cache path target : List ℕ) → Few own cache (closest_compared own cache path target)
unfolding closest_compared
closest_few own cache path target =
    or_known (Few own cache) (λ (n : ℕ). 0) (closest_wrong own cache path target) (halvings (keys_of (held_by own cache)) (key_at 0 target))
    (λ n. (omega arith, omega arith))
    (λ f. (keys_bound own cache (key_at 0 target), keys_few own cache (key_at 0 target) (not-false _ f.1.0)))

pub closest_compares_few : ClosestComparesFew
closest_compares_few own cache path target = by (nearest_call own cache path target) (closest_few own cache path target)
  where
    by : (r : Result Spot ℕ) → Few own cache (closest_compared own cache path target)
        → Few own cache (closest_answered (closest_compared own cache path target) r).second
    by (Err n) f = (omega arith, omega arith)
    by (Ok (Own i)) f = f
    by (Ok (Held j)) f = f
