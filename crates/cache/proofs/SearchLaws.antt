-- Laws of the search for a key as a call: what it answers by what the search tells, and how few keys it compares. Assumes nothing.
use mathlib.Core.Path.{◌≡◌, sym, ap, ap₂, ◌∙◌}
use mathlib.Core.Bool.{Bool, true, false, cond}
use mathlib.Core.List.{List}
use Prim.Native.Nat.{ℕ, suc, ◌+◌, ◌≤◌}
use native.Mathlib.Omega.{arith}
use lib.Dec.{ltb}
use lib.ListN.{length, length-map}
use borrow.Author.Tests.{not-false}
use Rattle.std.specs.Prelude.{Ok, Err}
use Rattle.key.specs.Number.{key_at}
use Rattle.record.specs.Record.{key_of}
use Rattle.refusal.proofs.CallLaws.{or_known}
use Rattle.own.specs.Own.{own_keys}
use Rattle.table.proofs.RowLaws.{rows-length}
use Rattle.kept.specs.Turned.{count_under}
use Rattle.kept.specs.Keys.{has}
use Rattle.kept.proofs.TurnLaws.{among-le}
use Rattle.search.specs.Halving.{halvings, digits}
use Rattle.search.specs.Sought.{sought_in}
use Rattle.search.proofs.SeekLaws.{sought-held, sought-none}
use Rattle.search.specs.declared.Sought.{Sought}
use Rattle.search.proofs.HalvingLaws.{at_most_digits, digits_le_lem, digits_256}
use Rattle.cache.specs.declared.calls.Searched.{Searched}
use Rattle.cache.specs.Form.{keys_of, held_in, held_of, cache_form}
use Rattle.cache.specs.Calls.{held_by}
use Rattle.cache.specs.Searching.{searched, place_among, search_wrong, search_call}
use Rattle.cache.proofs.FormLaws.{true_form, form_laid}

-- ---- by what the search tells

module _ (k : ℕ) (ks : List ℕ) {q : Sought} (is : q ≡ sought_in k ks) {at : ℕ} where
  pub told-held : q.found ≡ Ok at → searched 0 (at + 1) q.compared ≡ searched 0 (place_among k ks) (halvings ks k)
  unfolding place_among
  told-held h =
      let there = sought-held k ks is h in
      let next : at + 1 ≡ suc (count_under k ks) = omega (arith, there.1) in
      rw there.0 (ap₂ (searched 0) next (ap (λ (s : Sought). s.compared) is))

  pub told_none : q.found ≡ Err at → searched 0 0 q.compared ≡ searched 0 (place_among k ks) (halvings ks k)
  unfolding place_among
  told_none h = let out = sought-none k ks is h in rw out.0 (ap (searched 0 0) (ap (λ (s : Sought). s.compared) is))

-- ---- how few

-- at most 256 records are held
pub held_most : (own cache : List ℕ) → cache_form (own_keys own) cache ≡ true → length (held_by own cache) ≤ 256
unfolding held_of
held_most own cache e =
    let f = true_form (own_keys own) cache e in
    let n = held_in (own_keys own) cache in
    omega (arith, rows-length 100 n cache, (form_laid (own_keys own) n cache f).room, f.places.most)

-- the keys held are as many as the records, and a search compares at most as many as that number has binary digits
pub keys_bound : (own cache : List ℕ) (k : ℕ) → halvings (keys_of (held_by own cache)) k ≤ digits (length (held_by own cache))
keys_bound own cache k =
    omega (arith, at_most_digits (keys_of (held_by own cache)) k, ap digits (length-map (held_by own cache) key_of))

pub keys_few : (own cache : List ℕ) (k : ℕ) → cache_form (own_keys own) cache ≡ true → halvings (keys_of (held_by own cache)) k ≤ 9
keys_few own cache k e =
    omega (arith, keys_bound own cache k, digits_le_lem (length (held_by own cache)) 256 (held_most own cache e), digits_256)

place_few : (k : ℕ) (ks : List ℕ) → place_among k ks ≤ length ks + 1
unfolding place_among
place_few k ks = by (has k ks)
  where
    by : (b : Bool) → cond b (suc (count_under k ks)) 0 ≤ length ks + 1
    by true = omega (arith, among-le (λ (j : ℕ). ltb j k) ks)
    by false = omega arith

module _ (own cache key : List ℕ) where
  abbrev place : ℕ
  place = place_among (key_at 0 key) (keys_of (held_by own cache))

  abbrev count : ℕ
  count = halvings (keys_of (held_by own cache)) (key_at 0 key)

  pub search-bound : (search_call own cache key).compared ≤ digits (length (held_by own cache))
  unfolding search_call
  search-bound =
      or_known (λ (r : Searched). r.compared ≤ digits (length (held_by own cache))) (λ (n : ℕ). searched n 0 0) (search_wrong own cache key)
      (searched 0 place count) (λ n. omega arith) (λ f. keys_bound own cache (key_at 0 key))

  pub search-few : ((search_call own cache key).place ≤ 257) × ((search_call own cache key).compared ≤ 9)
  unfolding search_call
  search-few =
      or_known (λ (r : Searched). (r.place ≤ 257) × (r.compared ≤ 9)) (λ (n : ℕ). searched n 0 0) (search_wrong own cache key)
      (searched 0 place count)
      (λ n. (omega arith, omega arith))
      (λ f.
      let e = not-false _ f.1.0 in (
        omega (arith, place_few (key_at 0 key) (keys_of (held_by own cache)), length-map (held_by own cache) key_of, held_most own cache e),
        keys_few own cache (key_at 0 key) e,
      ))
