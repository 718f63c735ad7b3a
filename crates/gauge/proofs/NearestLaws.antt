-- Laws of the closest record as the radio program is told of it: the record at the place that is answered is the one that is shown, and no other answer of the
-- search is so. Assumes nothing.
use mathlib.Core.Path.{◌≡◌, refl, sym, ap, ◌∙◌}
use mathlib.Core.Logic.{◌⊎◌, inl, inr}
use mathlib.Core.Bool.{Bool, true, false, ◌||◌}
use mathlib.Core.List.{List, [], ◌∷◌, ◌++◌}
use Prim.Native.Nat.{ℕ, zero, suc, ◌*◌, ◌≤◌, ◌<◌}
use native.Mathlib.Omega.{arith}
use lib.ListN.{length, get_or}
use borrow.Author.Tests.{not-false}
use Rattle.octet.specs.Part.{same}
use Rattle.octet.proofs.TestLaws.{same_refl, same-eq}
use Rattle.key.specs.Number.{key_at}
use Rattle.record.specs.Record.{key_of}
use Rattle.own.specs.Own.{own_form, own_keys, own_records, own_record, own_place, IsOwn}
use Rattle.own.proofs.FormLaws.{own_formed}
use Rattle.own.proofs.PlaceLaws.{place_key_lem}
use Rattle.gauge_plan.proofs.OwnLaws.{place_within, record_in}
use Rattle.refusal.specs.Table.{Refusal, first_of, by_number}
use Rattle.refusal.proofs.TableLaws.{AllFail, all_fail}
use Rattle.refusal.proofs.CallLaws.{or_refuses, all_pass}
use Rattle.table.specs.Rows.{any_of}
use Rattle.table.specs.Seek.{seek}
use Rattle.std.specs.Prelude.{Option, Some, None, Result, Ok, Err}
use Rattle.table.proofs.RowLaws.{row_at, rows-length}
use Rattle.table.proofs.SeekLaws.{found_within, found_passes, none_found}
use Rattle.kept.specs.Keys.{◌∈◌}
use Rattle.cache.specs.Form.{held_in, held_of}
use Rattle.cache.specs.Calls.{held_by}
use Rattle.cache.proofs.FormLaws.{true_form, form_laid}
use Rattle.neighbours.specs.Closest.{off_path, closest_past}
use Rattle.neighbours.specs.Calls.{shown, shown_by, Inside, closest_wrong, closest_call}
use Rattle.neighbours.specs.declared.nearest.Spot.{Spot}
use Rattle.neighbours.specs.declared.nearest.Spot.TheVariants.{Own, Held}
use Rattle.neighbours.proofs.ClosestLaws.{held-key, one_held, closest-among}
use Rattle.neighbours.proofs.SkipLaws.{has-off}
use Rattle.neighbours.proofs.CallLaws.{closest-does}
use Rattle.neighbours.proofs.OneLaws.{nearest-one}
use Rattle.gauge.specs.Nearest.{standing, nearest_call}

any_of_lem : (test : List ℕ → Bool) (y : List ℕ) (l : List (List ℕ)) → y ∈ l → test y ≡ true → any_of test l ≡ true
unfolding any_of
any_of_lem test y [] m e = absurd m
any_of_lem test y (r ∷ l) (inl is) e = rw (ap test (sym is) ∙ e) refl
any_of_lem test y (r ∷ l) (inr m) e = go (test r) (any_of_lem test y l m e)
  where
    go : (b : Bool) → any_of test l ≡ true → b || any_of test l ≡ true
    go true p = refl
    go false p = p

in_either : (r : List ℕ) (xs ys : List (List ℕ)) → r ∈ (xs ++ ys) → (r ∈ xs) ⊎ (r ∈ ys)
in_either r [] ys i = inr i
in_either r (x ∷ xs) ys (inl e) = inl (inl e)
in_either r (x ∷ xs) ys (inr i) = elim (in_either r xs ys i) [ inl j ↦ inl (inr j) | inr j ↦ inr j ]

module _ (own cache path target : List ℕ) where
  abbrev rows-wrong : List Refusal
  rows-wrong = closest_wrong own cache path target

  abbrev nearest : List ℕ
  nearest = closest_past own (held_by own cache) path (key_at 0 target)

  abbrev found : Option ℕ
  found = seek (λ (q : List ℕ). same q nearest) 0 (held_by own cache)

  -- where it stands if it is one of our own
  abbrev at : ℕ
  at = own_place (own_keys own) (key_of nearest)

  key-own : (r : List ℕ) → r ∈ own_records own → IsOwn (own_keys own) (key_of r)
  key-own r m = held-key r (own_records own) m

  -- the own record of its key's place
  own-record : own_form own ≡ true → (r : List ℕ) → r ∈ own_records own → own_record own (own_place (own_keys own) (key_of r)) ≡ r
  own-record owned r m =
      let o = key-own r m in
      let i = own_place (own_keys own) (key_of r) in
      one_held 0 (own_records own) (own_record own i) r (own_formed own owned).rising (record_in own owned i (place_within own (key_of r) o)) m
      (place_key_lem own (key_of r) o)

  -- the record at the place found
  module _ (a : AllFail rows-wrong) where
    room : 100 * held_in (own_keys own) cache ≤ length cache
    unfolding held_of
    room = (form_laid (own_keys own) (held_in (own_keys own) cache) cache (true_form (own_keys own) cache (not-false _ a.1.0))).room

    shown-at : (f : Option ℕ) → found ≡ f → (shown_by own cache (Ok (standing at f)) ≡ shown 0 nearest) × Inside own cache (Ok (standing at f))
    unfolding held_of
    shown-at (Some j) e =
        let within = found_within (λ (q : List ℕ). same q nearest) j (held_by own cache) e in
        let is = same-eq (get_or (held_by own cache) j []) nearest (found_passes (λ (q : List ℕ). same q nearest) j (held_by own cache) e) in
        let few : j < held_in (own_keys own) cache = omega (arith, within, rows-length 100 (held_in (own_keys own) cache) cache) in
        (ap (shown 0) (sym (row_at 100 (held_in (own_keys own) cache) cache j few) ∙ is), (within, omega (arith, few, room)))
    shown-at None e = (ap (shown 0) (own-record owned nearest mine), place_within own (key_of nearest) (key-own nearest mine))
      where
        owned : own_form own ≡ true
        owned = not-false (own_form own) a.0

        by : (nearest ∈ own_records own) ⊎ (nearest ∈ off_path path (held_by own cache)) → nearest ∈ own_records own
        by (inl m) = m
        by (inr m) =
            let there = any_of_lem (λ (q : List ℕ). same q nearest) nearest (held_by own cache) (has-off path nearest (held_by own cache) m).0 (same_refl nearest) in
            let z : ◌≡◌ {A = Bool} true false = sym there ∙ none_found (λ (q : List ℕ). same q nearest) 0 (held_by own cache) e in
            absurd (let y : ◌≡◌ {A = ℕ} 0 1 = cc in omega arith)

        mine : nearest ∈ own_records own
        mine = by (in_either nearest (own_records own) (off_path path (held_by own cache)) (closest-among (key_at 0 target) own (off_path path (held_by own cache)) owned))

    pub nearest-done : nearest_call own cache path target ≡ Ok (standing at found)
    unfolding nearest_call
    nearest-done = all_pass Err rows-wrong (Ok (standing at found)) a

  by_number_lem : (n : ℕ) → first_of rows-wrong ≡ n
      → (shown_by own cache (nearest_call own cache path target) ≡ closest_call own cache path target) × Inside own cache (nearest_call own cache path target)
  by_number_lem zero e =
      let a = all_fail by_number rows-wrong 0 (omega arith, omega arith, (omega arith, omega arith, (omega arith, omega arith, (omega arith, omega arith, tt)))) e in
      let s = shown-at a found refl in
      (ap (shown_by own cache) (nearest-done a) ∙ s.0 ∙ sym (closest-does own cache path target a), rw (nearest-done a) s.1)
  by_number_lem (suc n) e =
      let is : nearest_call own cache path target ≡ Err (first_of rows-wrong) = unfold nearest_call in or_refuses Err rows-wrong _ (omega (arith, e)) in
      let does : closest_call own cache path target ≡ shown (first_of rows-wrong) [] =
      unfold closest_call in or_refuses (λ (k : ℕ). shown k []) rows-wrong _ (omega (arith, e)) in
      (ap (shown_by own cache) is ∙ sym does, rw is tt)

  -- what is answered is the record that is shown
  pub nearest-shows : shown_by own cache (nearest_call own cache path target) ≡ closest_call own cache path target
  nearest-shows = (by_number_lem (first_of rows-wrong) refl).0

  -- and what the search answers is that
  pub nearest-is : (r : Result Spot ℕ) → shown_by own cache r ≡ closest_call own cache path target → Inside own cache r → r ≡ nearest_call own cache path target
  nearest-is r e i = nearest-one own cache path target r (nearest_call own cache path target) e i nearest-shows (by_number_lem (first_of rows-wrong) refl).1
