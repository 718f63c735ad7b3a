-- What is ours, in the words of the sentences: the test and the property; own records in form, and bytes; the list round one of our keys; our CPAs.
-- Assumes nothing.
use mathlib.Core.Path.{◌≡◌, refl, sym, ap, subst, ◌∙◌}
use mathlib.Core.Logic.{◌↔◌, inl, inr}
use mathlib.Core.Bool.{Bool, true, false, not}
use mathlib.Core.List.{List, [], ◌∷◌}
use Prim.Native.Nat.{ℕ, zero, suc, ◌+◌, ◌*◌, ◌/◌, ◌≤◌, ◌<◌}
use native.Mathlib.Omega.{arith}
use lib.ListN.{length, take, drop, get_or}
use lib.Seq.{get_or-drop, take-nil, drop-nil}
use borrow.Author.Tests.{not-true, eqb-true}
use Rattle.octet.specs.Number.{Bytes}
use Rattle.octet.specs.Part.{part}
use Rattle.octet.proofs.PartLaws.{length_part, part-digits}
use Rattle.key.specs.Around.{Side, side_of, nearness}
use Rattle.record.specs.Record.{record_form}
use Rattle.own.specs.Own.{Own, own_form, own_keys, own_records, is_own, IsOwn}
use Rattle.own.proofs.PlaceLaws.{not_own, own_not}
use Rattle.own.proofs.FormLaws as form
use Rattle.gauge_plan.proofs.OwnLaws.{formed_in}
use Rattle.table.specs.Rows.{rows}
use Rattle.table.proofs.RowLaws.{rows-length, row_at}
use Rattle.kept.specs.Keys.{◌∈◌}
use Rattle.kept.specs.Neighbours.{IsNeighbours}
use Rattle.kept.specs.Plain.{neighbours}
use Rattle.cache.specs.Form.{keys_of, cache_form}
use Rattle.cache.specs.Calls.{held_by}
use Rattle.neighbours.proofs.CallLaws.{list_right, list_only}
use Rattle.cpas.specs.Cpas.{cpa_size, behind_cpa, cpas_form, cpa_of}
use Rattle.cpas.proofs.CpaLaws.{whole, form-tells, form-end}

-- ---- the test and the property

pub ours_iff : (own : Own) (k : ℕ) → (not (is_own own k) ≡ true) ↔ (¬ IsOwn own k)
ours_iff own k = (λ e. not_own own k (not-true (is_own own k) e), λ h. ap not (own_not own k h))

-- ---- own records

-- where a row stands
place_of : (rs : List (List ℕ)) (r : List ℕ) → r ∈ rs → (i : ℕ) × (i < length rs) × (r ≡ get_or rs i [])
place_of [] r m = absurd m
place_of (q ∷ rs) r (inl e) = (0, omega arith, e)
place_of (q ∷ rs) r (inr m) = let w = place_of rs r m in (suc w.0, omega (arith, w.1), w.2)

row_place : (n : ℕ) (s r : List ℕ) → r ∈ rows 100 n s → (i : ℕ) × (i < n) × (r ≡ part (100 * i) 100 s)
row_place n s r m =
    let w = place_of (rows 100 n s) r m in
    let few : w.0 < n = omega (arith, w.1, rows-length 100 n s) in
    (w.0, few, w.2 ∙ row_at 100 n s w.0 few)

pub own_formed : (own : List ℕ) → own_form own ≡ true → (r : List ℕ) → r ∈ own_records own → record_form r ≡ true
own_formed own e r m = formed_in (own_records own) (form.own_formed own e).formed r m

rows_bytes : (n : ℕ) (s : List ℕ) → Bytes s → (r : List ℕ) → r ∈ rows 100 n s → Bytes r
rows_bytes n s b r m =
    let w = row_place n s r m in
    subst Bytes (sym w.2) (part-digits 256 (100 * w.0) 100 s (omega arith) b)

pub own_bytes : (own : List ℕ) → Bytes own → (r : List ℕ) → r ∈ own_records own → Bytes r
own_bytes own b r m = rows_bytes (length own / 100) own b r m

-- ---- the list round one of our keys

module _ (own cache : List ℕ) (k : ℕ) (ours : IsOwn (own_keys own) k) (form : cache_form (own_keys own) cache ≡ true) where
  pub right_of : (s : Side) → IsNeighbours (side_of k) (nearness k) s (keys_of (held_by own cache)) (neighbours k s (keys_of (held_by own cache)))
  right_of s = list_right own cache k form s

  pub only_of : (s : Side) (l : List ℕ) → IsNeighbours (side_of k) (nearness k) s (keys_of (held_by own cache)) l
      → l ≡ neighbours k s (keys_of (held_by own cache))
  only_of s l h = list_only own cache k form s l h

-- ---- our CPAs, of whatever place

no_cpa : (i : ℕ) → length (cpa_of i []) ≤ 1024
unfolding cpa_of
no_cpa zero = omega (arith, ap length (ap (take (cpa_size [])) (drop-nil {A = ℕ} 2) ∙ take-nil (cpa_size [])))
no_cpa (suc i) = subst (λ (b : List ℕ). length (cpa_of i b) ≤ 1024) (sym (drop-nil (2 + cpa_size []))) (no_cpa i)

none_left : (b : List ℕ) → length b ≡ 0 → b ≡ []
none_left [] e = refl
none_left (x ∷ b) e = absurd (omega (arith, e))

pub cpa_most : (n i : ℕ) (b : List ℕ) → cpas_form n b ≡ true → length (cpa_of i b) ≤ 1024
unfolding cpa_of
cpa_most zero i b e = subst (λ (c : List ℕ). length (cpa_of i c) ≤ 1024) (sym (none_left b (eqb-true (length b) 0 (sym (form-end 0 b) ∙ e)))) (no_cpa i)
cpa_most (suc n) zero b e =
    let w = whole b (form-tells n b e).0 in
    omega (arith, w.most, length_part 2 (cpa_size b) b w.room)
cpa_most (suc n) (suc i) b e = cpa_most n i (behind_cpa b) (form-tells n b e).1

pub cpa_bytes : (i : ℕ) (b : List ℕ) → Bytes b → Bytes (cpa_of i b)
unfolding cpa_of
cpa_bytes zero b d = part-digits 256 2 (cpa_size b) b (omega arith) d
cpa_bytes (suc i) b d = cpa_bytes i (behind_cpa b) (λ j. subst (λ (x : ℕ). x < 256) (sym (get_or-drop (2 + cpa_size b) b j 0)) (d (2 + cpa_size b + j)))
