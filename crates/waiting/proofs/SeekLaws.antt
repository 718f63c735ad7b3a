-- Laws of the place that was found: that it is in form, and that freed it leaves none for its key. Elsewhere: where it is and that it passes the test, in
-- SeekLaws of the crate table. Assumes nothing.
use mathlib.Core.Path.{◌≡◌, refl, sym, ap, ◌∙◌, subst}
use mathlib.Core.Bool.{Bool, true, false, cond}
use mathlib.Core.List.{List, [], ◌∷◌}
use Prim.Native.Nat.{ℕ, zero, suc, ◌+◌, ◌*◌, ◌<◌}
use native.Mathlib.Omega.{arith}
use lib.Dec.{eqb}
use lib.ListN.{length, get_or}
use borrow.Author.Tests.{eqb-true}
use Rattle.octet.specs.Part.{part}
use Rattle.octet.proofs.TestLaws.{both_true}
use Rattle.key.specs.Number.{key_at}
use Rattle.record.specs.Record.{key_of, record_form}
use Rattle.own.specs.Own.{Own, IsOwn}
use Rattle.table.proofs.RowLaws.{rows-length, row_at}
use Rattle.table.proofs.SeekLaws.{Here, seek_is, found_within, found_passes}
use Rattle.table.proofs.SeekLaws.Here.{here}
use Rattle.std.specs.Prelude.{Some}
use Rattle.waiting.specs.Place.{id_of, kind_of, place_key}
use Rattle.table.specs.Rows.{any_of}
use Rattle.waiting.specs.Form.{is_inquiry, place_form, used_of, places_of, waiting_form}
use Rattle.table.specs.Seek.{seek}
use Rattle.waiting.specs.Seek.{is_at}
use Rattle.waiting.specs.Open.{freed}
use Rattle.waiting.proofs.FormLaws.{Placed, form-placed}
use Rattle.waiting.proofs.PlaceLaws.{key-at, record_at_lem, inquiry-record, inquiry-key, inquiry-other}

-- a place of a table in form is in form
pub placed_at : (own : Own) (low i : ℕ) (ps : List (List ℕ)) → Placed own low ps → i < length ps → place_form own (get_or ps i []) ≡ true
placed_at own low i [] h l = absurd (omega arith)
placed_at own low zero (p ∷ ps) h l = h.0
placed_at own low (suc i) (p ∷ ps) h l = placed_at own (suc (id_of p)) i ps h.3 (omega arith)

-- an inquiry found in a table in form: its place is used, and its record, where it lies, is in form, of the place's key, which is not ours
module _ (own : Own) (t : List ℕ) (ok : waiting_form own t ≡ true) (id i : ℕ) (e : seek (is_at id 2) 0 (places_of t) ≡ Some i) where
  pub inquiry-within : i < used_of t
  inquiry-within = omega (arith, found_within (is_at id 2) i (places_of t) e, rows-length 140 (used_of t) t)

  p : List ℕ
  p = part (140 * i) 140 t

  is-place : get_or (places_of t) i [] ≡ p
  unfolding p
  is-place = row_at 140 (used_of t) t i inquiry-within

  formed : place_form own p ≡ true
  formed = sym (ap (place_form own) is-place) ∙ placed_at own 0 i (places_of t) (form-placed own t ok) (found_within (is_at id 2) i (places_of t) e)

  passes : (eqb (id_of p) id ≡ true) × (eqb (kind_of p) 2 ≡ true)
  passes = both_true (eqb (id_of p) id) (eqb (kind_of p) 2) (sym (ap (is_at id 2) is-place) ∙ found_passes (is_at id 2) i (places_of t) e)

  inquires : kind_of p ≡ 2
  inquires = eqb-true (kind_of p) 2 passes.1

  pub found-record : record_form (part (140 * i + 40) 100 t) ≡ true
  unfolding p
  found-record = sym (ap record_form (record_at_lem (140 * i) t)) ∙ inquiry-record own p formed inquires

  pub found-key : key_of (part (140 * i + 40) 100 t) ≡ key_at (140 * i + 8) t
  unfolding p
  found-key = sym (ap key_of (record_at_lem (140 * i) t)) ∙ inquiry-key own p formed inquires ∙ key-at (140 * i) t

  pub found-other : ¬ IsOwn own (key_at (140 * i + 8) t)
  unfolding p
  found-other d = inquiry-other own p formed inquires (subst (IsOwn own) (sym (key-at (140 * i) t)) d)

-- ---- the only inquiry for a key: freed, it leaves none

ahead : (test : List ℕ → Bool) (n j : ℕ) (ps : List (List ℕ)) → seek test (n + 1) ps ≡ Some (n + j) → 0 < j
ahead test n j ps e = go (seek_is test (n + 1) (n + j) ps e)
  where
    go : Here test (n + 1) (n + j) ps → 0 < j
    go (here k d l t) = omega arith

only_by : (k : ℕ) (own : Own) (low n j : ℕ) (p : List ℕ) (ps : List (List ℕ)) (b : Bool) → is_inquiry k p ≡ b → Placed own low (p ∷ ps)
    → cond b (Some n) (seek (is_inquiry k) (n + 1) ps) ≡ Some (n + j)
    → ((i : ℕ) → seek (is_inquiry k) (n + 1) ps ≡ Some ((n + 1) + i) → any_of (is_inquiry k) (freed i ps) ≡ false)
    → any_of (is_inquiry k) (freed j (p ∷ ps)) ≡ false
unfolding freed any_of
only_by k own low n zero p ps true is h e later =
    let both = both_true (eqb (kind_of p) 2) (eqb (place_key p) k) is in
    ap (λ (m : ℕ). any_of (is_inquiry m) ps) (sym (eqb-true (place_key p) k both.1)) ∙ h.2 (eqb-true (kind_of p) 2 both.0)
only_by k own low n (suc j) p ps true is h e later = let z : n ≡ n + suc j = cc in absurd (omega arith)
only_by k own low n zero p ps false is h e later = let l = ahead (is_inquiry k) n 0 ps e in absurd (omega arith)
only_by k own low n (suc j) p ps false is h e later =
    let d : n + suc j ≡ (n + 1) + j = omega arith in
    rw is (later j (e ∙ ap Some d))

pub freed_only : (k : ℕ) (own : Own) (low n i : ℕ) (ps : List (List ℕ)) → Placed own low ps → seek (is_inquiry k) n ps ≡ Some (n + i)
    → any_of (is_inquiry k) (freed i ps) ≡ false
unfolding seek
freed_only k own low n i [] h e = let z : ◌≡◌ {A = ℕ} 0 1 = cc in absurd (omega arith)
freed_only k own low n i (p ∷ ps) h e =
    only_by k own low n i p ps (is_inquiry k p) refl h e (λ j d. freed_only k own (suc (id_of p)) (n + 1) j ps h.3 d)
