-- The form of the table, as a test and as a property of a list of places.
-- In this order: the used places as a type; how many are used; the test holds exactly for the bytes of such a list, which is unique.
-- Elsewhere: what keeps the form, in KeptLaws; what the form test answers, in FormedLaws of the crate waiting_form. Assumes nothing.
use mathlib.Core.Path.{◌≡◌, refl, sym, ap, ap₂, ◌∙◌}
use mathlib.Core.Logic.{◌↔◌}
use mathlib.Core.Bool.{Bool, true, false, not, ◌&&◌, cond}
use mathlib.Core.List.{List, [], ◌∷◌, ◌++◌, append_assoc}
use Prim.Native.Nat.{ℕ, zero, suc, ◌*◌, ◌-◌, ◌≤◌, zero-le, suc-le-suc}
use native.Mathlib.Nat.{not-suc-le-zero, le_of_suc-le-suc}
use native.Mathlib.Omega.{arith}
use lib.Dec.{eqb, leb}
use lib.ListN.{length, take, drop, get_or, replicate}
use lib.Seq.{take_at, drop_at, get_or-take}
use borrow.Author.Tests.{eq-eqb, ne_eqb, eqb-true, le-leb, leb-true, not-true}
use Rattle.octet.specs.Part.{all_zero}
use Rattle.octet.proofs.TestLaws.{both_true}
use Rattle.own.specs.Own.{Own}
use Rattle.table.specs.Rows.{rows, joined, bytes_of, Sized, Laid, any_of}
use Rattle.table.proofs.RowLaws.{rows-length, rows-sized, laid-bytes, bytes-length, bytes-rows, bytes-laid}
use Rattle.waiting.specs.Place.{id_of, kind_of, place_key}
use Rattle.waiting.specs.Form.{is_inquiry, again, place_form, places_by, places_form, used_in, used_of, places_of, waiting_form, PlacesForm}
use Rattle.waiting.proofs.PlaceLaws.{form_used}

-- ---- the used places, as a type: each in form, above those before it, and alone with its key where it is an inquiry

abbrev pub Placed : Own → ℕ → List (List ℕ) → Type 0
Placed own low [] = Unit {0}
Placed own low (p ∷ ps) =
    (place_form own p ≡ true) × (low ≤ id_of p) × (kind_of p ≡ 2 → any_of (is_inquiry (place_key p)) ps ≡ false) × Placed own (suc (id_of p)) ps

alone : (b y : Bool) → b && y ≡ false → b ≡ true → y ≡ false
alone true y e h = e
alone false y e h = let z : ◌≡◌ {A = ℕ} 0 1 = cc in absurd (omega arith)

alone_not : (b y : Bool) → (b ≡ true → y ≡ false) → not (b && y) ≡ true
alone_not true y h = rw (h refl) refl
alone_not false y h = refl

pub placed : (own : Own) (low : ℕ) (ps : List (List ℕ)) → places_form own low ps ≡ true → Placed own low ps
unfolding places_by
placed own low [] e = tt
placed own low (p ∷ ps) e =
    let last = both_true (place_form own p && leb low (id_of p) && not (again p ps)) (places_form own (suc (id_of p)) ps) e in
    let third = both_true (place_form own p && leb low (id_of p)) (not (again p ps)) last.0 in
    let first = both_true (place_form own p) (leb low (id_of p)) third.0 in (
      first.0,
      leb-true low (id_of p) first.1,
      (λ k. alone (eqb (kind_of p) 2) (any_of (is_inquiry (place_key p)) ps) (not-true (again p ps) third.1) (eq-eqb (kind_of p) 2 k)),
      placed own (suc (id_of p)) ps last.1,
    )

pub placed_form : (own : Own) (low : ℕ) (ps : List (List ℕ)) → Placed own low ps → places_form own low ps ≡ true
unfolding places_by
placed_form own low [] h = refl
placed_form own low (p ∷ ps) h =
    let only : not (again p ps) ≡ true =
    alone_not (eqb (kind_of p) 2) (any_of (is_inquiry (place_key p)) ps) (λ k. h.2 (eqb-true (kind_of p) 2 k)) in
    rw (h.0, le-leb low (id_of p) h.1, only) (placed_form own (suc (id_of p)) ps h.3)

-- ---- how many are used

used_le : (n : ℕ) (t : List ℕ) → used_in (rows 140 n t) ≤ n
unfolding used_in rows
used_le zero t = zero-le
used_le (suc n) t = go (eqb (kind_of (take 140 t)) 0) (used_le n (drop 140 t))
  where
    go : (b : Bool) {k : ℕ} → k ≤ n → cond b 0 (suc k) ≤ suc n
    go true h = zero-le
    go false h = suc-le-suc h

pub used_few : (t : List ℕ) → used_of t ≤ 16
unfolding used_of
used_few t = used_le 16 t

zeros_at : (z i : ℕ) → ◌≡◌ {A = ℕ} (get_or (replicate z 0) i 0) 0
zeros_at zero i = refl
zeros_at (suc z) zero = refl
zeros_at (suc z) (suc i) = zeros_at z i

-- of the bytes of places in form, so many as there are
used_bytes : (own : Own) (low : ℕ) (ps : List (List ℕ)) (n z : ℕ) → Sized 140 ps → Placed own low ps → length ps ≤ n
    → used_in (rows 140 n (joined ps ++ replicate z 0)) ≡ length ps
unfolding used_in rows joined
used_bytes own low [] zero z s h few = refl
used_bytes own low [] (suc n) z s h few =
    rw (eq-eqb (kind_of (take 140 (replicate z 0))) 0 (get_or-take 140 (replicate z 0) 4 0 (omega arith) ∙ zeros_at z 4)) refl
used_bytes own low (p ∷ ps) zero z s h few = absurd (not-suc-le-zero few)
used_bytes own low (p ∷ ps) (suc n) z s h few =
    let e = append_assoc p (joined ps) (replicate z 0) in
    let x : List ℕ = joined ps ++ replicate z 0 in
    ap (λ (t : List ℕ). cond (eqb (kind_of (take 140 t)) 0) 0 (suc (used_in (rows 140 n (drop 140 t))))) e
    ∙ ap₂ (λ (q : List ℕ) (t : List ℕ). cond (eqb (kind_of q) 0) 0 (suc (used_in (rows 140 n t)))) (take_at p x 140 s.0) (drop_at p x 140 s.0)
    ∙ ap (λ (b : Bool). cond b 0 (suc (used_in (rows 140 n x)))) (ne_eqb (kind_of p) 0 (form_used own p h.0))
    ∙ ap suc (used_bytes own (suc (id_of p)) ps n z s.1 h.3 (le_of_suc-le-suc few))

-- ---- what the test says

module _ (own : Own) (t : List ℕ) (e : waiting_form own t ≡ true) where
  outer : (eqb (length t) 2240 && all_zero (drop (140 * used_of t) t) ≡ true) × (places_form own 0 (places_of t) ≡ true)
  unfolding waiting_form
  outer = both_true (eqb (length t) 2240 && all_zero (drop (140 * used_of t) t)) (places_form own 0 (places_of t)) e

  inner : (eqb (length t) 2240 ≡ true) × (all_zero (drop (140 * used_of t) t) ≡ true)
  inner = both_true (eqb (length t) 2240) (all_zero (drop (140 * used_of t) t)) outer.0

  pub form-size : length t ≡ 2240
  form-size = eqb-true (length t) 2240 inner.0

  -- a table in form is laid out in its used places
  pub form_laid : Laid 140 (used_of t) t
  form_laid = record { room = omega (arith, form-size, used_few t); clear = inner.1 }

  pub form-placed : Placed own 0 (places_of t)
  form-placed = placed own 0 (places_of t) outer.1

  pub form_of : PlacesForm own t (places_of t)
  form_of = record {
    bytes = laid-bytes 140 (used_of t) t form_laid ∙ ap (λ (n : ℕ). bytes_of n (places_of t)) form-size;
    sized = rows-sized 140 (used_of t) t form_laid.room;
    few = omega (arith, rows-length 140 (used_of t) t, used_few t);
    places = outer.1;
  }

-- ---- a list of places in form, laid out: the table is in form, and read back it gives the list

module _ (own : Own) (ps : List (List ℕ)) (sized : Sized 140 ps) (few : length ps ≤ 16) (h : Placed own 0 ps) where
  fits : 140 * length ps ≤ 2240
  fits = omega arith

  pub made-used : used_of (bytes_of 2240 ps) ≡ length ps
  unfolding used_of bytes_of
  made-used = used_bytes own 0 ps 16 (2240 - length (joined ps)) sized h few

  pub made-places : places_of (bytes_of 2240 ps) ≡ ps
  made-places = ap (λ (n : ℕ). rows 140 n (bytes_of 2240 ps)) made-used ∙ bytes-rows 140 2240 ps sized fits

  pub made-form : waiting_form own (bytes_of 2240 ps) ≡ true
  unfolding waiting_form
  made-form =
      let size : length (bytes_of 2240 ps) ≡ 2240 = bytes-length 140 2240 ps sized fits in
      let clear : all_zero (drop (140 * used_of (bytes_of 2240 ps)) (bytes_of 2240 ps)) ≡ true =
      ap (λ (n : ℕ). all_zero (drop (140 * n) (bytes_of 2240 ps))) made-used ∙ (bytes-laid 140 2240 ps sized fits).clear in
      let good : places_form own 0 (places_of (bytes_of 2240 ps)) ≡ true = ap (places_form own 0) made-places ∙ placed_form own 0 ps h in
      rw (eq-eqb (length (bytes_of 2240 ps)) 2240 size, clear, good) refl

-- ---- so the test holds exactly where the bytes are those of a list of places in form, and this list is unique

pub form_unique : (own : Own) (t : List ℕ) (ps : List (List ℕ)) → PlacesForm own t ps → ps ≡ places_of t
form_unique own t ps f =
    sym (ap places_of f.bytes ∙ made-places own ps f.sized f.few (placed own 0 ps f.places))

pub form_test : (own : Own) (t : List ℕ) (ps : List (List ℕ)) → PlacesForm own t ps → waiting_form own t ≡ true
form_test own t ps f = ap (waiting_form own) f.bytes ∙ made-form own ps f.sized f.few (placed own 0 ps f.places)

pub form_exactly : (own : Own) (t : List ℕ) → (waiting_form own t ≡ true) ↔ PlacesForm own t (places_of t)
form_exactly own t = (form_of own t, form_test own t (places_of t))
