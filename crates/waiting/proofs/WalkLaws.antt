-- A turn and the end of each walk over the used places: the answer for the whole is the answer for what is left from place number at on.
-- In this order: where a place is opened; how many are used; the form of the places. Elsewhere: searches, in SeekLaws of the crate table. Assumes nothing.
use mathlib.Core.Path.{◌≡◌, refl, sym, ap, ap₂, ◌∙◌}
use mathlib.Core.Bool.{Bool, true, false, not, ◌&&◌}
use mathlib.Core.List.{List, [], ◌∷◌}
use Prim.Native.Nat.{ℕ, ◌+◌, ◌*◌, ◌-◌, ◌≤◌, ◌<◌}
use native.Mathlib.Nat.{add-zero}
use native.Mathlib.Numerals.{add-one}
use native.Mathlib.Omega.{arith}
use lib.Dec.{eqb, leb}
use lib.ListN.{take, drop, get_or}
use borrow.Author.Tests.{eq-eqb, ne_eqb, le-leb, lt-leb}
use Rattle.octet.specs.Number.{value_le}
use Rattle.octet.specs.Part.{part}
use Rattle.key.specs.Number.{key_at}
use Rattle.own.specs.Own.{Own}
use Rattle.table.specs.Rows.{rows, any_of}
use Rattle.table.proofs.RowLaws.{rows_next, rows_end}
use Rattle.table.proofs.PieceLaws.{part_lent}
use Rattle.table.proofs.SeekLaws.{any_found}
use Rattle.std.specs.Prelude.{Option, is_some}
use Rattle.waiting.specs.Place.{id_of, kind_of}
use Rattle.waiting.specs.Form.{is_inquiry, again, place_by, places_by, used_in}
use Rattle.table.specs.Seek.{seek}
use Rattle.waiting.specs.Seek.{is_at}
use Rattle.waiting.specs.Slot.{slot_in}
use Rattle.waiting.proofs.PlaceLaws.{id-at, kind_at, key-at}

-- ---- the tests, by the bytes of the table

pub at_is : (id kind from : ℕ) (t : List ℕ) {r : ℕ} → r ≡ value_le 256 (part from 4 t)
    → is_at id kind (part from 140 t) ≡ (eqb r id && eqb (get_or t (from + 4) 0) kind)
at_is id kind from t e = ap₂ (λ (n m : ℕ). eqb n id && eqb m kind) (id-at from t ∙ sym e) (kind_at from t)

pub inquiry-is : (k from : ℕ) (t : List ℕ) {r : Bool} → r ≡ eqb (key_at (from + 8) t) k
    → is_inquiry k (part from 140 t) ≡ (eqb (get_or t (from + 4) 0) 2 && r)
inquiry-is k from t e = ap₂ (λ (n : ℕ) (b : Bool). eqb n 2 && b) (kind_at from t) (ap (λ (n : ℕ). eqb n k) (key-at from t) ∙ sym e)

module _ (used : ℕ) (t : List ℕ) (at : ℕ) where
  -- the place number at, and those from there on
  abbrev pub place : List ℕ
  place = part (140 * at) 140 t

  abbrev pub left : List (List ℕ)
  left = drop at (rows 140 used t)

  abbrev pub later : List (List ℕ)
  later = drop (at + 1) (rows 140 used t)

  next : at < used → left ≡ place ∷ later
  next h = rows_next 140 used t at h

  none : used ≤ at → left ≡ []
  none h = rows_end 140 used t at h

  -- ---- where a place is opened

  module _ (id : ℕ) where
    pub slot-here : at < used → id ≤ id_of place → at + slot_in id left ≡ at
    unfolding slot_in
    slot-here h k = ap (λ (ps : List (List ℕ)). at + slot_in id ps) (next h) ∙ rw (le-leb id (id_of place) k) (add-zero at)

    pub slot-on : at < used → id_of place < id → at + slot_in id left ≡ (at + 1) + slot_in id later
    unfolding slot_in
    slot-on h k = ap (λ (ps : List (List ℕ)). at + slot_in id ps) (next h) ∙ rw (lt-leb id (id_of place) k) (omega arith)

    pub slot-end : used ≤ at → at + slot_in id left ≡ at
    unfolding slot_in
    slot-end h = ap (λ (ps : List (List ℕ)). at + slot_in id ps) (none h) ∙ add-zero at

  -- ---- how many are used

  pub used-here : at < used → get_or t (140 * at + 4) 0 ≡ 0 → at + used_in left ≡ at
  unfolding used_in
  used-here h e =
      ap (λ (ps : List (List ℕ)). at + used_in ps) (next h) ∙ rw (eq-eqb (kind_of place) 0 (kind_at (140 * at) t ∙ e)) (add-zero at)

  pub used-on : at < used → (get_or t (140 * at + 4) 0 ≡ 0 → ⊥) → at + used_in left ≡ (at + 1) + used_in later
  unfolding used_in
  used-on h e =
      ap (λ (ps : List (List ℕ)). at + used_in ps) (next h)
      ∙ rw (ne_eqb (kind_of place) 0 (λ z. e (sym (kind_at (140 * at) t) ∙ z))) (omega arith)

  pub used-end : used ≤ at → at + used_in left ≡ at
  unfolding used_in
  used-end h = ap (λ (ps : List (List ℕ)). at + used_in ps) (none h) ∙ add-zero at

  -- ---- the form of the places

  -- whether an inquiry's key is that of a later one
  pub again-not : (get_or t (140 * at + 4) 0 ≡ 2 → ⊥) → again place later ≡ false
  again-not h = rw (ne_eqb (kind_of place) 2 (λ e. h (sym (kind_at (140 * at) t) ∙ e))) refl

  pub again-found : get_or t (140 * at + 4) 0 ≡ 2 → {f : Option ℕ} → f ≡ seek (is_inquiry (key_at (140 * at + 8) t)) (at + 1) later
      → again place later ≡ is_some f
  again-found e d =
      ap₂ ◌&&◌ (eq-eqb (kind_of place) 2 (kind_at (140 * at) t ∙ e))
      (ap (λ (k : ℕ). any_of (is_inquiry k) later) (key-at (140 * at) t) ∙ any_found (is_inquiry (key_at (140 * at + 8) t)) (at + 1) later
      ∙ ap is_some (sym d))

  module _ (good : List ℕ → Bool) (own : Own) (low : ℕ) where
    -- the three tests of a place
    abbrev pub tests : Bool
    tests = place_by good own place && leb low (id_of place) && not (again place later)

    pub tests-are : {f a : Bool} {id : ℕ} → f ≡ place_by good own (take ((140 * at + 140) - 140 * at) (drop (140 * at) t))
        → id ≡ value_le 256 (part (140 * at) 4 t) → a ≡ again place later → tests ≡ (f && leb low id && not a)
    tests-are {f} {a} {id} ef ei ea =
        ap₂ (λ (x : Bool) (n : ℕ). x && leb low n && not (again place later))
        (ap (place_by good own) (sym (part_lent (140 * at) 140 t)) ∙ sym ef) (id-at (140 * at) t ∙ sym ei)
        ∙ ap (λ (x : Bool). f && leb low id && not x) (sym ea)

    pub form_not : at < used → tests ≡ false → places_by good own low left ≡ false
    unfolding places_by
    form_not h e = ap (places_by good own low) (next h) ∙ rw e refl

    pub form-on : at < used → tests ≡ true → places_by good own low left ≡ places_by good own (id_of place + 1) later
    unfolding places_by
    form-on h e = ap (places_by good own low) (next h) ∙ rw (e, add-one (id_of place)) refl

    pub form-end : used ≤ at → places_by good own low left ≡ true
    unfolding places_by
    form-end h = ap (places_by good own low) (none h)
