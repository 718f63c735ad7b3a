-- What the conversion makes of a waiting table in the old form: a table of today, whose places are the old ones converted, in their order, with the IDs,
-- kinds, tries and keys they had. And a table of today is in the old form, and stays. Assumes nothing.
use mathlib.Core.Path.{◌≡◌, refl, sym, ap, ap₂, ◌∙◌}
use mathlib.Core.Bool.{Bool, true, false, not, ◌&&◌, ◌||◌}
use mathlib.Core.List.{List, [], ◌∷◌, map}
use Prim.Native.Nat.{ℕ, suc, ◌+◌, ◌*◌, ◌≤◌}
use native.Mathlib.Omega.{arith}
use lib.Dec.{eqb, leb}
use lib.ListN.{length, take, drop, get_or, length-map}
use lib.Seq.{get_or-take, take-take}
use borrow.Author.Tests.{eqb-true}
use Rattle.octet.specs.Number.{value_be, value_le}
use Rattle.octet.specs.Part.{part, splice, all_zero}
use Rattle.octet.proofs.PartLaws.{length_part, part-splice}
use Rattle.octet.proofs.TestLaws.{both_true}
use Rattle.record.specs.Record.{key_of, record_form}
use Rattle.record.proofs.PlaceLaws.{part-part}
use Rattle.own.specs.Own.{is_own, Own}
use Rattle.table.specs.Rows.{bytes_of, Sized, any_of}
use Rattle.table.proofs.RowLaws.{rows-sized, rows-length}
use Rattle.waiting.specs.Place.{id_of, kind_of, tries_of, place_key, place_record}
use Rattle.waiting.specs.Form.{place_by, places_by, place_form, places_form, is_inquiry, again, used_of, places_of, waiting_form, PlacesForm}
use Rattle.waiting.proofs.PlaceLaws.{inquiry-is, record_key}
use Rattle.waiting.proofs.FormLaws.{form_of, used_few, form-size}
use Rattle.convert.specs.Old.{old_record_form, old_waiting_form}
use Rattle.cut.specs.Cut.{converted, converted_place}
use Rattle.convert.proofs.OldLaws.{new_old, old_length}
use Rattle.cut.proofs.CutLaws.{splice_self, converted-length, place_length, map-sized}
use Rattle.convert.proofs.RecordLaws.{take-before, converted-key, converted_form, converted_stays}
use Rattle.convert.proofs.CallLaws.{table-size, table-laid, table-places}

-- ---- one place

module _ (p : List ℕ) (long : length p ≡ 140) where
  record_long : length (converted (place_record p)) ≡ 100
  record_long = converted-length (place_record p) (length_part 40 100 p (omega (arith, long)))

  -- an inquiry has its record converted
  pub inquiry-place : eqb (kind_of p) 2 ≡ true → converted_place p ≡ splice 40 (converted (place_record p)) p
  unfolding converted_place
  inquiry-place e = rw e refl

  pub other_place : eqb (kind_of p) 2 ≡ false → converted_place p ≡ p
  unfolding converted_place
  other_place e = rw e refl

  -- what stands before the record is as it was
  front : take 40 (converted_place p) ≡ take 40 p
  front = by-case (eqb (kind_of p) 2) refl
    where
      by-case : (b : Bool) → eqb (kind_of p) 2 ≡ b → take 40 (converted_place p) ≡ take 40 p
      by-case true e =
          ap (take 40) (inquiry-place e) ∙ take-before 40 40 (converted (place_record p)) p (omega arith) (omega (arith, record_long, long))
      by-case false e = ap (take 40) (other_place e)

  byte : (i : ℕ) → i + 1 ≤ 40 → get_or (converted_place p) i 0 ≡ get_or p i 0
  byte i h =
      sym (get_or-take 40 (converted_place p) i 0 (omega arith)) ∙ ap (λ (l : List ℕ). get_or l i 0) front ∙ get_or-take 40 p i 0 (omega arith)

  pub same_id : id_of (converted_place p) ≡ id_of p
  same_id =
      ap (value_le 256) (sym (take-take 4 40 (converted_place p) (omega arith)) ∙ ap (take 4) front ∙ take-take 4 40 p (omega arith))

  pub same_kind : kind_of (converted_place p) ≡ kind_of p
  same_kind = byte 4 (omega arith)

  pub same-tries : tries_of (converted_place p) ≡ tries_of p
  same-tries = byte 5 (omega arith)

  pub same_key : place_key (converted_place p) ≡ place_key p
  same_key =
      ap (value_be 256)
      (sym (part-part 0 40 8 32 (converted_place p) (omega arith)) ∙ ap (part 8 32) front ∙ part-part 0 40 8 32 p (omega arith))

  inquiry-record : eqb (kind_of p) 2 ≡ true → place_record (converted_place p) ≡ converted (place_record p)
  inquiry-record e =
      ap place_record (inquiry-place e) ∙ ap (λ (n : ℕ). part 40 n (splice 40 (converted (place_record p)) p)) (sym record_long)
      ∙ part-splice 40 (converted (place_record p)) p (omega (arith, record_long, long))

-- the tests of an inquiry, taken apart and put together, whatever a record in form is
abbrev Head : List ℕ → Bool
Head p = leb (tries_of p) 2 && eqb (get_or p 6 0) 0 && eqb (get_or p 7 0) 0

record Inquiry (good : List ℕ → Bool) (own : Own) (p : List ℕ) : Type 0 where
  head : Head p ≡ true
  formed : good (place_record p) ≡ true
  keyed : eqb (key_of (place_record p)) (place_key p) ≡ true
  other : not (is_own own (place_key p)) ≡ true

inquiry_tells : (good : List ℕ → Bool) (own : Own) (p : List ℕ) → eqb (kind_of p) 2 ≡ true → place_by good own p ≡ true → Inquiry good own p
inquiry_tells good own p k e =
    let is = inquiry-is good own p (eqb-true (kind_of p) 2 k) refl (ap (λ (n : ℕ). eqb n (place_key p)) (record_key p)) refl in
    let a = both_true (Head p) (good (place_record p) && eqb (key_of (place_record p)) (place_key p) && not (is_own own (place_key p))) (is ∙ e) in
    let b = both_true (good (place_record p) && eqb (key_of (place_record p)) (place_key p)) (not (is_own own (place_key p))) a.1 in
    let c = both_true (good (place_record p)) (eqb (key_of (place_record p)) (place_key p)) b.0 in
    record { head = a.0; formed = c.0; keyed = c.1; other = b.1 }

inquiry-told : (good : List ℕ → Bool) (own : Own) (p : List ℕ) → eqb (kind_of p) 2 ≡ true → Inquiry good own p → place_by good own p ≡ true
inquiry-told good own p k h =
    let is = inquiry-is good own p (eqb-true (kind_of p) 2 k) refl (ap (λ (n : ℕ). eqb n (place_key p)) (record_key p)) refl in
    sym is ∙ rw (h.head, h.formed, h.keyed, h.other) refl

-- of another place no record is asked
other_same : (good better : List ℕ → Bool) (own : Own) (p : List ℕ) → eqb (kind_of p) 2 ≡ false → place_by good own p ≡ place_by better own p
unfolding place_by
other_same good better own p e = rw e refl

place_new : (own : Own) (p : List ℕ) → length p ≡ 140 → place_by old_record_form own p ≡ true → place_form own (converted_place p) ≡ true
place_new own p long e = by-case (eqb (kind_of p) 2) refl
  where
    by-case : (b : Bool) → eqb (kind_of p) 2 ≡ b → place_form own (converted_place p) ≡ true
    by-case false k =
        ap (place_form own) (other_place p long k) ∙ other_same record_form old_record_form own p k ∙ e
    by-case true k =
        let h = inquiry_tells old_record_form own p k e in
        let r = inquiry-record p long k in
        let key : key_of (place_record (converted_place p)) ≡ key_of (place_record p) =
        ap key_of r ∙ converted-key (place_record p) (old_length (place_record p) h.formed) in
        inquiry-told record_form own (converted_place p) (ap (λ (n : ℕ). eqb n 2) (same_kind p long) ∙ k) (record {
          head = ap₂ (λ (x : Bool) (n : ℕ). x && eqb n 0)
              (ap₂ (λ (m n : ℕ). leb m 2 && eqb n 0) (same-tries p long) (byte p long 6 (omega arith))) (byte p long 7 (omega arith)) ∙ h.head;
          formed = ap record_form r ∙ converted_form (place_record p) h.formed;
          keyed = ap₂ eqb key (same_key p long) ∙ h.keyed;
          other = ap (λ (n : ℕ). not (is_own own n)) (same_key p long) ∙ h.other;
        })

place_old : (own : Own) (p : List ℕ) → place_form own p ≡ true → place_by old_record_form own p ≡ true
place_old own p e = by-case (eqb (kind_of p) 2) refl
  where
    by-case : (b : Bool) → eqb (kind_of p) 2 ≡ b → place_by old_record_form own p ≡ true
    by-case false k = other_same old_record_form record_form own p k ∙ e
    by-case true k =
        let h = inquiry_tells record_form own p k e in
        inquiry-told old_record_form own p k
        (record { head = h.head; formed = new_old (place_record p) h.formed; keyed = h.keyed; other = h.other })

place_stays : (own : Own) (p : List ℕ) → length p ≡ 140 → place_form own p ≡ true → converted_place p ≡ p
place_stays own p long e = by-case (eqb (kind_of p) 2) refl
  where
    by-case : (b : Bool) → eqb (kind_of p) 2 ≡ b → converted_place p ≡ p
    by-case false k = other_place p long k
    by-case true k =
        inquiry-place p long k
        ∙ ap (λ (r : List ℕ). splice 40 r p) (converted_stays (place_record p) (inquiry_tells record_form own p k e).formed)
        ∙ splice_self 40 100 p (omega (arith, long))

-- ---- the places

any_same : (k : ℕ) (ps : List (List ℕ)) → Sized 140 ps → any_of (is_inquiry k) (map converted_place ps) ≡ any_of (is_inquiry k) ps
unfolding any_of
any_same k [] h = refl
any_same k (p ∷ ps) h =
    ap₂ ◌||◌ (ap₂ (λ (m n : ℕ). eqb m 2 && eqb n k) (same_kind p h.0) (same_key p h.0)) (any_same k ps h.1)

again-same : (p : List ℕ) (ps : List (List ℕ)) → length p ≡ 140 → Sized 140 ps → again (converted_place p) (map converted_place ps) ≡ again p ps
again-same p ps long h =
    ap₂ (λ (m n : ℕ). eqb m 2 && any_of (is_inquiry n) (map converted_place ps)) (same_kind p long) (same_key p long)
    ∙ ap (λ (b : Bool). eqb (kind_of p) 2 && b) (any_same (place_key p) ps h)

places_new : (own : Own) (low : ℕ) (ps : List (List ℕ)) → Sized 140 ps → places_by old_record_form own low ps ≡ true → places_form own low (map converted_place ps) ≡ true
unfolding places_by
places_new own low [] h e = refl
places_new own low (p ∷ ps) h e =
    let last = both_true (place_by old_record_form own p && leb low (id_of p) && not (again p ps)) (places_by old_record_form own (suc (id_of p)) ps) e in
    let third = both_true (place_by old_record_form own p && leb low (id_of p)) (not (again p ps)) last.0 in
    let first = both_true (place_by old_record_form own p) (leb low (id_of p)) third.0 in
    rw (
      place_new own p h.0 first.0,
      same_id p h.0,
      first.1,
      again-same p ps h.0 h.1,
      third.1,
    ) (places_new own (suc (id_of p)) ps h.1 last.1)

places_old : (own : Own) (low : ℕ) (ps : List (List ℕ)) → places_form own low ps ≡ true → places_by old_record_form own low ps ≡ true
unfolding places_by
places_old own low [] e = refl
places_old own low (p ∷ ps) e =
    let last = both_true (place_form own p && leb low (id_of p) && not (again p ps)) (places_form own (suc (id_of p)) ps) e in
    let third = both_true (place_form own p && leb low (id_of p)) (not (again p ps)) last.0 in
    let first = both_true (place_form own p) (leb low (id_of p)) third.0 in
    rw (place_old own p first.0, first.1, third.1) (places_old own (suc (id_of p)) ps last.1)

places_stay : (own : Own) (low : ℕ) (ps : List (List ℕ)) → Sized 140 ps → places_form own low ps ≡ true → map converted_place ps ≡ ps
unfolding places_by
places_stay own low [] h e = refl
places_stay own low (p ∷ ps) h e =
    let last = both_true (place_form own p && leb low (id_of p) && not (again p ps)) (places_form own (suc (id_of p)) ps) e in
    let third = both_true (place_form own p && leb low (id_of p)) (not (again p ps)) last.0 in
    let first = both_true (place_form own p) (leb low (id_of p)) third.0 in
    ap₂ (λ (q : List ℕ) (qs : List (List ℕ)). q ∷ qs) (place_stays own p h.0 first.0) (places_stay own (suc (id_of p)) ps h.1 last.1)

-- a property of places that conversion leaves alone, over all of them
pub each_stays : (f : List ℕ → ℕ) → ((p : List ℕ) → length p ≡ 140 → f (converted_place p) ≡ f p) → (ps : List (List ℕ)) → Sized 140 ps
    → map f (map converted_place ps) ≡ map f ps
each_stays f same [] h = refl
each_stays f same (p ∷ ps) h = ap₂ (λ (n : ℕ) (ns : List ℕ). n ∷ ns) (same p h.0) (each_stays f same ps h.1)

-- ---- the table

module _ (own : Own) (t : List ℕ) (e : old_waiting_form own t ≡ true) where
  pub table-sized : Sized 140 (places_of t)
  table-sized = rows-sized 140 (used_of t) t (table-laid own t e).room

  converted-places : PlacesForm own (bytes_of 2240 (map converted_place (places_of t))) (map converted_place (places_of t))
  converted-places = record {
    bytes = refl;
    sized = map-sized 140 converted_place place_length (places_of t) table-sized;
    few = omega (arith, length-map (places_of t) converted_place, rows-length 140 (used_of t) t, used_few t);
    places = places_new own 0 (places_of t) table-sized (table-places own t e);
  }

  -- the table that the conversion leaves has the places converted
  pub converted-table : PlacesForm own (bytes_of (length t) (map converted_place (places_of t))) (map converted_place (places_of t))
  converted-table = rw (table-size own t e) converted-places

module _ (own : Own) (t : List ℕ) (e : waiting_form own t ≡ true) where
  pub table-now-old : old_waiting_form own t ≡ true
  unfolding old_waiting_form waiting_form
  table-now-old =
      let outer = both_true (eqb (length t) 2240 && all_zero (drop (140 * used_of t) t)) (places_form own 0 (places_of t)) e in
      rw (outer.0, places_old own 0 (places_of t) outer.1) refl

  pub table_stays : bytes_of (length t) (map converted_place (places_of t)) ≡ t
  table_stays =
      let f = form_of own t e in
      ap (bytes_of (length t)) (places_stay own 0 (places_of t) f.sized f.places) ∙ ap (λ (n : ℕ). bytes_of n (places_of t)) (form-size own t e)
      ∙ sym f.bytes
