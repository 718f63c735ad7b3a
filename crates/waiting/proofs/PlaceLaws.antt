-- Laws of one place's fields: read where the place lies in the table; of a place with one try less. Elsewhere: of a place made of its fields, in
-- NewLaws. Assumes nothing.
use mathlib.Core.Path.{◌≡◌, refl, sym, ap, ap₂, ◌∙◌}
use mathlib.Core.Bool.{Bool, true, false, not, ◌&&◌, ◌||◌}
use mathlib.Core.List.{List}
use Prim.Native.Nat.{ℕ, ◌+◌, ◌-◌, ◌≤◌}
use native.Mathlib.Omega.{arith}
use lib.Dec.{eqb, leb}
use lib.ListN.{length, take, get_or, length-set}
use lib.Seq.{take-set-le, drop-set-lt, get_or-set_same, get_or-set_other}
use borrow.Author.Tests.{eqb-true, leb-true, le-leb, not-true}
use Rattle.octet.specs.Number.{value_be, value_le}
use Rattle.octet.specs.Part.{part, all_zero}
use Rattle.octet.proofs.PartLaws.{part_at}
use Rattle.octet.proofs.TestLaws.{both_true}
use Rattle.key.specs.Number.{key_at}
use Rattle.record.specs.Record.{key_of, record_form}
use Rattle.record.proofs.PlaceLaws.{part-part}
use Rattle.own.specs.Own.{is_own, Own, IsOwn}
use Rattle.own.proofs.PlaceLaws.{not_own}
use Rattle.table.proofs.PieceLaws.{part-start}
use Rattle.waiting.specs.Place.{id_of, kind_of, tries_of, place_key, place_record}
use Rattle.waiting.specs.Form.{place_by, place_form, is_inquiry}
use Rattle.waiting.specs.Tick.{one_less}

-- ---- where the place lies

module _ (from : ℕ) (t : List ℕ) where
  pub id-at : id_of (part from 140 t) ≡ value_le 256 (part from 4 t)
  id-at = ap (value_le 256) (part-start from 140 4 t (omega arith))

  pub kind_at : kind_of (part from 140 t) ≡ get_or t (from + 4) 0
  kind_at = part_at from 140 4 t (omega arith)

  pub tries-at : tries_of (part from 140 t) ≡ get_or t (from + 5) 0
  tries-at = part_at from 140 5 t (omega arith)

  pub key-at : place_key (part from 140 t) ≡ key_at (from + 8) t
  key-at = ap (value_be 256) (part-part from 140 8 32 t (omega arith))

  pub record_at_lem : place_record (part from 140 t) ≡ part (from + 40) 100 t
  record_at_lem = part-part from 140 40 100 t (omega arith)

-- the key of a place's record, where it lies
pub record_key : (p : List ℕ) → key_of (place_record p) ≡ key_at 40 p
record_key p = ap (value_be 256) (part-start 40 100 32 p (omega arith))

-- ---- the form of a place, by its fields

abbrev pub fields_form : Own → ℕ → ℕ → ℕ → ℕ → ℕ → List ℕ → Bool
fields_form own tries six seven kind key held =
    leb tries 2 && eqb six 0 && eqb seven 0
    && (eqb kind 1 && all_zero held || eqb kind 2 && record_form held && eqb (key_of held) key && not (is_own own key))

pub by_fields : (own : Own) (p : List ℕ)
    → place_form own p ≡ fields_form own (tries_of p) (get_or p 6 0) (get_or p 7 0) (kind_of p) (place_key p) (place_record p)
unfolding place_by
by_fields own p = refl

-- the tests of a flood's place, of an inquiry's, and of one that is neither
pub flood-is : (good : List ℕ → Bool) (own : Own) (p : List ℕ) (z : Bool) → kind_of p ≡ 1 → z ≡ all_zero (part 40 100 p)
    → (leb (tries_of p) 2 && eqb (get_or p 6 0) 0 && eqb (get_or p 7 0) 0 && z) ≡ place_by good own p
unfolding place_by
flood-is good own p z e hz = rw (e, sym hz) (ap (λ (t : Bool). leb (tries_of p) 2 && eqb (get_or p 6 0) 0 && eqb (get_or p 7 0) 0 && t) (alone z))
  where
    alone : (z : Bool) → z ≡ z || false
    alone true = refl
    alone false = refl

pub inquiry-is : (good : List ℕ → Bool) (own : Own) (p : List ℕ) {f k o : Bool} → kind_of p ≡ 2 → f ≡ good (part 40 100 p) → k ≡ eqb (key_at 40 p) (key_at 8 p)
    → o ≡ is_own own (key_at 8 p)
    → (leb (tries_of p) 2 && eqb (get_or p 6 0) 0 && eqb (get_or p 7 0) 0 && (f && k && not o)) ≡ place_by good own p
unfolding place_by
inquiry-is good own p e hf hk ho = rw (e, hf, hk, ho, record_key p) refl

pub neither_is : (good : List ℕ → Bool) (own : Own) (p : List ℕ) → eqb (kind_of p) 1 ≡ false → eqb (kind_of p) 2 ≡ false → false ≡ place_by good own p
unfolding place_by
neither_is good own p e g = rw (e, g) (none (leb (tries_of p) 2 && eqb (get_or p 6 0) 0 && eqb (get_or p 7 0) 0))
  where
    none : (t : Bool) → false ≡ t && false
    none true = refl
    none false = refl

first_true : (a b c d : Bool) → a && b && c && d ≡ true → a ≡ true
first_true true b c d e = refl
first_true false b c d e = e

other_first : (a a' b c d : Bool) → a && b && c && d ≡ true → a' ≡ true → a' && b && c && d ≡ true
other_first true a' b c d e h = rw h e
other_first false a' b c d e h = let z : ◌≡◌ {A = ℕ} 0 1 = cc in absurd (omega arith)

-- a place in form has at most two tries left, and is not free
pub form_tries : (own : Own) (p : List ℕ) → place_form own p ≡ true → tries_of p ≤ 2
unfolding place_by
form_tries own p e = leb-true (tries_of p) 2 (first_true (leb (tries_of p) 2) (eqb (get_or p 6 0) 0) (eqb (get_or p 7 0) 0) _ e)

pub form_used : (own : Own) (p : List ℕ) → place_form own p ≡ true → kind_of p ≡ 0 → ⊥
form_used own p ok e =
    let by_kind : ℕ → Bool = λ k. fields_form own (tries_of p) (get_or p 6 0) (get_or p 7 0) k (place_key p) (place_record p) in
    let is : by_kind 0 ≡ true = sym (ap by_kind e) ∙ sym (by_fields own p) ∙ ok in
    let both = both_true (leb (tries_of p) 2 && eqb (get_or p 6 0) 0 && eqb (get_or p 7 0) 0) false is in
    let z : ◌≡◌ {A = ℕ} 0 1 = cc both.1 in
    omega arith

-- an inquiry in form has a record in form, of its own key, which is not ours
module _ (own : Own) (p : List ℕ) (ok : place_form own p ≡ true) (inquiry : kind_of p ≡ 2) where
  inquiry-tests : record_form (place_record p) && eqb (key_of (place_record p)) (place_key p) && not (is_own own (place_key p)) ≡ true
  inquiry-tests =
      let by_kind : ℕ → Bool = λ k. fields_form own (tries_of p) (get_or p 6 0) (get_or p 7 0) k (place_key p) (place_record p) in
      let is : by_kind 2 ≡ true = sym (ap by_kind inquiry) ∙ sym (by_fields own p) ∙ ok in
      (both_true (leb (tries_of p) 2 && eqb (get_or p 6 0) 0 && eqb (get_or p 7 0) 0)
      (record_form (place_record p) && eqb (key_of (place_record p)) (place_key p) && not (is_own own (place_key p))) is).1

  keyed : (record_form (place_record p) ≡ true) × (eqb (key_of (place_record p)) (place_key p) ≡ true)
  keyed =
      both_true (record_form (place_record p)) (eqb (key_of (place_record p)) (place_key p))
      (both_true (record_form (place_record p) && eqb (key_of (place_record p)) (place_key p)) (not (is_own own (place_key p))) inquiry-tests).0

  pub inquiry-record : record_form (place_record p) ≡ true
  inquiry-record = keyed.0

  pub inquiry-key : key_of (place_record p) ≡ place_key p
  inquiry-key = eqb-true (key_of (place_record p)) (place_key p) keyed.1

  pub inquiry-other : ¬ IsOwn own (place_key p)
  inquiry-other =
      not_own own (place_key p) (not-true (is_own own (place_key p))
      (both_true (record_form (place_record p) && eqb (key_of (place_record p)) (place_key p)) (not (is_own own (place_key p))) inquiry-tests).1)

-- ---- one try less changes the tries alone

module _ (p : List ℕ) where
  pub less-id : id_of (one_less p) ≡ id_of p
  less-id = ap (value_le 256) (take-set-le 4 p 5 (tries_of p - 1) (omega arith))

  pub less-key : place_key (one_less p) ≡ place_key p
  less-key = ap (λ (l : List ℕ). value_be 256 (take 32 l)) (drop-set-lt 8 p 5 (tries_of p - 1) (omega arith))

  pub less-record : place_record (one_less p) ≡ place_record p
  less-record = ap (take 100) (drop-set-lt 40 p 5 (tries_of p - 1) (omega arith))

  other : (i : ℕ) → (i ≡ 5 → ⊥) → get_or (one_less p) i 0 ≡ get_or p i 0
  other i h = get_or-set_other p 5 i (tries_of p - 1) 0 h

  pub less-kind : kind_of (one_less p) ≡ kind_of p
  less-kind = other 4 (λ e. absurd (omega arith))

  pub less-length : length (one_less p) ≡ length p
  less-length = length-set p 5 (tries_of p - 1)

  pub less-inquiry : (k : ℕ) → is_inquiry k (one_less p) ≡ is_inquiry k p
  less-inquiry k = ap₂ (λ (n m : ℕ). eqb n 2 && eqb m k) less-kind less-key

  pub less-tries : length p ≡ 140 → tries_of (one_less p) ≡ tries_of p - 1
  less-tries long = get_or-set_same p 5 (tries_of p - 1) 0 (omega arith)

  -- so a place stays in form
  pub less-form : (own : Own) → length p ≡ 140 → place_form own p ≡ true → place_form own (one_less p) ≡ true
  less-form own long ok =
      let low = form_tries own p ok in
      let x : ℕ = tries_of p - 1 in
      let q : List ℕ = one_less p in
      by_fields own q
      ∙ ap (λ (n : ℕ). fields_form own n (get_or q 6 0) (get_or q 7 0) (kind_of q) (place_key q) (place_record q)) (less-tries long)
      ∙ ap₂ (λ (n m : ℕ). fields_form own x n m (kind_of q) (place_key q) (place_record q))
      (other 6 (λ e. absurd (omega arith))) (other 7 (λ e. absurd (omega arith)))
      ∙ ap₂ (λ (n m : ℕ). fields_form own x (get_or p 6 0) (get_or p 7 0) n m (place_record q)) less-kind less-key
      ∙ ap (fields_form own x (get_or p 6 0) (get_or p 7 0) (kind_of p) (place_key p)) less-record
      ∙ other_first (leb (tries_of p) 2) (leb x 2) (eqb (get_or p 6 0) 0) (eqb (get_or p 7 0) 0) _ (sym (by_fields own p) ∙ ok) (le-leb x 2 (omega arith))
