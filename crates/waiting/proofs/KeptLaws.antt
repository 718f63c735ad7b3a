-- The tick, a place opened and a place freed leave the table in form.
-- In this order: the tick; a place freed; a place opened; the table in form. Elsewhere: how often a place is listed, in RoundLaws. Assumes nothing.
use mathlib.Core.Path.{◌≡◌, refl, sym, ap, ◌∙◌, subst}
use mathlib.Core.Bool.{Bool, true, false, ◌&&◌, ◌||◌, cond}
use mathlib.Core.List.{List, [], ◌∷◌}
use Prim.Native.Nat.{ℕ, zero, suc, ◌^◌, ◌≤◌, ◌<◌}
use native.Mathlib.Omega.{arith}
use lib.Dec.{eqb, leb}
use lib.ListN.{length, replicate, length-replicate}
use lib.Seq.{length-take-le}
use borrow.Author.Tests.{eq-eqb, ne_eqb, eqb-true, eqb-false, leb-true, leb-false}
use Rattle.octet.specs.Number.{value_be}
use Rattle.octet.specs.Part.{part}
use Rattle.record.specs.Record.{key_of, record_form}
use Rattle.own.specs.Own.{Own, is_own}
use Rattle.table.specs.Rows.{bytes_of, Sized, any_of}
use Rattle.waiting.specs.Place.{id_of, kind_of, place_key, inquiry_place, flood_place}
use Rattle.waiting.specs.Form.{is_inquiry, place_form, PlacesForm}
use Rattle.waiting.specs.Seek.{has_id}
use Rattle.waiting.specs.Open.{opened, freed}
use Rattle.waiting.specs.Tick.{one_less}
use Rattle.waiting.specs.Ticking.{spent, ticked}
use Rattle.waiting.proofs.NewLaws.{new-length, new-id, new-key, new-kind, inquiry_form_lem, flood_form_lem}
use Rattle.waiting.proofs.PlaceLaws.{less-id, less-key, less-kind, less-length, less-inquiry, less-form}
use Rattle.waiting.proofs.FormLaws.{Placed, placed, placed_form}

pub or_left : (a b : Bool) → (a || b) ≡ false → a ≡ false
or_left true b e = e
or_left false b e = refl

pub or_right : (a b : Bool) → (a || b) ≡ false → b ≡ false
or_right true b e = let z : ◌≡◌ {A = ℕ} 0 1 = cc in absurd (omega arith)
or_right false b e = e

pub neither : {a b : Bool} → a ≡ false → b ≡ false → (a || b) ≡ false
neither e f = rw (e, f) refl

-- places above an ID are above a lower one
placed_weak : (own : Own) (low high : ℕ) (ps : List (List ℕ)) → low ≤ high → Placed own high ps → Placed own low ps
placed_weak own low high [] l h = tt
placed_weak own low high (p ∷ ps) l h = (h.0, omega (arith, h.1), h.2, h.3)

-- ---- the tick

none_by : (k : ℕ) (b : Bool) (p : List ℕ) (qs : List (List ℕ)) → is_inquiry k p ≡ false → any_of (is_inquiry k) qs ≡ false
    → any_of (is_inquiry k) (cond b qs (one_less p ∷ qs)) ≡ false
unfolding any_of
none_by k true p qs h e = e
none_by k false p qs h e = rw (less-inquiry p k, h) e

ticked-none : (k : ℕ) (ps : List (List ℕ)) → any_of (is_inquiry k) ps ≡ false → any_of (is_inquiry k) (ticked ps) ≡ false
unfolding ticked any_of
ticked-none k [] e = e
ticked-none k (p ∷ ps) e =
    none_by k (spent p) p (ticked ps) (or_left (is_inquiry k p) (any_of (is_inquiry k) ps) e)
    (ticked-none k ps (or_right (is_inquiry k p) (any_of (is_inquiry k) ps) e))

sized_by : (b : Bool) (p : List ℕ) (qs : List (List ℕ)) → length p ≡ 140 → Sized 140 qs → Sized 140 (cond b qs (one_less p ∷ qs))
sized_by true p qs long s = s
sized_by false p qs long s = (less-length p ∙ long, s)

pub ticked-sized : (ps : List (List ℕ)) → Sized 140 ps → Sized 140 (ticked ps)
unfolding ticked
ticked-sized [] s = tt
ticked-sized (p ∷ ps) s = sized_by (spent p) p (ticked ps) s.0 (ticked-sized ps s.1)

few_by : (b : Bool) (p : List ℕ) (qs : List (List ℕ)) (n : ℕ) → length qs ≤ n → length (cond b qs (one_less p ∷ qs)) ≤ suc n
few_by true p qs n h = omega arith
few_by false p qs n h = omega arith

pub ticked_few : (ps : List (List ℕ)) → length (ticked ps) ≤ length ps
unfolding ticked
ticked_few [] = omega arith
ticked_few (p ∷ ps) = few_by (spent p) p (ticked ps) (length ps) (ticked_few ps)

placed_by : (own : Own) (low : ℕ) (b : Bool) (p : List ℕ) (ps : List (List ℕ)) → length p ≡ 140 → Placed own low (p ∷ ps)
    → Placed own (suc (id_of p)) (ticked ps) → Placed own low (cond b (ticked ps) (one_less p ∷ ticked ps))
placed_by own low true p ps long h ih = placed_weak own low (suc (id_of p)) (ticked ps) (omega (arith, h.1)) ih
placed_by own low false p ps long h ih = (
  less-form p own long h.0,
  omega (arith, h.1, less-id p),
  (λ k. ap (λ (n : ℕ). any_of (is_inquiry n) (ticked ps)) (less-key p) ∙ ticked-none (place_key p) ps (h.2 (sym (less-kind p) ∙ k))),
  subst (λ (n : ℕ). Placed own (suc n) (ticked ps)) (sym (less-id p)) ih,
)

pub ticked_placed : (own : Own) (low : ℕ) (ps : List (List ℕ)) → Sized 140 ps → Placed own low ps → Placed own low (ticked ps)
unfolding ticked
ticked_placed own low [] s h = tt
ticked_placed own low (p ∷ ps) s h = placed_by own low (spent p) p ps s.0 h (ticked_placed own (suc (id_of p)) ps s.1 h.3)

-- ---- a place freed

freed-none : (test : List ℕ → Bool) (at : ℕ) (ps : List (List ℕ)) → any_of test ps ≡ false → any_of test (freed at ps) ≡ false
unfolding freed any_of
freed-none test at [] e = e
freed-none test zero (p ∷ ps) e = or_right (test p) (any_of test ps) e
freed-none test (suc at) (p ∷ ps) e = neither (or_left (test p) (any_of test ps) e) (freed-none test at ps (or_right (test p) (any_of test ps) e))

pub freed-sized : (at : ℕ) (ps : List (List ℕ)) → Sized 140 ps → Sized 140 (freed at ps)
unfolding freed
freed-sized at [] s = tt
freed-sized zero (p ∷ ps) s = s.1
freed-sized (suc at) (p ∷ ps) s = (s.0, freed-sized at ps s.1)

pub freed_few : (at : ℕ) (ps : List (List ℕ)) → length (freed at ps) ≤ length ps
unfolding freed
freed_few at [] = omega arith
freed_few zero (p ∷ ps) = omega arith
freed_few (suc at) (p ∷ ps) = omega (arith, freed_few at ps)

pub freed_placed : (own : Own) (low at : ℕ) (ps : List (List ℕ)) → Placed own low ps → Placed own low (freed at ps)
unfolding freed
freed_placed own low at [] h = tt
freed_placed own low zero (p ∷ ps) h = placed_weak own low (suc (id_of p)) ps (omega (arith, h.1)) h.3
freed_placed own low (suc at) (p ∷ ps) h =
    (h.0, h.1, (λ k. freed-none (is_inquiry (place_key p)) at ps (h.2 k)), freed_placed own (suc (id_of p)) at ps h.3)

-- ---- a place opened

module _ (p : List ℕ) where
  pub opened-length : (ps : List (List ℕ)) → length (opened p ps) ≡ suc (length ps)
  unfolding opened
  opened-length [] = refl
  opened-length (q ∷ ps) = go (leb (id_of p) (id_of q)) (opened-length ps)
    where
      go : (b : Bool) → length (opened p ps) ≡ suc (length ps) → length (cond b (p ∷ q ∷ ps) (q ∷ opened p ps)) ≡ suc (suc (length ps))
      go true ih = refl
      go false ih = ap suc ih

  pub opened-sized : (ps : List (List ℕ)) → length p ≡ 140 → Sized 140 ps → Sized 140 (opened p ps)
  unfolding opened
  opened-sized [] n s = (n, tt)
  opened-sized (q ∷ ps) n s = go (leb (id_of p) (id_of q)) (opened-sized ps n s.1)
    where
      go : (b : Bool) → Sized 140 (opened p ps) → Sized 140 (cond b (p ∷ q ∷ ps) (q ∷ opened p ps))
      go true ih = (n, s)
      go false ih = (s.0, ih)

  opened-none : (test : List ℕ → Bool) (ps : List (List ℕ)) → test p ≡ false → any_of test ps ≡ false → any_of test (opened p ps) ≡ false
  unfolding opened any_of
  opened-none test [] t e = neither t e
  opened-none test (q ∷ ps) t e = go (leb (id_of p) (id_of q)) (opened-none test ps t (or_right (test q) (any_of test ps) e))
    where
      go : (b : Bool) → any_of test (opened p ps) ≡ false → any_of test (cond b (p ∷ q ∷ ps) (q ∷ opened p ps)) ≡ false
      go true ih = neither t e
      go false ih = neither (or_left (test q) (any_of test ps) e) ih

  -- an inquiry q, which is not for p's key, keeps its key for itself
  other_key : (q : List ℕ) → (kind_of p ≡ 2 → is_inquiry (place_key p) q ≡ false) → kind_of q ≡ 2 → is_inquiry (place_key q) p ≡ false
  other_key q only k = go (eqb (kind_of p) 2) refl
    where
      go : (b : Bool) → eqb (kind_of p) 2 ≡ b → is_inquiry (place_key q) p ≡ false
      go true e =
          let apart : eqb (place_key q) (place_key p) ≡ false =
          sym (ap (λ (b : Bool). b && eqb (place_key q) (place_key p)) (eq-eqb (kind_of q) 2 k)) ∙ only (eqb-true (kind_of p) 2 e) in
          rw (e, ne_eqb (place_key p) (place_key q) (λ d. eqb-false (place_key q) (place_key p) apart (sym d))) refl
      go false e = rw e refl

  pub opened-placed : (own : Own) (low : ℕ) (ps : List (List ℕ)) → place_form own p ≡ true → low ≤ id_of p → any_of (has_id (id_of p)) ps ≡ false
      → (kind_of p ≡ 2 → any_of (is_inquiry (place_key p)) ps ≡ false) → Placed own low ps → Placed own low (opened p ps)
  unfolding opened any_of
  opened-placed own low [] ok l new only h = (ok, l, (λ k. refl), tt)
  opened-placed own low (q ∷ ps) ok l new only h =
      go (leb (id_of p) (id_of q)) refl
      (λ r. opened-placed own (suc (id_of q)) ps ok r (or_right (has_id (id_of p) q) (any_of (has_id (id_of p)) ps) new)
      (λ k. or_right (is_inquiry (place_key p) q) (any_of (is_inquiry (place_key p)) ps) (only k)) h.3)
    where
      other : id_of q ≡ id_of p → ⊥
      other = eqb-false (id_of q) (id_of p) (or_left (has_id (id_of p) q) (any_of (has_id (id_of p)) ps) new)

      go : (b : Bool) → leb (id_of p) (id_of q) ≡ b → (suc (id_of q) ≤ id_of p → Placed own (suc (id_of q)) (opened p ps))
          → Placed own low (cond b (p ∷ q ∷ ps) (q ∷ opened p ps))
      go true is ih = (ok, l, only, (h.0, omega (arith, leb-true (id_of p) (id_of q) is, other), h.2, h.3))
      go false is ih = (
        h.0,
        h.1,
        (λ k. opened-none (is_inquiry (place_key q)) ps
            (other_key q (λ e. or_left (is_inquiry (place_key p) q) (any_of (is_inquiry (place_key p)) ps) (only e)) k) (h.2 k)),
        ih (leb-false (id_of p) (id_of q) is),
      )

-- ---- the table in form

-- the table made of a list of places in form, as a property
pub made_of : (own : Own) (ps : List (List ℕ)) → Sized 140 ps → length ps ≤ 16 → Placed own 0 ps → PlacesForm own (bytes_of 2240 ps) ps
made_of own ps s few h = record { bytes = refl; sized = s; few = few; places = placed_form own 0 ps h }

module _ (own : Own) (t : List ℕ) (ps : List (List ℕ)) (f : PlacesForm own t ps) where
  here : Placed own 0 ps
  here = placed own 0 ps f.places

  pub tick-kept : PlacesForm own (bytes_of 2240 (ticked ps)) (ticked ps)
  tick-kept =
      made_of own (ticked ps) (ticked-sized ps f.sized) (omega (arith, ticked_few ps, f.few)) (ticked_placed own 0 ps f.sized here)

  pub free-kept : (at : ℕ) → PlacesForm own (bytes_of 2240 (freed at ps)) (freed at ps)
  free-kept at =
      made_of own (freed at ps) (freed-sized at ps f.sized) (omega (arith, freed_few at ps, f.few)) (freed_placed own 0 at ps here)

  pub open_kept : (p : List ℕ) → length ps < 16 → length p ≡ 140 → place_form own p ≡ true → any_of (has_id (id_of p)) ps ≡ false
      → (kind_of p ≡ 2 → any_of (is_inquiry (place_key p)) ps ≡ false) → PlacesForm own (bytes_of 2240 (opened p ps)) (opened p ps)
  open_kept p free long ok new only =
      made_of own (opened p ps) (opened-sized p ps long f.sized) (omega (arith, opened-length p ps))
      (opened-placed p own 0 ps ok (omega arith) new only here)

  -- an inquiry for a record in form of another, and a flood, whose IDs do not wait
  pub open-inquiry : (id : ℕ) (r : List ℕ) → length ps < 16 → id < 2 ^ 32 → length r ≡ 100 → record_form r ≡ true → is_own own (key_of r) ≡ false
      → any_of (has_id id) ps ≡ false → any_of (is_inquiry (key_of r)) ps ≡ false
      → PlacesForm own (bytes_of 2240 (opened (inquiry_place id r) ps)) (opened (inquiry_place id r) ps)
  open-inquiry id r free small long ok others new only =
      let short = length-take-le 32 r (omega arith) in
      let is = new-id id 2 2 (part 0 32 r) r short long small in
      let key : place_key (inquiry_place id r) ≡ key_of r = ap (value_be 256) (new-key id 2 2 (part 0 32 r) r short long) in
      open_kept (inquiry_place id r) free (new-length id 2 2 (part 0 32 r) r short long) (inquiry_form_lem own id r long ok others)
      (ap (λ (n : ℕ). any_of (has_id n) ps) is ∙ new) (λ k. ap (λ (n : ℕ). any_of (is_inquiry n) ps) key ∙ only)

  pub open-flood : (id : ℕ) (key : List ℕ) → length ps < 16 → id < 2 ^ 32 → length key ≡ 32 → any_of (has_id id) ps ≡ false
      → PlacesForm own (bytes_of 2240 (opened (flood_place id key) ps)) (opened (flood_place id key) ps)
  open-flood id key free small short new =
      let zeros : List ℕ = replicate 100 0 in
      let long : length zeros ≡ 100 = length-replicate {A = ℕ} 100 0 in
      open_kept (flood_place id key) free (new-length id 1 2 key zeros short long) (flood_form_lem own id key short)
      (ap (λ (n : ℕ). any_of (has_id n) ps) (new-id id 1 2 key zeros short long small) ∙ new)
      (λ k. let z : ◌≡◌ {A = ℕ} 1 2 = sym (new-kind id 1 2 key zeros short long) ∙ k in absurd (omega arith))
