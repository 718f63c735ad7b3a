-- Laws of our CPAs: a turn of each walk; what is known of the one of a place. Assumes nothing.
use mathlib.Core.Path.{◌≡◌, refl, sym, ap, subst, ◌∙◌}
use mathlib.Core.Bool.{Bool, true, false, ◌&&◌}
use mathlib.Core.List.{List}
use Prim.Native.Nat.{ℕ, zero, suc, ◌+◌, ◌-◌, ◌≤◌, ◌<◌}
use native.Mathlib.Omega.{arith}
use lib.Dec.{eqb, leb}
use lib.ListN.{length, take, drop, length-drop}
use lib.Seq.{take_all, drop-drop}
use borrow.Author.Tests.{leb-true, eqb-true, eqb-false, lt-leb, eq-eqb, ne_eqb}
use Rattle.octet.specs.Part.{part}
use Rattle.octet.proofs.PartLaws.{length_part}
use Rattle.octet.proofs.TestLaws.{both_true}
use Rattle.cpas.specs.Cpas.{cpa_size, behind_cpa, cpa_form, cpas_form, cpa_of}

-- ---- one CPA

-- a CPA that stands there whole
pub record Whole (b : List ℕ) : Type 0 where
  pub least : 1 ≤ cpa_size b
  pub most : cpa_size b ≤ 1024
  pub room : 2 + cpa_size b ≤ length b

pub whole : (b : List ℕ) → cpa_form b ≡ true → Whole b
unfolding cpa_form
whole b e =
    let w = both_true (leb 1 (cpa_size b) && leb (cpa_size b) 1024) (leb (2 + cpa_size b) (length b)) e in
    let v = both_true (leb 1 (cpa_size b)) (leb (cpa_size b) 1024) w.0 in
    record { least = leb-true 1 (cpa_size b) v.0; most = leb-true (cpa_size b) 1024 v.1; room = leb-true (2 + cpa_size b) (length b) w.1 }

-- no room for a length
pub cpa_short : (b : List ℕ) → length b < 2 → cpa_form b ≡ false
unfolding cpa_form
cpa_short b s = go (leb 1 (cpa_size b) && leb (cpa_size b) 1024) (leb (2 + cpa_size b) (length b)) (lt-leb (2 + cpa_size b) (length b) (omega (arith, s)))
  where
    go : (x y : Bool) → y ≡ false → x && y ≡ false
    go true y e = e
    go false y e = refl

-- the tests that the code makes of the one at a place
pub cpa_tests : (at : ℕ) (b : List ℕ) {size room : ℕ} → size ≡ cpa_size (drop at b) → room ≡ length b - at
    → (leb 1 size && leb size 1024 && leb (2 + size) room) ≡ cpa_form (drop at b)
unfolding cpa_form
cpa_tests at b e r = rw (e, r, length-drop at b) refl

-- what stands behind the one at a place
pub behind_at : (at : ℕ) (b : List ℕ) {size : ℕ} → size ≡ cpa_size (drop at b) → behind_cpa (drop at b) ≡ drop (at + (2 + size)) b
behind_at at b e = ap (λ (n : ℕ). drop (2 + n) (drop at b)) (sym e) ∙ drop-drop _ at b

-- ---- the form

module _ (n : ℕ) (b : List ℕ) where
  pub form_not : cpa_form b ≡ false → cpas_form (suc n) b ≡ false
  unfolding cpas_form
  form_not e = rw e refl

  pub form-on : cpa_form b ≡ true → cpas_form (suc n) b ≡ cpas_form n (behind_cpa b)
  unfolding cpas_form
  form-on e = rw e refl

  pub form-tells : cpas_form (suc n) b ≡ true → (cpa_form b ≡ true) × (cpas_form n (behind_cpa b) ≡ true)
  unfolding cpas_form
  form-tells e = both_true (cpa_form b) (cpas_form n (behind_cpa b)) e

  -- with none left nothing is
  pub form-end : cpas_form 0 b ≡ eqb (length b) 0
  unfolding cpas_form
  form-end = refl

-- one turn of the walk, i of n behind it
pub form_turn : (n i at : ℕ) (b : List ℕ) → i < n → cpa_form (drop at b) ≡ true → {size : ℕ} → size ≡ cpa_size (drop at b)
    → cpas_form (n - i) (drop at b) ≡ cpas_form (n - (i + 1)) (drop (at + (2 + size)) b)
form_turn n i at b l f e =
    let left : n - i ≡ suc (n - (i + 1)) = omega (arith, l) in
    ap (λ (m : ℕ). cpas_form m (drop at b)) left ∙ form-on (n - (i + 1)) (drop at b) f ∙ ap (cpas_form (n - (i + 1))) (behind_at at b e)

pub form_stop : (n i at : ℕ) (b : List ℕ) → i < n → cpa_form (drop at b) ≡ false → cpas_form (n - i) (drop at b) ≡ false
form_stop n i at b l f =
    let left : n - i ≡ suc (n - (i + 1)) = omega (arith, l) in
    ap (λ (m : ℕ). cpas_form m (drop at b)) left ∙ form_not (n - (i + 1)) (drop at b) f

pub form_done : (n i at : ℕ) (b : List ℕ) → n ≤ i → at ≤ length b → cpas_form (n - i) (drop at b) ≡ eqb at (length b)
form_done n i at b l w =
    let none : n - i ≡ 0 = omega (arith, l) in
    ap (λ (m : ℕ). cpas_form m (drop at b)) none ∙ form-end 0 (drop at b) ∙ ap (λ (m : ℕ). eqb m 0) (length-drop at b) ∙ go (eqb at (length b)) refl
  where
    go : (t : Bool) → eqb at (length b) ≡ t → eqb (length b - at) 0 ≡ t
    go true e = eq-eqb (length b - at) 0 (omega (arith, eqb-true at (length b) e))
    go false e = ne_eqb (length b - at) 0 (λ z. eqb-false at (length b) e (omega (arith, z, w)))

-- ---- the CPA of a place

-- of n in form one stands in front, and behind it so many less
in_front : (n j : ℕ) (b : List ℕ) → j < n → cpas_form n b ≡ true → cpa_form b ≡ true
in_front zero j b l e = absurd (omega (arith, l))
in_front (suc n) j b l e = (form-tells n b e).0

one_less_lem : (n j : ℕ) (b : List ℕ) → suc j < n → cpas_form n b ≡ true → (m : ℕ) × (j < m) × (cpas_form m (behind_cpa b) ≡ true)
one_less_lem zero j b l e = absurd (omega (arith, l))
one_less_lem (suc n) j b l e = (n, omega (arith, l), (form-tells n b e).1)

-- on the way to a place, i of them behind: what is sought is there in what is left
pub record Left (place i at : ℕ) (b : List ℕ) : Type 0 where
  pub many : ℕ
  pub within : place - i < many
  pub formed : cpas_form many (drop at b) ≡ true
  pub near : i ≤ place
  pub is : cpa_of place b ≡ cpa_of (place - i) (drop at b)

pub left_front : (place i at : ℕ) (b : List ℕ) → Left place i at b → Whole (drop at b)
left_front place i at b l = whole (drop at b) (in_front l.many (place - i) (drop at b) l.within l.formed)

pub left_first : (place n : ℕ) (b : List ℕ) → place < n → cpas_form n b ≡ true → Left place 0 0 b
left_first place n b l e =
    let all : place ≡ place - 0 = omega arith in
    record { many = n; within = omega (arith, l); formed = e; near = omega arith; is = ap (λ (j : ℕ). cpa_of j b) all }

pub left_next : (place i at : ℕ) (b : List ℕ) → i < place → Left place i at b → {size : ℕ} → size ≡ cpa_size (drop at b)
    → Left place (i + 1) (at + (2 + size)) b
unfolding cpa_of
left_next place i at b n l e =
    let left : place - i ≡ suc (place - (i + 1)) = omega (arith, n) in
    let rest = one_less_lem l.many (place - (i + 1)) (drop at b) (omega (arith, left, l.within)) l.formed in
    let behind = behind_at at b e in
    record {
      many = rest.0;
      within = rest.1;
      formed = subst (λ (x : List ℕ). cpas_form rest.0 x ≡ true) behind rest.2;
      near = omega (arith, n);
      is = l.is ∙ ap (λ (j : ℕ). cpa_of j (drop at b)) left ∙ ap (cpa_of (place - (i + 1))) behind;
    }

pub left_here : (place i at : ℕ) (b : List ℕ) → place ≤ i → Left place i at b → {size : ℕ} → size ≡ cpa_size (drop at b)
    → cpa_of place b ≡ part (at + 2) size b
unfolding cpa_of
left_here place i at b n l {size} e =
    let none : place - i ≡ 0 = omega (arith, n) in
    l.is ∙ ap (λ (j : ℕ). cpa_of j (drop at b)) none ∙ ap (λ (j : ℕ). part 2 j (drop at b)) (sym e) ∙ ap (take size) (drop-drop 2 at b)

-- of n in form, that of a place among them has 1 to 1,024 bytes
pub cpa_length : (n i : ℕ) (b : List ℕ) → i < n → cpas_form n b ≡ true → (1 ≤ length (cpa_of i b)) × (length (cpa_of i b) ≤ 1024)
unfolding cpa_of
cpa_length zero i b l e = absurd (omega (arith, l))
cpa_length (suc n) zero b l e =
    let w = whole b (form-tells n b e).0 in
    let s = length_part 2 (cpa_size b) b w.room in
    (omega (arith, w.least, s), omega (arith, w.most, s))
cpa_length (suc n) (suc i) b l e = cpa_length n i (behind_cpa b) (omega (arith, l)) (form-tells n b e).1

-- one by itself: its length in front of it, and nothing behind
pub one_cpa : (b : List ℕ) → cpas_form 1 b ≡ true → cpa_of 0 b ≡ drop 2 b
unfolding cpa_of cpas_form
one_cpa b e =
    let w = both_true (cpa_form b) (eqb (length (behind_cpa b)) 0) e in
    let behind : length (drop (2 + cpa_size b) b) ≡ 0 = eqb-true (length (behind_cpa b)) 0 w.1 in
    take_all (cpa_size b) (drop 2 b) (omega (arith, length-drop 2 b, length-drop (2 + cpa_size b) b, behind))
