-- Which number a bad record is given. In this order: the rows, by their tests; what is known of a good one; the number of a bad one. Assumes nothing.
use mathlib.Core.Path.{◌≡◌, refl, sym, ◌∙◌}
use mathlib.Core.Logic.{◌⊎◌, inl, inr}
use mathlib.Core.Bool.{Bool, true, false, not, cond, ◌&&◌}
use mathlib.Core.List.{List, [], ◌∷◌}
use Prim.Native.Nat.{ℕ, ◌+◌, ◌-◌, ◌≤◌, ◌<◌}
use native.Mathlib.Omega.{arith}
use lib.Dec.{eqb, ltb}
use lib.ListN.{length, length-drop}
use borrow.Author.Tests.{eq-eqb, ne_eqb, lt-ltb, le-ltb, eqb-true, eqb-false, ltb-false, leb-true, not-false}
use Rattle.refusal.specs.Table.{Refusal, first_of, InOrder, by_number}
use Rattle.octet.proofs.TestLaws.{and_true}
use Rattle.refusal.proofs.TableLaws.{both}
use Rattle.kept.specs.Keys.{Every}
use Rattle.trace.specs.Trace.{length_of, kind_of, body_of, is_kind, body_fits}
use Rattle.trace.specs.Fault.{misplaced, faults, ends}

-- what holds of 0 and of each row's number holds of the number that is given
pub first_is : (P : ℕ → Type 0) (rs : List Refusal) → P 0 → Every (λ (r : Refusal). P r.number) rs → P (first_of rs)
unfolding first_of
first_is P [] z e = z
first_is P (r ∷ rs) z e = go r.applies (first_is P rs z e.1)
  where
    go : (b : Bool) → P (first_of rs) → P (cond b r.number (first_of rs))
    go true later = e.0
    go false later = later

module _ (at : ℕ) (r : List ℕ) where
  by_length : (a b : Bool) (n : ℕ) → (a ≡ true → b ≡ true) → 16 ≡ cond (not a) 16 (cond b 16 n)
  by_length true b n h = rw (h refl) refl
  by_length false b n h = refl

  -- too short to have a kind
  pub fault-short : length r < 4 → 16 ≡ first_of (faults at r)
  unfolding faults first_of
  fault-short h =
      by_length (eqb (length r) (2 + length_of r)) (ltb (length_of r) 2) _
      (λ e. lt-ltb (length_of r) 2 (omega (arith, eqb-true (length r) (2 + length_of r) e)))

  -- cut short, or longer than its length says
  pub fault-cut : (length r ≡ 2 + length_of r → ⊥) → 16 ≡ first_of (faults at r)
  unfolding faults first_of
  fault-cut n = simp (ne_eqb _ _ n) refl

  -- the first two rows pass
  module _ (whole : length r ≡ 2 + length_of r) (kinded : 4 ≤ length r) where
    told : ltb (length_of r) 2 ≡ false
    told = le-ltb (length_of r) 2 (omega (arith, whole))

    body : length (body_of r) ≡ length r - 4
    body = length-drop 4 r

    pub fault-body : body_fits (kind_of r) (length r - 4) ≡ false → 16 ≡ first_of (faults at r)
    unfolding faults first_of
    fault-body b = simp (eq-eqb _ _ whole, told, body, b) refl

    pub fault-kind : body_fits (kind_of r) (length r - 4) ≡ true → is_kind (kind_of r) ≡ false → 17 ≡ first_of (faults at r)
    unfolding faults first_of
    fault-kind b k = simp (eq-eqb _ _ whole, told, body, b, k) refl

    pub fault-placed : body_fits (kind_of r) (length r - 4) ≡ true → is_kind (kind_of r) ≡ true
        → first_of (misplaced at (kind_of r)) ≡ first_of (faults at r)
    unfolding faults first_of
    fault-placed b k = simp (eq-eqb _ _ whole, told, body, b, k) refl

-- ---- a good record

module _ (at : ℕ) (r : List ℕ) where
  good_by : (a b c : Bool) (n : ℕ) → cond a 16 (cond b 16 (cond c 16 n)) ≡ 0 → (a ≡ false) × (b ≡ false) × (c ≡ false)
  good_by true b c n e = absurd (omega (arith, e))
  good_by false true c n e = absurd (omega (arith, e))
  good_by false false true n e = absurd (omega (arith, e))
  good_by false false false n e = (refl, refl, refl)

  -- it has a kind, and the body of its kind
  pub good-record : first_of (faults at r) ≡ 0 → (4 ≤ length r) × (body_fits (kind_of r) (length (body_of r)) ≡ true)
  unfolding faults first_of
  good-record e =
      let w = good_by (not (eqb (length r) (2 + length_of r))) (ltb (length_of r) 2) (not (body_fits (kind_of r) (length (body_of r)))) _ e in
      let whole = eqb-true (length r) (2 + length_of r) (not-false _ w.0) in
      (omega (arith, whole, ltb-false (length_of r) 2 w.1), not-false _ w.2)

  pub in_order : InOrder by_number 16 (faults at r)
  unfolding faults
  in_order = (
    omega arith,
    omega arith,
    (
      omega arith,
      omega arith,
      (omega arith, omega arith, (omega arith, omega arith, (omega arith, omega arith, (omega arith, omega arith, tt)))),
    ),
  )

  -- a bad one is given 16 or 17
  pub bad-ends : 0 < first_of (faults at r) → ends (first_of (faults at r)) ≡ true
  unfolding faults
  bad-ends p =
      go (first_is (λ (n : ℕ). (n ≡ 0) ⊎ (ends n ≡ true)) (faults at r) (inl refl)
      (inr refl, (inr refl, (inr refl, (inr refl, (inr refl, (inr refl, tt)))))))
    where
      go : (first_of (faults at r) ≡ 0) ⊎ (ends (first_of (faults at r)) ≡ true) → ends (first_of (faults at r)) ≡ true
      go (inl e) = absurd (omega (arith, e, p))
      go (inr e) = e

-- ---- the length of a body, by its kind

pub fits_1 : (kind n : ℕ) → kind ≡ 1 → body_fits kind n ≡ true → 53 ≤ n
unfolding body_fits
fits_1 kind n q e = leb-true 53 n (rw q at e)

pub fits_2 : (kind n : ℕ) → kind ≡ 2 → body_fits kind n ≡ true → n ≡ 68
unfolding body_fits
fits_2 kind n q e = eqb-true n 68 (rw q at e)

pub fits_4 : (kind n : ℕ) → kind ≡ 4 → body_fits kind n ≡ true → n ≡ 102
unfolding body_fits
fits_4 kind n q e = eqb-true n 102 (rw q at e)

-- ---- the place of a good record: the first is of kind 4, and no later one is

module _ (at : ℕ) (r : List ℕ) where
  placed_by : (a b c d e f : Bool) → ◌≡◌ {A = ℕ} (cond a 16 (cond b 16 (cond c 16 (cond d 17 (cond e 17 (cond f 17 0)))))) 0
      → (e ≡ false) × (f ≡ false)
  placed_by true b c d e f q = absurd (omega (arith, q))
  placed_by false true c d e f q = absurd (omega (arith, q))
  placed_by false false true d e f q = absurd (omega (arith, q))
  placed_by false false false true e f q = absurd (omega (arith, q))
  placed_by false false false false true f q = absurd (omega (arith, q))
  placed_by false false false false false true q = absurd (omega (arith, q))
  placed_by false false false false false false q = (refl, refl)

  tests : first_of (faults at r) ≡ 0 → (eqb at 0 && not (eqb (kind_of r) 4) ≡ false) × (ltb 0 at && eqb (kind_of r) 4 ≡ false)
  unfolding faults first_of
  tests q =
      placed_by (not (eqb (length r) (2 + length_of r))) (ltb (length_of r) 2) (not (body_fits (kind_of r) (length (body_of r)))) (not (is_kind (kind_of r)))
      (eqb at 0 && not (eqb (kind_of r) 4)) (ltb 0 at && eqb (kind_of r) 4) q

  first_by : (a b : Bool) → a && not b ≡ false → a ≡ true → b ≡ true
  first_by a true q e = refl
  first_by a false q e = absurd (both e (sym (and_true a) ∙ q))

  pub first-opens : first_of (faults at r) ≡ 0 → at ≡ 0 → kind_of r ≡ 4
  first-opens q z = eqb-true (kind_of r) 4 (first_by (eqb at 0) (eqb (kind_of r) 4) (tests q).0 (eq-eqb at 0 z))

  later-by : (a b : Bool) → a && b ≡ false → a ≡ true → b ≡ false
  later-by a true q e = absurd (both e (sym (and_true a) ∙ q))
  later-by a false q e = refl

  pub later-calls : first_of (faults at r) ≡ 0 → 0 < at → kind_of r ≡ 4 → ⊥
  later-calls q p = eqb-false (kind_of r) 4 (later-by (ltb 0 at) (eqb (kind_of r) 4) (tests q).1 (lt-ltb 0 at p))
