-- Laws of the reason. In this order: records that pass a test; candidates of which there is one; what closeness says of distance; the reason is the
-- first that holds; no two are. Assumes nothing.
use mathlib.Core.Path.{◌≡◌, refl, sym, ap, subst, ◌∙◌}
use mathlib.Core.Logic.{inl, inr}
use mathlib.Core.Bool.{Bool, true, false, not, cond, ◌&&◌}
use mathlib.Core.List.{List, [], ◌∷◌}
use Prim.Native.Nat.{ℕ, ◌≤◌, ◌<◌}
use native.Mathlib.Omega.{arith}
use native.Mathlib.Decide.{dec_le}
use lib.Dec.{eqb}
use lib.ListN.{length}
use borrow.Author.Tests.{ne_eqb, eqb-true, eqb-false, not-true}
use Rattle.key.specs.Around.{apart, is_down, tie, closer}
use Rattle.key.proofs.AroundLaws.{closer_less, closer-same, closer_both, down_far}
use Rattle.record.specs.Record.{key_of}
use Rattle.kept.specs.Keys.{◌∈◌}
use Rattle.closest_row.specs.Closest.{closest_from, closest_of}
use Rattle.reason.specs.Because.{Because, only, target, tied, nearest, rank, named_key, Another, AnotherWith, Holds, First, Candidates}
use Rattle.reason.specs.Reason.{passing, differs, closest_in, because_by, reason_by, reason_of, given_by, because_of}
use Rattle.reason.specs.declared.Reason.TheVariants.{Only, Target, Tied, Nearest}
use Rattle.closest_row.proofs.ClosestLaws.{closest_in_lem, none-closer}

-- a test that holds and does not
pub both : {A : Type 0} {b : Bool} → b ≡ true → b ≡ false → A
both p q = let z : ◌≡◌ {A = ℕ} 0 1 = cc in absurd (omega arith)

-- the code's answer is the reason
pub given_because : (alone : Bool) (t k next : ℕ) → because_of (given_by alone t k next) next ≡ cond alone only (because_by t k next)
given_because alone t k next = go alone (eqb k t) (eqb (apart t next) (apart t k))
  where
    go : (a b c : Bool)
        → because_of (cond a Only (cond b Target (cond c Tied Nearest))) next ≡ cond a only (cond b target (cond c (tied next) (nearest next)))
    go true b c = refl
    go false true c = refl
    go false false true = refl
    go false false false = refl

-- ---- records that pass a test

module _ (f : List ℕ → Bool) where
  pub pass-has : (y : List ℕ) (recs : List (List ℕ)) → y ∈ recs → f y ≡ true → y ∈ passing f recs
  unfolding passing
  pass-has y [] m e = absurd m
  pass-has y (r ∷ recs) (inl is) e = subst (λ (b : Bool). y ∈ cond b (r ∷ passing f recs) (passing f recs)) (sym (ap f (sym is) ∙ e)) (inl is)
  pass-has y (r ∷ recs) (inr m) e = go (f r) (pass-has y recs m e)
    where
      go : (b : Bool) → y ∈ passing f recs → y ∈ cond b (r ∷ passing f recs) (passing f recs)
      go true n = inr n
      go false n = n

  pub has-pass : (y : List ℕ) (recs : List (List ℕ)) → y ∈ passing f recs → (y ∈ recs) × (f y ≡ true)
  unfolding passing
  has-pass y [] m = absurd m
  has-pass y (r ∷ recs) m = go (f r) refl m (has-pass y recs)
    where
      go : (b : Bool) → f r ≡ b → y ∈ cond b (r ∷ passing f recs) (passing f recs) → (y ∈ passing f recs → (y ∈ recs) × (f y ≡ true))
          → (y ∈ (r ∷ recs)) × (f y ≡ true)
      go true p (inl is) ih = (inl is, ap f is ∙ p)
      go true p (inr n) ih = (inr (ih n).0, (ih n).1)
      go false p n ih = (inr (ih n).0, (ih n).1)

-- ---- candidates of which there is one

one_left : (k : ℕ) (cands : List (List ℕ)) → Candidates cands → ((y : List ℕ) → y ∈ cands → key_of y ≡ k) → length cands ≡ 1
one_left k [] w h = absurd (omega (arith, w.0))
one_left k (x ∷ []) w h = refl
one_left k (x ∷ y ∷ more) w h = absurd (w.1.0 (inl (h x (inl refl) ∙ sym (h y (inr (inl refl))))))

sole : (cands : List (List ℕ)) (x y : List ℕ) → length cands ≡ 1 → x ∈ cands → y ∈ cands → x ≡ y
sole [] x y e m n = absurd m
sole (r ∷ []) x y e (inl p) (inl q) = p ∙ sym q
sole (r ∷ []) x y e (inl p) (inr n) = absurd n
sole (r ∷ []) x y e (inr m) n = absurd m
sole (r ∷ s ∷ more) x y e m n = absurd (omega (arith, e))

-- ---- what closeness says of distance

not_nearer : (t x y : ℕ) → closer t x y ≡ false → apart t y ≤ apart t x
not_nearer t x y e = go (dec_le (apart t y) (apart t x))
  where
    go : Dec (apart t y ≤ apart t x) → apart t y ≤ apart t x
    go (yes h) = h
    go (no h) = both (closer_less t x y (omega arith)) e

-- of two keys equally near, the one before which the other is not taken is taken by the tie rule
tie_chose : (t k j : ℕ) → ¬ (j ≡ k) → apart t j ≡ apart t k → closer t j k ≡ false → tie t k j ≡ true
tie_chose t k j d h e = go (closer t k j) refl
  where
    go : (b : Bool) → closer t k j ≡ b → tie t k j ≡ true
    go true c = sym (closer-same t k j (sym h)) ∙ c
    go false c = absurd (d (closer_both t j k e c))

-- and the other is not reached by going down
tie_up : (t k j : ℕ) → tie t k j ≡ true → is_down t j ≡ false
unfolding tie
tie_up t k j e = go (is_down t k) (is_down t j) refl e
  where
    go : (a b : Bool) → is_down t j ≡ b → (a && not b) ≡ true → is_down t j ≡ false
    go a false p q = p
    go true true p q = both refl (sym q)
    go false true p q = both refl (sym q)

-- ---- the reason is the first that holds

module _ (t : ℕ) (cands : List (List ℕ)) (w : Candidates cands) where
  abbrev k : ℕ
  k = named_key t cands

  abbrev others : List (List ℕ)
  others = passing (differs k) cands

  another-in : (r : List ℕ) → Another t cands r → r ∈ others
  another-in r a = pass-has (differs k) r cands a.0 (rw (ne_eqb (key_of r) k a.1) refl)

  in-another : (r : List ℕ) → r ∈ others → Another t cands r
  in-another r m = let h = has-pass (differs k) r cands m in (h.0, eqb-false (key_of r) k (not-true _ h.1))

  -- no candidate is nearer
  pub none-nearer : (r : List ℕ) → r ∈ cands → apart t k ≤ apart t (key_of r)
  none-nearer r m = not_nearer t (key_of r) k (none-closer t cands r m)

  -- two candidates of which one is named
  not-only : (r : List ℕ) → Another t cands r → ¬ (Holds t cands only)
  not-only r a e = a.1 (ap key_of (sole cands r (closest_of t cands) e a.0 (closest_in_lem t cands w.0)))

  pub tied-holds : (r : List ℕ) → Another t cands r → apart t (key_of r) ≡ apart t k → Holds t cands (tied (key_of r))
  tied-holds r a e = ((r, a, refl), e, tie_chose t k (key_of r) a.1 e (none-closer t cands r a.0))

  -- where there are others, their closest is another, and none of them is closer
  module _ (n : List ℕ) (a : Another t cands n) (best : (r : List ℕ) → Another t cands r → closer t (key_of r) (key_of n) ≡ false) where
    nearest-holds : ¬ (apart t (key_of n) ≡ apart t k) → Holds t cands (nearest (key_of n))
    nearest-holds d = (λ r b. strictly r b, (n, a, refl), best)
      where
        strictly : (r : List ℕ) → Another t cands r → apart t k < apart t (key_of r)
        strictly r b = omega (arith, none-nearer n a.0, not_nearer t (key_of r) (key_of n) (best r b), d)

    by-distance : (b : Bool) → eqb (apart t (key_of n)) (apart t k) ≡ b → ¬ (k ≡ t) → First t cands (cond b (tied (key_of n)) (nearest (key_of n)))
    by-distance true e d = (tied-holds n a (eqb-true _ _ e), before)
      where
        before : (c : Because) → rank c < 2 → ¬ (Holds t cands c)
        before only p = not-only n a
        before target p = d
        before (tied j) p = absurd (omega (arith, p))
        before (nearest j) p = absurd (omega (arith, p))
    by-distance false e d = (far, before)
      where
        far : Holds t cands (nearest (key_of n))
        far = nearest-holds (eqb-false _ _ e)

        before : (c : Because) → rank c < 3 → ¬ (Holds t cands c)
        before only p = not-only n a
        before target p = d
        before (tied j) p = λ h. omega (arith, far.0 h.0.0 h.0.1, h.1, ap (apart t) h.0.2)
        before (nearest j) p = absurd (omega (arith, p))

    by_key : (b : Bool) → eqb k t ≡ b
        → First t cands (cond b target (cond (eqb (apart t (key_of n)) (apart t k)) (tied (key_of n)) (nearest (key_of n))))
    by_key true e = (eqb-true k t e, before)
      where
        before : (c : Because) → rank c < 1 → ¬ (Holds t cands c)
        before only p = not-only n a
        before target p = absurd (omega (arith, p))
        before (tied j) p = absurd (omega (arith, p))
        before (nearest j) p = absurd (omega (arith, p))
    by_key false e = by-distance (eqb (apart t (key_of n)) (apart t k)) refl (eqb-false k t e)

  by-others : (os : List (List ℕ)) → others ≡ os → First t cands (reason_by t k (closest_in t os))
  unfolding closest_of
  by-others [] e = (one_left k cands w same, λ c p. absurd (omega (arith, p)))
    where
      same : (y : List ℕ) → y ∈ cands → key_of y ≡ k
      same y m = go (eqb (key_of y) k) refl
        where
          go : (b : Bool) → eqb (key_of y) k ≡ b → key_of y ≡ k
          go true p = eqb-true (key_of y) k p
          go false p = absurd (subst (λ (os : List (List ℕ)). y ∈ os) e (another-in y (m, eqb-false (key_of y) k p)))
  by-others (o ∷ os) e =
      by_key (closest_from t o os) (in-another _ (back (closest_in_lem t (o ∷ os) (omega arith))))
      (λ r b. none-closer t (o ∷ os) r (subst (λ (l : List (List ℕ)). r ∈ l) e (another-in r b)))
      (eqb k t) refl
    where
      back : {y : List ℕ} → y ∈ (o ∷ os) → y ∈ others
      back {y} m = subst (λ (l : List (List ℕ)). y ∈ l) (sym e) m

  pub reason-first : First t cands (reason_of t cands)
  unfolding reason_of
  reason-first = by-others others refl

  -- ---- no two are

  -- "another candidate is equally near": there is one at most
  pub one_other : (i j : ℕ) → AnotherWith t cands i → AnotherWith t cands j → apart t i ≡ apart t k → apart t j ≡ apart t k → i ≡ j
  one_other i j a b p q =
      let up = tied-holds a.0 a.1 (ap (apart t) a.2 ∙ p) in
      let on = tied-holds b.0 b.1 (ap (apart t) b.2 ∙ q) in
      let down : is_down t i ≡ is_down t j = ap (is_down t) (sym a.2) ∙ tie_up t k _ up.2 ∙ sym (tie_up t k _ on.2) ∙ ap (is_down t) b.2 in
      down_far t i j down (p ∙ sym q)

  one-next : (i j : ℕ) → Holds t cands (nearest i) → Holds t cands (nearest j) → i ≡ j
  one-next i j p q =
      closer_both t i j (ap (λ (n : ℕ). closer t n j) (sym p.1.2) ∙ q.2 p.1.0 p.1.1)
      (ap (λ (n : ℕ). closer t n i) (sym q.1.2) ∙ p.2 q.1.0 q.1.1)

  apart-rank : {A : Type 0} (b c : Because) → First t cands b → First t cands c → ¬ (rank b ≡ rank c) → A
  apart-rank b c f g d = go (dec_le (rank b) (rank c))
    where
      go : {A : Type 0} → Dec (rank b ≤ rank c) → A
      go (yes h) = absurd (g.1 b (omega (arith, d)) f.0)
      go (no h) = absurd (f.1 c (omega arith) g.0)

  pub first_one : (b c : Because) → First t cands b → First t cands c → b ≡ c
  first_one only only f g = refl
  first_one target target f g = refl
  first_one (tied i) (tied j) f g = ap tied (one_other i j f.0.0 g.0.0 f.0.1 g.0.1)
  first_one (nearest i) (nearest j) f g = ap nearest (one-next i j f.0 g.0)
  first_one only target f g = apart-rank only target f g (λ e. omega (arith, e))
  first_one only (tied j) f g = apart-rank only (tied j) f g (λ e. omega (arith, e))
  first_one only (nearest j) f g = apart-rank only (nearest j) f g (λ e. omega (arith, e))
  first_one target only f g = apart-rank target only f g (λ e. omega (arith, e))
  first_one target (tied j) f g = apart-rank target (tied j) f g (λ e. omega (arith, e))
  first_one target (nearest j) f g = apart-rank target (nearest j) f g (λ e. omega (arith, e))
  first_one (tied i) only f g = apart-rank (tied i) only f g (λ e. omega (arith, e))
  first_one (tied i) target f g = apart-rank (tied i) target f g (λ e. omega (arith, e))
  first_one (tied i) (nearest j) f g = apart-rank (tied i) (nearest j) f g (λ e. omega (arith, e))
  first_one (nearest i) only f g = apart-rank (nearest i) only f g (λ e. omega (arith, e))
  first_one (nearest i) target f g = apart-rank (nearest i) target f g (λ e. omega (arith, e))
  first_one (nearest i) (tied j) f g = apart-rank (nearest i) (tied j) f g (λ e. omega (arith, e))
