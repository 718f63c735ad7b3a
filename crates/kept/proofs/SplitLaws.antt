-- Laws of a rising list that is split at a place: a key put in or taken out there; the keys that pass a test; the last key.
-- Assumes nothing.
use mathlib.Core.Path.{◌≡◌, refl, ◌∙◌, ap}
use mathlib.Core.Logic.{inl, inr}
use mathlib.Core.Bool.{Bool, true, false}
use mathlib.Core.List.{List, [], ◌∷◌, ◌++◌, reverse, reverse-cons, append-nil}
use Prim.Native.Nat.{ℕ, suc, ◌-◌, ◌≤◌, ◌<◌}
use native.Mathlib.Omega.{arith}
use lib.ListN.{length, get_or}
use Rattle.kept.specs.Keys.{◌∈◌, Every, Rising, plain, put, without, among, in_order, last_or}
use Rattle.kept.proofs.PutLaws.{put-nil, put-more, put_same, put_front}
use Rattle.kept.proofs.ListLaws.{Test, pass, fail, test, every_of, rising-at, rising-from, among-pass, among-fail}
use Rattle.kept.proofs.WithoutLaws.{without_this, without_other, without_absent}

-- put, without, in a list that is split at the place -----------------------------------------------------------------------------

module _ (f : ℕ → ℕ) where
  pub put-past : (k : ℕ) (low high : List ℕ) → Every (λ (j : ℕ). f j < f k) low → put f k (low ++ high) ≡ low ++ put f k high
  put-past k [] high a = refl
  put-past k (j ∷ low) high a = put-more f k j (low ++ high) a.0 ∙ ap (λ (t : List ℕ). j ∷ t) (put-past k low high a.1)

  pub put_last : (k : ℕ) (l : List ℕ) → Every (λ (j : ℕ). f j < f k) l → put f k l ≡ l ++ (k ∷ [])
  put_last k [] a = put-nil f k
  put_last k (j ∷ l) a = put-more f k j l a.0 ∙ ap (λ (t : List ℕ). j ∷ t) (put_last k l a.1)

  -- a new key goes between the smaller and the larger
  pub put-between : (k : ℕ) (low high : List ℕ) → Every (λ (j : ℕ). f j < f k) low → Rising f (suc (f k)) high → put f k (low ++ high) ≡ low ++ k ∷ high
  put-between k low high a r = put-past k low high a ∙ ap (λ (t : List ℕ). low ++ t) (put_front f k high r)

  -- a held key stays
  pub put-held : (k : ℕ) (low high : List ℕ) → Every (λ (j : ℕ). f j < f k) low → put f k (low ++ k ∷ high) ≡ low ++ k ∷ high
  put-held k low high a = put-past k low (k ∷ high) a ∙ ap (λ (t : List ℕ). low ++ t) (put_same f k k high refl)

  pub inOrder-rising : (b : ℕ) (l : List ℕ) → Rising f b l → in_order f l ≡ l
  unfolding in_order
  inOrder-rising b [] r = refl
  inOrder-rising b (j ∷ l) r = ap (put f j) (inOrder-rising (suc (f j)) l r.1) ∙ put_front f j l r.1

pub without_at : (k : ℕ) (low high : List ℕ) → Every (λ (j : ℕ). ¬ (k ≡ j)) low → ¬ (k ∈ high) → without k (low ++ k ∷ high) ≡ low ++ high
without_at k [] high a out = without_this k k high refl ∙ without_absent k high out
without_at k (j ∷ low) high a out = without_other k j (low ++ k ∷ high) a.0 ∙ ap (λ (t : List ℕ). j ∷ t) (without_at k low high a.1 out)

-- the first or the last of a rising list taken out
pub without_first : (b k : ℕ) (l : List ℕ) → Rising plain b (k ∷ l) → without k (k ∷ l) ≡ l
without_first b k l r = without_at k [] l tt (λ m. absurd (omega (arith, rising-at plain (suc k) k l r.1 m)))

pub rising_before : (f : ℕ → ℕ) (b j k : ℕ) (l m : List ℕ) → Rising f b (l ++ k ∷ m) → j ∈ l → f j < f k
rising_before f b j k [] m r n = absurd n
rising_before f b j k (i ∷ l) m r (inl e) = rw e (rising-at f (suc (f i)) k (l ++ k ∷ m) r.1 (in-middle l))
  where
    in-middle : (l : List ℕ) → k ∈ (l ++ k ∷ m)
    in-middle [] = inl refl
    in-middle (i ∷ l) = inr (in-middle l)
rising_before f b j k (i ∷ l) m r (inr n) = rising_before f (suc (f i)) j k l m r.1 n

pub without_last : (b k : ℕ) (l : List ℕ) → Rising plain b (l ++ (k ∷ [])) → without k (l ++ (k ∷ [])) ≡ l
without_last b k l r =
    without_at k l [] (every_of _ l (λ j m e. absurd (omega (arith, rising_before plain b j k l [] r m, e)))) (λ m. m) ∙ append-nil l

-- the sides ---------------------------------------------------------------------------------------------------------------------

module _ (p : ℕ → Bool) where
  pub among-append : (l m : List ℕ) → among p (l ++ m) ≡ among p l ++ among p m
  unfolding among
  among-append [] m = refl
  among-append (j ∷ l) m = go (test (p j)) (among-append l m)
    where
      go : Test (p j) → among p (l ++ m) ≡ among p l ++ among p m → among p (j ∷ l ++ m) ≡ among p (j ∷ l) ++ among p m
      go (pass e) ih = rw e (ap (λ (t : List ℕ). j ∷ t) ih)
      go (fail e) ih = rw e ih

  pub among-all : (l : List ℕ) → Every (λ (k : ℕ). p k ≡ true) l → among p l ≡ l
  unfolding among
  among-all [] a = refl
  among-all (j ∷ l) a = among-pass p j l a.0 ∙ ap (λ (t : List ℕ). j ∷ t) (among-all l a.1)

  pub among_none : (l : List ℕ) → Every (λ (k : ℕ). p k ≡ false) l → among p l ≡ []
  unfolding among
  among_none [] a = refl
  among_none (j ∷ l) a = among-fail p j l a.0 ∙ among_none l a.1

pub rising_among : (p : ℕ → Bool) (f : ℕ → ℕ) (b : ℕ) (l : List ℕ) → Rising f b l → Rising f b (among p l)
unfolding among
rising_among p f b [] r = tt
rising_among p f b (j ∷ l) r = go (test (p j)) (rising_among p f (suc (f j)) l r.1)
  where
    go : Test (p j) → Rising f (suc (f j)) (among p l) → Rising f b (among p (j ∷ l))
    go (pass e) ih = rw (among-pass p j l e) (r.0, ih)
    go (fail e) ih = rw (among-fail p j l e) (rising-from f b (suc (f j)) (among p l) (omega (arith, r.0)) ih)

pub last_get_d : (d : ℕ) (l : List ℕ) → 0 < length l → last_or d l ≡ get_or l (length l - 1) 0
unfolding last_or
last_get_d d [] h = absurd (omega arith)
last_get_d d (j ∷ []) h = refl
last_get_d d (j ∷ i ∷ l) h =
    let e : suc (suc (length l)) - 1 ≡ suc (suc (length l) - 1) = omega arith in
    rw e (last_get_d j (i ∷ l) (omega arith))

pub rising_raise : (f : ℕ → ℕ) (b c : ℕ) (l : List ℕ) → Rising f b l → ((k : ℕ) → k ∈ l → c ≤ f k) → Rising f c l
rising_raise f b c [] r h = tt
rising_raise f b c (j ∷ l) r h = (h j (inl refl), r.1)

pub last_append : (d : ℕ) (l m : List ℕ) → 0 < length m → last_or d (l ++ m) ≡ last_or 0 m
unfolding last_or
last_append d [] [] h = absurd (omega arith)
last_append d [] (k ∷ m) h = refl
last_append d (j ∷ l) m h = last_append j l m h

pub last_snoc : (d k : ℕ) (l : List ℕ) → last_or d (l ++ (k ∷ [])) ≡ k
unfolding last_or
last_snoc d k [] = refl
last_snoc d k (j ∷ l) = last_snoc j k l

pub last_reverse : (l m : List ℕ) → 0 < length l → last_or 0 (reverse l) ≡ get_or (l ++ m) 0 0
last_reverse [] m h = absurd (omega arith)
last_reverse (j ∷ l) m h = ap (last_or 0) (reverse-cons j l) ∙ last_snoc 0 j (reverse l)
