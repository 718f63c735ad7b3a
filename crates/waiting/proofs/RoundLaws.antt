-- Rounds of the tick: a place is listed at most twice and then gone, whatever is opened and freed between; the list is increasing.
-- In this order: what holds of every place; the tries left of places that pass a test, as one with an ID; the list of IDs, and three ticks.
-- Assumes nothing.
use mathlib.Core.Path.{◌≡◌, refl, sym, ap, ◌∙◌}
use mathlib.Core.Bool.{Bool, true, false, cond}
use mathlib.Core.List.{List, [], ◌∷◌}
use Prim.Native.Nat.{ℕ, zero, suc, ◌≤◌, ◌<◌}
use native.Mathlib.Omega.{arith}
use lib.Dec.{eqb, leb}
use lib.ListN.{length, get_or}
use borrow.Author.Tests.{eqb-false}
use Rattle.own.specs.Own.{Own}
use Rattle.table.specs.Rows.{Sized, any_of}
use Rattle.waiting.specs.Place.{id_of, tries_of}
use Rattle.waiting.specs.Form.{PlacesForm}
use Rattle.waiting.specs.Seek.{has_id}
use Rattle.waiting.specs.Open.{opened, freed}
use Rattle.waiting.specs.Tick.{one_less}
use Rattle.waiting.specs.Ticking.{spent, ticked, listed}
use Rattle.waiting.proofs.PlaceLaws.{form_tries, less-id, less-tries}
use Rattle.waiting.proofs.FormLaws.{Placed, placed}
use Rattle.waiting.proofs.KeptLaws.{or_left, or_right, neither, ticked-sized}

-- ---- what holds of every place

abbrev pub All : (List ℕ → Type 0) → List (List ℕ) → Type 0
All P [] = Unit {0}
All P (p ∷ ps) = P p × All P ps

-- of those of which none passes a test; of one of them; of all, by what else holds of them
pub all_none : (test : List ℕ → Bool) (ps : List (List ℕ)) → any_of test ps ≡ false → All (λ (p : List ℕ). test p ≡ false) ps
unfolding any_of
all_none test [] e = tt
all_none test (p ∷ ps) e = (or_left (test p) (any_of test ps) e, all_none test ps (or_right (test p) (any_of test ps) e))

pub all_at : (P : List ℕ → Type 0) (i : ℕ) (ps : List (List ℕ)) → All P ps → i < length ps → P (get_or ps i [])
all_at P i [] a h = absurd (omega arith)
all_at P zero (p ∷ ps) a h = a.0
all_at P (suc i) (p ∷ ps) a h = all_at P i ps a.1 (omega arith)

pub all_map : (P Q : List ℕ → Type 0) → ((p : List ℕ) → P p → Q p) → (ps : List (List ℕ)) → All P ps → All Q ps
all_map P Q f [] a = tt
all_map P Q f (p ∷ ps) a = (f p a.0, all_map P Q f ps a.1)

pub all_both : (P Q R : List ℕ → Type 0) → ((p : List ℕ) → P p → Q p → R p) → (ps : List (List ℕ)) → All P ps → All Q ps → All R ps
all_both P Q R f [] a b = tt
all_both P Q R f (p ∷ ps) a b = (f p a.0 b.0, all_both P Q R f ps a.1 b.1)

module _ (P : List ℕ → Type 0) where
  pub all-freed : (at : ℕ) (ps : List (List ℕ)) → All P ps → All P (freed at ps)
  unfolding freed
  all-freed at [] a = tt
  all-freed zero (p ∷ ps) a = a.1
  all-freed (suc at) (p ∷ ps) a = (a.0, all-freed at ps a.1)

  pub all-opened : (p : List ℕ) (ps : List (List ℕ)) → P p → All P ps → All P (opened p ps)
  unfolding opened
  all-opened p [] h a = (h, tt)
  all-opened p (q ∷ ps) h a = go (leb (id_of p) (id_of q)) (all-opened p ps h a.1)
    where
      go : (b : Bool) → All P (opened p ps) → All P (cond b (p ∷ q ∷ ps) (q ∷ opened p ps))
      go true ih = (h, a)
      go false ih = (a.0, ih)

  -- after a tick, where it comes to hold with one try less
  module _ (Q : List ℕ → Type 0) (step : (p : List ℕ) → length p ≡ 140 → P p → Q (one_less p)) where
    step_by : (b : Bool) (p : List ℕ) (qs : List (List ℕ)) → length p ≡ 140 → P p → All Q qs → All Q (cond b qs (one_less p ∷ qs))
    step_by true p qs long h a = a
    step_by false p qs long h a = (step p long h, a)

    pub all-ticked : (ps : List (List ℕ)) → Sized 140 ps → All P ps → All Q (ticked ps)
    unfolding ticked
    all-ticked [] s a = tt
    all-ticked (p ∷ ps) s a = step_by (spent p) p (ticked ps) s.0 a.0 (all-ticked ps s.1 a.1)

-- ---- a place has at most two tries left, loses one with each tick, gets none back from any other edit, and goes with none

-- if the place passes the test, it has at most k tries left
abbrev pub Tried : (List ℕ → Bool) → ℕ → List ℕ → Type 0
Tried test k p = test p ≡ true → tries_of p ≤ k

-- a test that does not look at the tries, as that for an ID
abbrev pub Steady : (List ℕ → Bool) → Type 0
Steady test = (p : List ℕ) → test (one_less p) ≡ test p

pub id_steady : (id : ℕ) → Steady (has_id id)
id_steady id p = ap (λ (n : ℕ). eqb n id) (less-id p)

module _ (test : List ℕ → Bool) where
  -- of a table in form, and of places of which none passes
  pub tried-form : (own : Own) (low : ℕ) (ps : List (List ℕ)) → Placed own low ps → All (Tried test 2) ps
  tried-form own low [] h = tt
  tried-form own low (p ∷ ps) h = ((λ e. form_tries own p h.0), tried-form own (suc (id_of p)) ps h.3)

  pub tried-none : (k : ℕ) (ps : List (List ℕ)) → any_of test ps ≡ false → All (Tried test k) ps
  tried-none k ps e =
      all_map (λ (p : List ℕ). test p ≡ false) (Tried test k) (λ p f t. let z : ◌≡◌ {A = ℕ} 0 1 = cc in absurd (omega arith)) ps (all_none test ps e)

  module _ (steady : Steady test) where
    -- one less with a tick
    pub tried-ticked : (k : ℕ) (ps : List (List ℕ)) → Sized 140 ps → All (Tried test (suc k)) ps → All (Tried test k) (ticked ps)
    tried-ticked k ps =
        all-ticked (Tried test (suc k)) (Tried test k) (λ p long h t. let l = h (sym (steady p) ∙ t) in omega (arith, less-tries p long)) ps

    gone-by : (b : Bool) (p : List ℕ) (qs : List (List ℕ)) → spent p ≡ b → Tried test 0 p → any_of test qs ≡ false
        → any_of test (cond b qs (one_less p ∷ qs)) ≡ false
    unfolding any_of
    gone-by true p qs is h e = e
    gone-by false p qs is h e = neither (steady p ∙ other (test p) refl) e
      where
        other : (c : Bool) → test p ≡ c → test p ≡ false
        other true t = absurd (eqb-false (tries_of p) 0 is (omega (arith, h t)))
        other false t = t

    -- and those with none go
    pub tried-gone : (ps : List (List ℕ)) → All (Tried test 0) ps → any_of test (ticked ps) ≡ false
    unfolding ticked
    tried-gone [] a = unfold any_of in refl
    tried-gone (p ∷ ps) a = gone-by (spent p) p (ticked ps) refl a.0 (tried-gone ps a.1)

-- ---- the list of IDs

count_by : (b : Bool) (x : ℕ) (p : List ℕ) (ids : List ℕ) (qs : List (List ℕ)) → length ids ≡ length qs
    → length (cond b ids (x ∷ ids)) ≡ length (cond b qs (p ∷ qs))
count_by true x p ids qs e = e
count_by false x p ids qs e = ap suc e

-- as many as places are left
pub listed-count : (ps : List (List ℕ)) → length (listed ps) ≡ length (ticked ps)
unfolding listed ticked
listed-count [] = refl
listed-count (p ∷ ps) = count_by (spent p) (id_of p) (one_less p) (listed ps) (ticked ps) (listed-count ps)

-- a place of a table in form is listed by the first tick and the second at most, and the third leaves none of them
abbrev every : List ℕ → Bool
every p = true

all_steady : Steady every
all_steady p = refl

none_left : (ps : List (List ℕ)) → any_of every ps ≡ false → ps ≡ []
unfolding any_of
none_left [] e = refl
none_left (p ∷ ps) e = let z : ◌≡◌ {A = ℕ} 0 1 = cc in absurd (omega arith)

nothing : (ids : List ℕ) → length ids ≡ 0 → ids ≡ []
nothing [] e = refl
nothing (id ∷ ids) e = absurd (omega arith)

pub three_ticks : (own : Own) (t : List ℕ) (ps : List (List ℕ)) → PlacesForm own t ps
    → (listed (ticked (ticked ps)) ≡ []) × (ticked (ticked (ticked ps)) ≡ [])
three_ticks own t ps f =
    let two = tried-form every own 0 ps (placed own 0 ps f.places) in
    let one = tried-ticked every all_steady 1 ps f.sized two in
    let spent_all = tried-ticked every all_steady 0 (ticked ps) (ticked-sized ps f.sized) one in
    let gone = none_left (ticked (ticked (ticked ps))) (tried-gone every all_steady (ticked (ticked ps)) spent_all) in
    (nothing (listed (ticked (ticked ps))) (listed-count (ticked (ticked ps)) ∙ ap length gone), gone)

-- and increasing
abbrev pub Rising : ℕ → List ℕ → Type 0
Rising low [] = Unit {0}
Rising low (x ∷ xs) = (low ≤ x) × Rising (suc x) xs

rising_weak : (low high : ℕ) (xs : List ℕ) → low ≤ high → Rising high xs → Rising low xs
rising_weak low high [] l h = tt
rising_weak low high (x ∷ xs) l h = (omega (arith, h.0), h.1)

rising_by_lem : (low : ℕ) (b : Bool) (x : ℕ) (ids : List ℕ) → low ≤ x → Rising (suc x) ids → Rising low (cond b ids (x ∷ ids))
rising_by_lem low true x ids l h = rising_weak low (suc x) ids (omega arith) h
rising_by_lem low false x ids l h = (l, h)

pub listed_rising : (own : Own) (low : ℕ) (ps : List (List ℕ)) → Placed own low ps → Rising low (listed ps)
unfolding listed
listed_rising own low [] h = tt
listed_rising own low (p ∷ ps) h = rising_by_lem low (spent p) (id_of p) (listed ps) h.1 (listed_rising own (suc (id_of p)) ps h.3)
