-- The key that goes, in the words of 02's Wish 11: it is in no own key's list, none of those is farther from the first own key, and of those equally far it is the
-- lowest; and these fix it. Assumes nothing.
use mathlib.Core.Path.{◌≡◌, refl, sym, ap, subst, ◌∙◌}
use mathlib.Core.Logic.{◌⊎◌, inl, inr}
use mathlib.Core.Bool.{Bool, true, false, not, ◌||◌}
use mathlib.Core.List.{List, [], ◌∷◌}
use Prim.Native.Nat.{ℕ, ◌*◌, ◌≤◌, ◌<◌}
use native.Mathlib.Omega.{arith}
use lib.ListN.{length}
use Rattle.key.specs.Around.{apart}
use Rattle.kept.specs.Keys.{◌∈◌, has, among, Every, Rising, plain}
use Rattle.kept.specs.Listed.{neighbour_list}
use Rattle.kept.specs.Ponds.{is_listed, spare, drops_of}
use Rattle.kept.specs.Plain.{NotOwn, first_of, drops}
use Rattle.kept.proofs.ListLaws.{has_in, has_out, every_at, among-pass, among-fail, mem-among}
use Rattle.kept.proofs.SplitLaws.{rising_among}
use Rattle.kept.proofs.PondLaws.{farthest_all, farthest_lowest}
use Rattle.kept.proofs.PondRuleLaws.{apart_more, drops-spare}

-- a key in none of the lists
abbrev pub InNone : List ℕ → List ℕ → ℕ → Type 0
InNone own keys q = (q ∈ keys) × ((k : ℕ) → k ∈ own → ¬ (q ∈ neighbour_list k keys))

not_both : {b : Bool} → b ≡ true → b ≡ false → ⊥
not_both e d = let z : ◌≡◌ {A = Bool} true false = sym e ∙ d in let y : ◌≡◌ {A = ℕ} 0 1 = cc in omega arith

-- the test, as a property
unlisted : (own keys : List ℕ) (q : ℕ) → is_listed own keys q ≡ false → (k : ℕ) → k ∈ own → ¬ (q ∈ neighbour_list k keys)
unfolding is_listed
unlisted [] keys q e k m i = m
unlisted (o ∷ own) keys q e k m i = go (has q (neighbour_list o keys)) refl m e (λ f n. unlisted own keys q f k n i)
  where
    go : (b : Bool) → has q (neighbour_list o keys) ≡ b → k ∈ (o ∷ own) → (b || is_listed own keys q) ≡ false
        → (is_listed own keys q ≡ false → k ∈ own → ⊥) → ⊥
    go true d m e later = not_both refl e
    go false d (inl s) e later = not_both (has_in q (neighbour_list o keys) (subst (λ (j : ℕ). q ∈ neighbour_list j keys) s i)) d
    go false d (inr m) e later = later e m

in_none : (own keys : List ℕ) (q : ℕ) → ((k : ℕ) → k ∈ own → ¬ (q ∈ neighbour_list k keys)) → is_listed own keys q ≡ false
unfolding is_listed
in_none [] keys q f = refl
in_none (o ∷ own) keys q f =
    rw (has_out q (neighbour_list o keys) (f o (inl refl))) (in_none own keys q (λ k m. f k (inr m)))

among_mem : (p : ℕ → Bool) (k : ℕ) (l : List ℕ) → k ∈ l → p k ≡ true → k ∈ among p l
among_mem p k [] m e = absurd m
among_mem p k (j ∷ l) (inl d) e = rw (among-pass p j l (ap p (sym d) ∙ e)) (inl d)
among_mem p k (j ∷ l) (inr m) e = go (p j) refl (among_mem p k l m e)
  where
    go : (b : Bool) → p j ≡ b → k ∈ among p l → k ∈ among p (j ∷ l)
    go true d i = rw (among-pass p j l d) (inr i)
    go false d i = rw (among-fail p j l d) i

spare-is : (own keys : List ℕ) (q : ℕ) → q ∈ spare own keys → InNone own keys q
spare-is own keys q m =
    let w = mem-among (λ (k : ℕ). not (is_listed own keys k)) q keys m in
    (w.0, unlisted own keys q (flip (is_listed own keys q) w.1))
  where
    flip : (b : Bool) → not b ≡ true → b ≡ false
    flip true e = sym e
    flip false e = refl

is-spare : (own keys : List ℕ) (q : ℕ) → InNone own keys q → q ∈ spare own keys
is-spare own keys q w = among_mem (λ (k : ℕ). not (is_listed own keys k)) q keys w.0 (ap not (in_none own keys q w.1))

-- what the rule names
pub record Goes (own keys : List ℕ) (d : ℕ) : Type 0 where
  pub unlisted : InNone own keys d
  pub farthest : (q : ℕ) → InNone own keys q → apart (first_of own) q ≤ apart (first_of own) d
  pub lower : (q : ℕ) → InNone own keys q → apart (first_of own) q ≡ apart (first_of own) d → d ≤ q

pub drops_goes : (own keys : List ℕ) → first_of own ∈ own → Every (NotOwn own) keys → Rising plain 0 keys → 10 * length own < length keys
    → Goes own keys (drops own keys)
unfolding drops_of
drops_goes own keys f a r h =
    let first = first_of own in
    let there = drops-spare first own keys f a r h in
    record {
      unlisted = spare-is own keys (drops own keys) there;
      farthest = λ q w. farthest_all first first (spare own keys) q (is-spare own keys q w);
      lower = λ q w e. farthest_lowest first first (spare own keys) (rising_among (λ (k : ℕ). not (is_listed own keys k)) plain 0 keys r)
          (λ k m. apart_more first k (λ s. every_at (NotOwn own) k keys a (spare-is own keys k m).0 (rw s f))) q (is-spare own keys q w) e;
    }
