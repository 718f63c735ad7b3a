-- The theorems of demand 3, for any order round our own key and any drop rule that `Rules` admits.
-- Assumes nothing.
use mathlib.Core.Path.{◌≡◌, refl, sym, ◌∙◌, ap}
use mathlib.Core.Logic.{◌⊎◌, inl, inr}
use mathlib.Core.Bool.{Bool, true}
use mathlib.Core.List.{List, [], ◌∷◌}
use Prim.Native.Nat.{ℕ, suc, ◌≤◌, ◌<◌, zero-le, min}
use native.Mathlib.Omega.{arith}
use lib.Dec.{ltb}
use lib.ListN.{length, length-take}
use borrow.Author.Tests.{ltb-true, ltb-false, lt-ltb, le-ltb}
use Rattle.kept.specs.Keys.{◌∈◌, Every, Rising, plain, put, without}
use Rattle.key.specs.Around.{Side, below, above}
use Rattle.kept.specs.Neighbours.{is, nearest_first, neighbours_by, IsNeighbours}
use Rattle.kept.specs.History.{Event, learned, removed, trimmed, learn_with, happen, after, gathered, learned_all, Learns, NoRemoval}
use Rattle.kept.specs.Rules.{Order, DropRule}
use Rattle.kept.proofs.ListLaws.{Test, pass, fail, test, every_at, mem_take, mem-put, put_keeps, put_there, every_of, every-put, length-put, rising-put, rising-take, beyond-take, rising-ext, only_list, rising-at}
use Rattle.kept.proofs.WithoutLaws.{every_without, rising_without, length_without, shorter_without}
use Rattle.kept.proofs.RemovalLaws.{none-keeps}
use Rattle.kept.proofs.PutLaws.{put_same, put-more}
use Rattle.kept.proofs.RankedLaws.{mem-ranked, ranked-rises, ranked-mem, length-ranked, first-put, first-without}

pub is_side : (s t : Side) → is s t ≡ true → t ≡ s
is_side below below e = refl
is_side below above e = cc
is_side above below e = cc
is_side above above e = refl

pub side_is : (s t : Side) → t ≡ s → is s t ≡ true
side_is s t e = rw e (self s)
  where
    self : (s : Side) → is s s ≡ true
    self below = refl
    self above = refl

abbrev pub on : (ℕ → Side) → Side → ℕ → Bool
on side s k = is s (side k)

-- a list in the form that the cache has: strictly increasing, keys that may be kept
pub record Fine (ok : ℕ → Type 0) (keys : List ℕ) : Type 0 where
  pub rises : Rising plain 0 keys
  pub oks : Every ok keys

module _ (ok : ℕ → Type 0) (side : ℕ → Side) (near : ℕ → ℕ) (order : Order ok side near) where
  pub apart : (s : Side) (a b : ℕ) → ok a → ok b → on side s a ≡ true → on side s b ≡ true → near a ≡ near b → a ≡ b
  apart s a b o q u v e = order.apart a b o q (is_side s (side a) u ∙ sym (is_side s (side b) v)) e

  -- the neighbour list is as it must be
  pub neighbours-right : (keys : List ℕ) → Fine ok keys → (s : Side) → IsNeighbours side near s keys (neighbours_by side near s keys)
  neighbours-right keys h s =
      record {
        ordered = rising-take near 5 0 (nearest_first side near s keys) (ranked-rises ok (on side s) near (apart s) keys);
        many = length-take 5 (nearest_first side near s keys) ∙ ap (min 5) (length-ranked ok (on side s) near (apart s) 0 keys h.rises h.oks);
        there = λ k m. (mem-ranked ok (on side s) near (apart s) k keys (mem_take 5 k (nearest_first side near s keys) m)).0;
        sided = λ k m. is_side s (side k) (mem-ranked ok (on side s) near (apart s) k keys (mem_take 5 k (nearest_first side near s keys) m)).1;
        nearest = λ j k m q e out.
            beyond-take near 5 0 j k (nearest_first side near s keys) (ranked-rises ok (on side s) near (apart s) keys) m
            (ranked-mem ok (on side s) near (apart s) k keys h.oks q (side_is s (side k) e)) out;
      }

  -- and is the only one
  pub neighbours-only : (keys : List ℕ) → Every ok keys → (s : Side) (l m : List ℕ) → IsNeighbours side near s keys l → IsNeighbours side near s keys m → l ≡ m
  neighbours-only keys a s l m u v =
      only_list near (λ (k : ℕ). (k ∈ keys) × (side k ≡ s)) 0 0 l m
      (λ x y f g e. order.apart x y (every_at ok x keys a f.0) (every_at ok y keys a g.0) (f.1 ∙ sym g.1) e)
      u.ordered v.ordered (u.many ∙ sym v.many)
      (λ k n. (u.there k n, u.sided k n))
      (λ k n. (v.there k n, v.sided k n))
      (λ j k n f out. u.nearest j k n f.0 f.1 out)
      (λ j k n f out. v.nearest j k n f.0 f.1 out)

  module _ (drops : List ℕ → ℕ) (C : ℕ) (rule : DropRule ok side near drops C) where
    trimmed-fine : (keys : List ℕ) → Fine ok keys → Fine ok (trimmed drops C keys)
    unfolding trimmed
    trimmed-fine keys h = go (test (ltb C (length keys)))
      where
        go : Test (ltb C (length keys)) → Fine ok (trimmed drops C keys)
        go (pass e) = rw e (record { rises = rising_without plain 0 (drops keys) keys h.rises; oks = every_without ok (drops keys) keys h.oks })
        go (fail e) = rw e h

    trimmed-length : (keys : List ℕ) → Fine ok keys → length keys ≤ suc C → length (trimmed drops C keys) ≤ C
    unfolding trimmed
    trimmed-length keys h n = go (test (ltb C (length keys)))
      where
        go : Test (ltb C (length keys)) → length (trimmed drops C keys) ≤ C
        go (pass e) =
            rw e (omega (arith, shorter_without (drops keys) keys (rule.held keys h.rises h.oks (ltb-true C (length keys) e))))
        go (fail e) = rw e (ltb-false C (length keys) e)

    -- a drop changes no neighbour list
    trimmed-same : (keys : List ℕ) → Fine ok keys → (s : Side) → neighbours_by side near s (trimmed drops C keys) ≡ neighbours_by side near s keys
    unfolding trimmed
    trimmed-same keys h s = go (test (ltb C (length keys)))
      where
        go : Test (ltb C (length keys)) → neighbours_by side near s (trimmed drops C keys) ≡ neighbours_by side near s keys
        go (pass e) =
            let n : C < length keys = ltb-true C (length keys) e in
            rw e
            (first-without ok (on side s) near (apart s) 5 0 (drops keys) keys h.rises h.oks
            (rule.held keys h.rises h.oks n) (rule.spare keys h.rises h.oks n s))
        go (fail e) = rw e

    put-fine : (k : ℕ) (keys : List ℕ) → ok k → Fine ok keys → Fine ok (put plain k keys)
    put-fine k keys o h = record { rises = rising-put plain 0 k keys zero-le h.rises; oks = every-put plain ok k keys o h.oks }

    learn-fine : (k : ℕ) (keys : List ℕ) → ok k → Fine ok keys → Fine ok (learn_with drops C keys k)
    unfolding learn_with
    learn-fine k keys o h = trimmed-fine (put plain k keys) (put-fine k keys o h)

    -- after any events: strictly increasing, keys that may be kept, at most C
    pub after-fine : (es : List Event) (keys : List ℕ) → Fine ok keys → ((k : ℕ) → Learns k es → ok k) → Fine ok (after drops C keys es)
    unfolding after happen
    after-fine [] keys h o = h
    after-fine (learned k ∷ es) keys h o = after-fine es (learn_with drops C keys k) (learn-fine k keys (o k (inl refl)) h) (λ j n. o j (inr n))
    after-fine (removed k ∷ es) keys h o =
        after-fine es (without k keys) (record { rises = rising_without plain 0 k keys h.rises; oks = every_without ok k keys h.oks }) o

    pub after-length : (es : List Event) (keys : List ℕ) → Fine ok keys → length keys ≤ C → ((k : ℕ) → Learns k es → ok k) → length (after drops C keys es) ≤ C
    unfolding after happen learn_with
    after-length [] keys h n o = n
    after-length (learned k ∷ es) keys h n o =
        after-length es (learn_with drops C keys k) (learn-fine k keys (o k (inl refl)) h)
        (trimmed-length (put plain k keys) (put-fine k keys (o k (inl refl)) h) (omega (arith, length-put plain k keys)))
        (λ j m. o j (inr m))
    after-length (removed k ∷ es) keys h n o =
        after-length es (without k keys) (record { rises = rising_without plain 0 k keys h.rises; oks = every_without ok k keys h.oks })
        (omega (arith, length_without k keys)) o

    -- until the first removal: the neighbours among the kept keys are those among all the keys learned
    pub after_same : (es : List Event) (keys all : List ℕ) → Fine ok keys → Every ok all
        → ((s : Side) → neighbours_by side near s keys ≡ neighbours_by side near s all) → ((k : ℕ) → Learns k es → ok k) → NoRemoval drops C keys es
        → (s : Side) → neighbours_by side near s (after drops C keys es) ≡ neighbours_by side near s (gathered all es)
    unfolding after happen gathered learn_with
    after_same [] keys all h a e o calm s = e s
    after_same (learned k ∷ es) keys all h a e o calm s =
        let q : ok k = o k (inl refl) in
        after_same es (learn_with drops C keys k) (put plain k all) (learn-fine k keys q h) (every-put plain ok k all q a)
        (λ t. trimmed-same (put plain k keys) (put-fine k keys q h) t ∙ first-put ok (on side t) near (apart t) 5 k keys all q h.oks a (e t))
        (λ j m. o j (inr m)) calm s
    after_same (removed k ∷ es) keys all h a e o calm s =
        after_same es (without k keys) all (record { rises = rising_without plain 0 k keys h.rises; oks = every_without ok k keys h.oks }) a
        (rw (none-keeps drops C k keys es calm) e) o (rw (none-keeps drops C k keys es calm) calm.1) s

-- one call of `learn`, case by case ----------------------------------------------------------------------------------------------

put_member : (b k : ℕ) (l : List ℕ) → Rising plain b l → k ∈ l → put plain k l ≡ l
put_member b k [] r m = absurd m
put_member b k (j ∷ l) r (inl e) = put_same plain k j l e
put_member b k (j ∷ l) r (inr m) = put-more plain k j l (rising-at plain (suc j) k l r.1 m) ∙ ap (λ (t : List ℕ). j ∷ t) (put_member (suc j) k l r.1 m)

module _ (drops : List ℕ → ℕ) (C k : ℕ) (keys : List ℕ) where
  pub learn-held : Rising plain 0 keys → length keys ≤ C → k ∈ keys → learn_with drops C keys k ≡ keys
  unfolding learn_with trimmed
  learn-held r h m = rw (put_member 0 k keys r m, le-ltb C (length keys) h)

  pub learn-room : length (put plain k keys) ≤ C → learn_with drops C keys k ≡ put plain k keys
  unfolding learn_with trimmed
  learn-room h = rw (le-ltb C (length (put plain k keys)) h)

  pub learn-full : C < length (put plain k keys) → learn_with drops C keys k ≡ without (drops (put plain k keys)) (put plain k keys)
  unfolding learn_with trimmed
  learn-full h = rw (lt-ltb C (length (put plain k keys)) h)

-- all the keys learned ----------------------------------------------------------------------------------------------------------

pub gathered-fine : (ok : ℕ → Type 0) (es : List Event) (keys : List ℕ) → Fine ok keys → ((k : ℕ) → Learns k es → ok k) → Fine ok (gathered keys es)
unfolding gathered
gathered-fine ok [] keys h o = h
gathered-fine ok (learned k ∷ es) keys h o =
    gathered-fine ok es (put plain k keys)
    (record { rises = rising-put plain 0 k keys zero-le h.rises; oks = every-put plain ok k keys (o k (inl refl)) h.oks }) (λ j m. o j (inr m))
gathered-fine ok (removed k ∷ es) keys h o = gathered-fine ok es keys h o

gathered-has : (k : ℕ) (es : List Event) (keys : List ℕ) → (k ∈ keys) ⊎ Learns k es → k ∈ gathered keys es
unfolding gathered
gathered-has k [] keys (inl m) = m
gathered-has k [] keys (inr m) = absurd m
gathered-has k (learned j ∷ es) keys h = gathered-has k es (put plain j keys) (go h)
  where
    go : (k ∈ keys) ⊎ ((k ≡ j) ⊎ Learns k es) → (k ∈ put plain j keys) ⊎ Learns k es
    go (inl m) = inl (put_keeps plain k j keys m)
    go (inr (inl e)) = inl (rw e (put_there plain j keys (every_of _ keys (λ i m d. d))))
    go (inr (inr m)) = inr m
gathered-has k (removed j ∷ es) keys h = gathered-has k es keys h

gathered_from : (k : ℕ) (es : List Event) (keys : List ℕ) → k ∈ gathered keys es → (k ∈ keys) ⊎ Learns k es
unfolding gathered
gathered_from k [] keys m = inl m
gathered_from k (learned j ∷ es) keys m = go (gathered_from k es (put plain j keys) m)
  where
    back : (k ≡ j) ⊎ (k ∈ keys) → (k ∈ keys) ⊎ ((k ≡ j) ⊎ Learns k es)
    back (inl e) = inr (inl e)
    back (inr n) = inl n

    go : (k ∈ put plain j keys) ⊎ Learns k es → (k ∈ keys) ⊎ ((k ≡ j) ⊎ Learns k es)
    go (inl n) = back (mem-put plain k j keys n)
    go (inr n) = inr (inr n)
gathered_from k (removed j ∷ es) keys m = gathered_from k es keys m

nil_or : {A : Type 0} (k : ℕ) → (k ∈ []) ⊎ A → A
nil_or k (inl m) = absurd m
nil_or k (inr a) = a

-- `learned_all` has the keys that the events learn, and no other
pub learned-has : (k : ℕ) (es : List Event) → Learns k es → k ∈ learned_all es
learned-has k es m = gathered-has k es [] (inr m)

pub learned_from : (k : ℕ) (es : List Event) → k ∈ learned_all es → Learns k es
learned_from k es m = nil_or k (gathered_from k es [] m)

anything : ℕ → Type 0
anything k = Unit {0}

pub nothing-fine : (ok : ℕ → Type 0) → Fine ok []
nothing-fine ok = record { rises = tt; oks = tt }

pub learned-fine : (ok : ℕ → Type 0) (es : List Event) → ((k : ℕ) → Learns k es → ok k) → Fine ok (learned_all es)
learned-fine ok es o = gathered-fine ok es [] (nothing-fine ok) o

-- it goes by the set of them alone
pub learned-same : (es ds : List Event) → ((k : ℕ) → Learns k es → Learns k ds) → ((k : ℕ) → Learns k ds → Learns k es) → learned_all es ≡ learned_all ds
unfolding anything
learned-same es ds to from =
    rising-ext plain 0 0 (learned_all es) (learned_all ds)
    (learned-fine anything es (λ k m. tt)).rises (learned-fine anything ds (λ k m. tt)).rises
    (λ k m. learned-has k ds (to k (learned_from k es m)))
    (λ k m. learned-has k es (from k (learned_from k ds m)))
