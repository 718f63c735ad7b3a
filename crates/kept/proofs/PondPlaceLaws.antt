-- Which place goes under several own keys. Those farthest from the first of them stand beside the point opposite it: it is the first that is in
-- no list on one of the two ways out from there. In this order: lists by place; how far the keys are; the key that goes; its place. Assumes nothing.
use mathlib.Core.Path.{◌≡◌, refl, sym, ap, ◌∙◌}
use mathlib.Core.Logic.{◌⊎◌, inl, inr}
use mathlib.Core.Bool.{Bool, true, false, not}
use mathlib.Core.List.{List, [], ◌∷◌}
use Prim.Native.Nat.{ℕ, zero, suc, ◌+◌, ◌-◌, ◌*◌, ◌≤◌, ◌<◌}
use native.Mathlib.Omega.{arith}
use lib.ListN.{length, get_or}
use Rattle.key.specs.Around.{ring, up, apart}
use Rattle.key.proofs.RingLaws.{up_back}
use Rattle.key.proofs.AroundLaws.{near_up, near_down, near_apart}
use Rattle.kept.specs.Keys.{◌∈◌, Every, Rising, plain, among}
use Rattle.kept.specs.Plain.{count_below}
use Rattle.kept.specs.Turned.{NotKey, going_up, count_under}
use Rattle.kept.specs.Ponds.{is_listed, spare, farthest_from, drops_of}
use Rattle.kept.proofs.PutLaws.{Tri, less, same, more, tri}
use Rattle.kept.proofs.ListLaws.{every_at, every_of, in_get_d, rising-at, mem-among, among-pass, among-fail, Test, pass, fail, test}
use Rattle.kept.proofs.SplitLaws.{rising_among}
use Rattle.kept.proofs.TurnLaws.{going-rises, going-has, place-above, place_below, has-going}
use Rattle.kept.proofs.PlaceLaws.{turned-length}
use Rattle.kept.proofs.PondLaws.{farthest_all, farthest_lowest}
use Rattle.kept.proofs.PondRuleLaws.{apart_more, drops-spare, spare-some}

-- ---- lists by place

pub rising_less : (f : ℕ → ℕ) (b : ℕ) (l : List ℕ) (i j : ℕ) → Rising f b l → i < j → j < length l → f (get_or l i 0) < f (get_or l j 0)
rising_less f b [] i j r h g = absurd (omega arith)
rising_less f b (x ∷ l) i zero r h g = absurd (omega arith)
rising_less f b (x ∷ l) zero (suc j) r h g = rising-at f (suc (f x)) (get_or l j 0) l r.1 (in_get_d l j (omega arith))
rising_less f b (x ∷ l) (suc i) (suc j) r h g = rising_less f (suc (f x)) l i j r.1 (omega arith) (omega arith)

-- a member stands at a place
pub record Placed (k : ℕ) (l : List ℕ) : Type 0 where
  pub place : ℕ
  pub inside : place < length l
  pub there : k ≡ get_or l place 0

pub placed : (k : ℕ) (l : List ℕ) → k ∈ l → Placed k l
placed k [] m = absurd m
placed k (j ∷ l) (inl e) = record { place = 0; inside = omega arith; there = e }
placed k (j ∷ l) (inr m) = next (placed k l m)
  where
    next : Placed k l → Placed k (j ∷ l)
    next p = record { place = suc p.place; inside = omega (arith, p.inside); there = p.there }

in_among : (p : ℕ → Bool) (k : ℕ) (l : List ℕ) → k ∈ l → p k ≡ true → k ∈ among p l
in_among p k [] m e = absurd m
in_among p k (j ∷ l) (inl d) e = rw (among-pass p j l (rw (sym d) e)) (inl d)
in_among p k (j ∷ l) (inr m) e = go (test (p j)) (in_among p k l m e)
  where
    go : Test (p j) → k ∈ among p l → k ∈ among p (j ∷ l)
    go (pass d) n = rw (among-pass p j l d) (inr n)
    go (fail d) n = rw (among-fail p j l d) n

-- ---- how far the keys are

-- the key at a place, read up from our own key
abbrev pub key_up : ℕ → List ℕ → ℕ → ℕ
key_up own keys i = get_or (going_up own keys) i 0

module _ (own : ℕ) (o : own < ring) (keys : List ℕ) (rises : Rising plain 0 keys) (small : Every (λ (k : ℕ). k < ring) keys)
    (others : Every (NotKey own) keys) where
  key_in_lem : (i : ℕ) → i < length keys → key_up own keys i ∈ keys
  key_in_lem i h =
      has-going own o keys rises small (key_up own keys i) (in_get_d (going_up own keys) i (omega (arith, turned-length (count_under own keys) keys)))

  -- up to the point opposite the steps up, from there on the steps down
  pub far-above : (i : ℕ) → i < length keys - count_below own keys → apart own (key_up own keys i) ≡ up own (key_up own keys i)
  far-above i h =
      sym (near_apart own (key_up own keys i))
      ∙ near_up own (key_up own keys i) o (every_at _ (key_up own keys i) keys small (key_in_lem i (omega arith)))
      (place-above own o keys rises small others i h)

  pub far-below : (i : ℕ) → length keys - count_below own keys ≤ i → i < length keys
      → apart own (key_up own keys i) ≡ up (key_up own keys i) own
  far-below i h g =
      sym (near_apart own (key_up own keys i))
      ∙ near_down own (key_up own keys i) o (every_at _ (key_up own keys i) keys small (key_in_lem i g)) (place_below own o keys rises small others i h g)

  steps-rise : (i j : ℕ) → i < j → j < length keys → up own (key_up own keys i) < up own (key_up own keys j)
  steps-rise i j h g =
      rising_less (up own) 0 (going_up own keys) i j (going-rises own o keys rises small) h (omega (arith, turned-length (count_under own keys) keys))

  farther-above : (i j : ℕ) → i < j → j < length keys - count_below own keys → apart own (key_up own keys i) < apart own (key_up own keys j)
  farther-above i j h g = omega (arith, far-above i (omega arith), far-above j g, steps-rise i j h (omega arith))

  back : (i : ℕ) → i < length keys → up own (key_up own keys i) + up (key_up own keys i) own ≡ ring
  back i h =
      let m = key_in_lem i h in
      (up_back own (key_up own keys i) o (every_at _ (key_up own keys i) keys small m)
      (λ e. every_at (NotKey own) (key_up own keys i) keys others m (sym e))).0

  farther-below : (i j : ℕ) → length keys - count_below own keys ≤ i → i < j → j < length keys
      → apart own (key_up own keys j) < apart own (key_up own keys i)
  farther-below i j l h g =
      omega (arith, far-below i l (omega arith), far-below j (omega arith) g, steps-rise i j h g, back i (omega arith), back j g)

-- ---- the key that goes

-- k goes before j: it is farther, or as far and the lower
abbrev pub Before : ℕ → ℕ → ℕ → Type 0
Before own k j = (apart own j < apart own k) ⊎ ((apart own j ≡ apart own k) × (k ≤ j))

-- and so before one that is nearer than j
before_nearer : (own k j i : ℕ) → apart own i < apart own j → Before own k j → Before own k i
before_nearer own k j i l (inl h) = inl (omega arith)
before_nearer own k j i l (inr h) = inl (omega (arith, h.0))

module _ (first : ℕ) (owns keys : List ℕ) (ours : first ∈ owns) (rises : Rising plain 0 keys) (others : Every (λ (k : ℕ). ¬ (k ∈ owns)) keys)
    (enough : 10 * length owns < length keys) where
  not_first : (k : ℕ) → k ∈ keys → ¬ (k ≡ first)
  not_first k m e = every_at (λ (k : ℕ). ¬ (k ∈ owns)) k keys others m (rw e ours)

  pub goes-only : (k : ℕ) → k ∈ spare owns keys → ((j : ℕ) → j ∈ spare owns keys → Before first k j) → drops_of first owns keys ≡ k
  unfolding drops_of
  goes-only k m all = go (all (farthest_from first first (spare owns keys)) (drops-spare first owns keys ours others rises enough))
    where
      go : Before first k (farthest_from first first (spare owns keys)) → farthest_from first first (spare owns keys) ≡ k
      go (inl h) = absurd (omega (arith, farthest_all first first (spare owns keys) k m))
      go (inr h) =
          let l = farthest_lowest first first (spare owns keys) (rising_among _ plain 0 keys rises)
          (λ j n. apart_more first j (not_first j (mem-among _ j keys n).0)) k m (sym h.0) in
          omega (arith, h.1)

  -- ---- by place: from a place u up to the first that is below, and from there up to a place v, each key is in a list

  module _ (o : first < ring) (small : Every (λ (k : ℕ). k < ring) keys) where
    pub record Passed (u v : ℕ) : Type 0 where
      pub up_to : u ≤ length keys - count_below first keys
      pub from : length keys - count_below first keys ≤ v
      pub end : v ≤ length keys
      pub listed : (i : ℕ) → u ≤ i → i < v → is_listed owns keys (key_up first keys i) ≡ true

    -- no key is our first own
    apart-all : Every (NotKey first) keys
    apart-all = every_of _ keys (λ k m. not_first k m)

    spare-place : (i : ℕ) → i < length keys → is_listed owns keys (key_up first keys i) ≡ false → key_up first keys i ∈ spare owns keys
    spare-place i h e = in_among _ (key_up first keys i) keys (key_in_lem first o keys rises small apart-all i h) (ap not e)

    -- the places that are in no list: one before u, v, or one behind it
    data Where (u v i : ℕ) : Type 0 where
      lower : suc i < u → Where u v i
      last : suc i ≡ u → Where u v i
      next : i ≡ v → Where u v i
      higher : v < i → Where u v i

    where-is : (u v : ℕ) → Passed u v → (i : ℕ) → i < length keys → is_listed owns keys (key_up first keys i) ≡ false → Where u v i
    where-is u v p i h e = go (tri (suc i) u) (tri i v)
      where
        go : Tri (suc i) u → Tri i v → Where u v i
        go (less a) b = lower a
        go (same a) b = last a
        go (more a) (less b) =
            let l = p.listed i (omega arith) b in let z : ◌≡◌ {A = ℕ} 0 1 = cc in absurd (omega arith)
        go (more a) (same b) = next b
        go (more a) (more b) = higher b

    not_listed : (k : ℕ) → k ∈ spare owns keys → (k ∈ keys) × (is_listed owns keys k ≡ false)
    not_listed k m = let n = mem-among (λ (k : ℕ). not (is_listed owns keys k)) k keys m in (n.0, flip (is_listed owns keys k) n.1)
      where
        flip : (b : Bool) → not b ≡ true → b ≡ false
        flip true e = sym e
        flip false e = refl

    -- what holds of each place that is in no list holds of each spare key
    of_places : (P : ℕ → Type 0) → ((i : ℕ) → i < length keys → is_listed owns keys (key_up first keys i) ≡ false → P (key_up first keys i))
        → (k : ℕ) → k ∈ spare owns keys → P k
    of_places P f k m =
        let n = not_listed k m in
        let q = placed k (going_up first keys) (going-has first o keys rises small k n.0) in
        let e : k ≡ key_up first keys q.place = q.there in
        rw e (f q.place (omega (arith, q.inside, turned-length (count_under first keys) keys)) (rw e at n.1))

    pub below-goes : (u v : ℕ) → Passed u v → v < length keys → is_listed owns keys (key_up first keys v) ≡ false
        → (0 < u → Before first (key_up first keys v) (key_up first keys (u - 1))) → drops_of first owns keys ≡ key_up first keys v
    below-goes u v p h e b =
        goes-only (key_up first keys v) (spare-place v h e)
        (of_places (Before first (key_up first keys v)) (λ i l d. go i l (where-is u v p i l d)))
      where
        go : (i : ℕ) → i < length keys → Where u v i → Before first (key_up first keys v) (key_up first keys i)
        go i l (lower a) =
            before_nearer first (key_up first keys v) (key_up first keys (u - 1)) (key_up first keys i)
            (farther-above first o keys rises small apart-all i (u - 1) (omega arith) (omega (arith, p.up_to))) (b (omega arith))
        go i l (last a) = let j : u - 1 ≡ i = omega arith in rw j at (b (omega arith))
        go i l (next a) = inr (ap (λ (j : ℕ). apart first (key_up first keys j)) a, let j = ap (key_up first keys) a in omega arith)
        go i l (higher a) = inl (farther-below first o keys rises small apart-all v i p.from a l)

    pub above-goes : (u v : ℕ) → Passed u v → 0 < u → is_listed owns keys (key_up first keys (u - 1)) ≡ false
        → (v < length keys → Before first (key_up first keys (u - 1)) (key_up first keys v)) → drops_of first owns keys ≡ key_up first keys (u - 1)
    above-goes u v p h e b =
        goes-only (key_up first keys (u - 1)) (spare-place (u - 1) (omega (arith, p.up_to)) e)
        (of_places (Before first (key_up first keys (u - 1))) (λ i l d. go i l (where-is u v p i l d)))
      where
        go : (i : ℕ) → i < length keys → Where u v i → Before first (key_up first keys (u - 1)) (key_up first keys i)
        go i l (lower a) = inl (farther-above first o keys rises small apart-all i (u - 1) (omega arith) (omega (arith, p.up_to)))
        go i l (last a) =
            let j : i ≡ u - 1 = omega arith in
            inr (ap (λ (n : ℕ). apart first (key_up first keys n)) j, let q = ap (key_up first keys) j in omega arith)
        go i l (next a) = rw a (b (omega arith))
        go i l (higher a) =
            before_nearer first (key_up first keys (u - 1)) (key_up first keys v) (key_up first keys i)
            (farther-below first o keys rises small apart-all v i p.from a l) (b (omega arith))

    -- they are not all in a list
    pub not-all : (u v : ℕ) → Passed u v → u ≡ 0 → v < length keys
    not-all u v p z = go (tri v (length keys)) (spare owns keys) (spare-some owns keys rises enough) (λ k m. m)
      where
        none : length keys ≤ v → (k : ℕ) → k ∈ spare owns keys → ⊥
        none h =
            of_places (λ (k : ℕ). ⊥)
            (λ i l e. let d = p.listed i (omega arith) (omega arith) in let z : ◌≡◌ {A = ℕ} 0 1 = cc in absurd (omega arith))

        go : Tri v (length keys) → (l : List ℕ) → 0 < length l → ((k : ℕ) → k ∈ l → k ∈ spare owns keys) → v < length keys
        go (less h) l n f = h
        go (same e) [] n f = absurd (omega arith)
        go (more h) [] n f = absurd (omega arith)
        go (same e) (k ∷ l) n f = absurd (none (omega arith) k (f k (inl refl)))
        go (more h) (k ∷ l) n f = absurd (none (omega arith) k (f k (inl refl)))
