-- The definitions in the form in which code meets them, round the ring. Keys that strictly increase, read from the first number above our own on and then from
-- the start, rise by the steps up from our own key: so the first of them are above it, and the others, from the last back, below. In this
-- order: lists that rise by two measures; a rising list in two parts; the keys read round the ring. Assumes nothing.
use mathlib.Core.Path.{◌≡◌, refl, sym, ◌∙◌, ap, ap₂, subst}
use mathlib.Core.Logic.{◌⊎◌, inl, inr}
use mathlib.Core.Bool.{Bool, true, false, not, cond}
use mathlib.Core.List.{List, [], ◌∷◌, ◌++◌, reverse, reverse-cons, reverse-append}
use Prim.Native.Nat.{ℕ, zero, suc, ◌+◌, ◌-◌, ◌≤◌, ◌<◌, min, zero-le}
use native.Mathlib.Omega.{arith}
use lib.Dec.{leb, ltb}
use lib.ListN.{length, take, drop, get_or, length-append, length-take, length-reverse}
use lib.Seq.{take_at, drop_at, get_or-take, get_or-drop, take-nil, take-append-le}
use borrow.Author.Tests.{lt-leb, leb-false, ltb-true, ltb-false, le-ltb}
use Rattle.kept.specs.Keys.{◌∈◌, Every, Rising, plain, among, in_order}
use Rattle.key.specs.Around.{Side, below, above, ring, half, up, is_above, side_of, nearness}
use Rattle.kept.specs.Neighbours.{on_side}
use Rattle.kept.specs.Plain.{count_below, neighbours}
use Rattle.kept.specs.Turned.{NotKey, turned, count_under, count_upto, going_up}
use Rattle.key.proofs.RingLaws.{up_straight, up_over, up_back}
use Rattle.key.specs.Across.{across}
use Rattle.key.proofs.AroundLaws.{above_half, near_up, near_down, low_over, low_under, high_over, high_under}
use Rattle.kept.proofs.RankedLaws.{ranked, mem-inOrder, mem-ranked, ranked-mem, ranked-rises}
use Rattle.kept.proofs.HistoryLaws.{is_side, on, apart}
use Rattle.kept.proofs.Demand3Laws.{plain-order}
use Rattle.kept.proofs.ListLaws.{Test, pass, fail, test, every_at, every_of, in_get_d, rising-at, rising-ext, mem_take, mem-among, among-pass, among-fail}
use Rattle.kept.proofs.SplitLaws.{put_last, inOrder-rising, rising_among, among_none, among-all, among-append, rising_raise}

-- ---- members of two lists after each other

pub in_append : (k : ℕ) (l m : List ℕ) → k ∈ (l ++ m) → (k ∈ l) ⊎ (k ∈ m)
in_append k [] m i = inr i
in_append k (j ∷ l) m (inl e) = inl (inl e)
in_append k (j ∷ l) m (inr i) = go (in_append k l m i)
  where
    go : (k ∈ l) ⊎ (k ∈ m) → (k ∈ (j ∷ l)) ⊎ (k ∈ m)
    go (inl i) = inl (inr i)
    go (inr i) = inr i

pub append_left : (k : ℕ) (l m : List ℕ) → k ∈ l → k ∈ (l ++ m)
append_left k [] m i = absurd i
append_left k (j ∷ l) m (inl e) = inl e
append_left k (j ∷ l) m (inr i) = inr (append_left k l m i)

pub append_right : (k : ℕ) (l m : List ℕ) → k ∈ m → k ∈ (l ++ m)
append_right k [] m i = i
append_right k (j ∷ l) m i = inr (append_right k l m i)

pub append_swap : (k : ℕ) (l m : List ℕ) → k ∈ (l ++ m) → k ∈ (m ++ l)
append_swap k l m i = go (in_append k l m i)
  where
    go : (k ∈ l) ⊎ (k ∈ m) → k ∈ (m ++ l)
    go (inl i) = append_right k m l i
    go (inr i) = append_left k m l i

-- ---- lists that rise by two measures

module _ (f g : ℕ → ℕ) where
  pub rising_by_lem : (b c : ℕ) (l : List ℕ) → Rising f b l → ((k : ℕ) → k ∈ l → c ≤ g k) → ((j k : ℕ) → j ∈ l → k ∈ l → f j < f k → g j < g k) → Rising g c l
  rising_by_lem b c [] r h m = tt
  rising_by_lem b c (j ∷ l) r h m = (
    h j (inl refl),
    rising_by_lem (suc (f j)) (suc (g j)) l r.1 (λ k i. m j k (inl refl) (inr i) (rising-at f (suc (f j)) k l r.1 i)) (λ i k u v. m i k (inr u) (inr v)),
  )

  -- one measure rises and the other falls
  pub falls-by : (b : ℕ) (l : List ℕ) → Rising f b l → ((j k : ℕ) → j ∈ l → k ∈ l → f j < f k → g k < g j) → in_order g l ≡ reverse l
  unfolding in_order
  falls-by b [] r m = refl
  falls-by b (j ∷ l) r m =
      put_last g j (in_order g l)
      (every_of _ (in_order g l) (λ k i. let n = mem-inOrder g k l i in m j k (inl refl) (inr n) (rising-at f (suc (f j)) k l r.1 n)))
      ∙ (ap (λ (t : List ℕ). t ++ (j ∷ [])) (falls-by (suc (f j)) l r.1 (λ i k u v. m i k (inr u) (inr v))) ∙ sym (reverse-cons j l))

-- the first is the least and the last the most
pub first_least : (f : ℕ → ℕ) (b k : ℕ) (l : List ℕ) → Rising f b l → k ∈ l → f (get_or l 0 0) ≤ f k
first_least f b k [] r m = absurd m
first_least f b k (j ∷ l) r (inl e) = omega (arith, ap f e)
first_least f b k (j ∷ l) r (inr m) = omega (arith, rising-at f (suc (f j)) k l r.1 m)

pub last_most : (f : ℕ → ℕ) (b k : ℕ) (l : List ℕ) → Rising f b l → k ∈ l → f k ≤ f (get_or l (length l - 1) 0)
last_most f b k [] r m = absurd m
last_most f b k (j ∷ []) r (inl e) = omega (arith, ap f e)
last_most f b k (j ∷ []) r (inr m) = absurd m
last_most f b k (j ∷ i ∷ l) r m =
    let e : suc (suc (length l)) - 1 ≡ suc (suc (length l) - 1) = omega arith in
    rw e (go m (λ n q. last_most f (suc (f j)) n (i ∷ l) r.1 q))
  where
    go : k ∈ (j ∷ i ∷ l) → ((n : ℕ) → n ∈ (i ∷ l) → f n ≤ f (get_or (i ∷ l) (suc (length l) - 1) 0)) → f k ≤ f (get_or (i ∷ l) (suc (length l) - 1) 0)
    go (inl q) ih = omega (arith, ap f q, ih i (inl refl), r.1.0)
    go (inr q) ih = ih k q

pub rising_join : (f : ℕ → ℕ) (b : ℕ) (l m : List ℕ) → Rising f b l → Rising f b m → ((j k : ℕ) → j ∈ l → k ∈ m → f j < f k) → Rising f b (l ++ m)
rising_join f b [] m r q h = q
rising_join f b (i ∷ l) m r q h =
    (r.0, rising_join f (suc (f i)) l m r.1 (rising_raise f b (suc (f i)) m q (λ k u. h i k (inl refl) u)) (λ j k u v. h j k (inr u) v))

-- ---- a rising list in two parts: those that pass a test come first where none passes after one that fails

pub split : (f : ℕ → ℕ) (p q : ℕ → Bool) (b : ℕ) (l : List ℕ) → Rising f b l → ((k : ℕ) → q k ≡ not (p k))
    → ((j k : ℕ) → j ∈ l → k ∈ l → f j < f k → p j ≡ false → p k ≡ false) → among p l ++ among q l ≡ l
unfolding among
split f p q b [] r o h = refl
split f p q b (j ∷ l) r o h = go (test (p j)) (split f p q (suc (f j)) l r.1 o (λ i k u v. h i k (inr u) (inr v)))
  where
    goes : p j ≡ false → (k : ℕ) → k ∈ (j ∷ l) → p k ≡ false
    goes e k (inl d) = rw d e
    goes e k (inr i) = h j k (inl refl) (inr i) (rising-at f (suc (f j)) k l r.1 i) e

    go : Test (p j) → among p l ++ among q l ≡ l → among p (j ∷ l) ++ among q (j ∷ l) ≡ j ∷ l
    go (pass e) ih = ap₂ ◌++◌ (among-pass p j l e) (among-fail q j l (o j ∙ ap not e)) ∙ ap (λ (t : List ℕ). j ∷ t) ih
    go (fail e) ih =
        ap₂ ◌++◌ (among_none p (j ∷ l) (every_of _ (j ∷ l) (goes e)))
        (among-all q (j ∷ l) (every_of _ (j ∷ l) (λ k i. o k ∙ ap not (goes e k i))))

pub among-le : (p : ℕ → Bool) (l : List ℕ) → length (among p l) ≤ length l
unfolding among
among-le p [] = omega arith
among-le p (j ∷ l) = go (test (p j)) (among-le p l)
  where
    go : Test (p j) → length (among p l) ≤ length l → length (among p (j ∷ l)) ≤ suc (length l)
    go (pass e) ih = rw (among-pass p j l e) (omega arith)
    go (fail e) ih = rw (among-fail p j l e) (omega arith)

-- all pass one of two tests, where the one is the other's not
pub among_both : (p q : ℕ → Bool) (l : List ℕ) → ((k : ℕ) → k ∈ l → q k ≡ not (p k)) → length (among p l) + length (among q l) ≡ length l
unfolding among
among_both p q [] h = refl
among_both p q (j ∷ l) h = go (test (p j)) (among_both p q l (λ k i. h k (inr i)))
  where
    go : Test (p j) → length (among p l) + length (among q l) ≡ length l → length (among p (j ∷ l)) + length (among q (j ∷ l)) ≡ suc (length l)
    go (pass e) ih = rw (among-pass p j l e, among-fail q j l (h j (inl refl) ∙ ap not e)) (omega arith)
    go (fail e) ih = rw (among-fail p j l e, among-pass q j l (h j (inl refl) ∙ ap not e)) (omega arith)

-- ---- the first so many

pub take_min : (n : ℕ) (l : List ℕ) → take n l ≡ take (min n (length l)) l
take_min zero l =
    let e : 0 ≡ min 0 (length l) = omega arith in
    ap (λ (k : ℕ). take k l) e
take_min (suc n) [] =
    let e : 0 ≡ min (suc n) 0 = omega arith in
    ap (λ (k : ℕ). take k []) e
take_min (suc n) (x ∷ l) =
    let e : suc (min n (length l)) ≡ min (suc n) (suc (length l)) = omega arith in
    ap (λ (r : List ℕ). x ∷ r) (take_min n l) ∙ ap (λ (k : ℕ). take k (x ∷ l)) e

take_of : (m n : ℕ) (l : List ℕ) → take m (take n l) ≡ take (min m n) l
take_of zero n l = let e : 0 ≡ min 0 n = omega arith in ap (λ (k : ℕ). take k l) e
take_of (suc m) zero l = let e : 0 ≡ min (suc m) 0 = omega arith in ap (λ (k : ℕ). take k l) e
take_of (suc m) (suc n) [] = sym (take-nil (min (suc m) (suc n)))
take_of (suc m) (suc n) (x ∷ l) =
    let e : suc (min m n) ≡ min (suc m) (suc n) = omega arith in
    ap (λ (r : List ℕ). x ∷ r) (take_of m n l) ∙ ap (λ (k : ℕ). take k (x ∷ l)) e

-- ---- the keys read round the ring

module _ (own : ℕ) (o : own < ring) (keys : List ℕ) (rises : Rising plain 0 keys) (small : Every (λ (k : ℕ). k < ring) keys) where
  low : List ℕ
  low = among (λ (k : ℕ). ltb k own) keys

  high : List ℕ
  high = among (λ (k : ℕ). not (ltb k own)) keys

  parts : low ++ high ≡ keys
  unfolding low high
  parts =
      split plain (λ (k : ℕ). ltb k own) (λ (k : ℕ). not (ltb k own)) 0 keys rises (λ k. refl)
      (λ j k u v h e. le-ltb k own (omega (arith, ltb-false j own e)))

  round : List ℕ
  round = high ++ low

  turned-is : going_up own keys ≡ round
  unfolding turned round low high
  turned-is =
      ap₂ ◌++◌ (ap (drop (count_under own keys)) (sym parts) ∙ drop_at low high (count_under own keys) refl)
      (ap (take (count_under own keys)) (sym parts) ∙ take_at low high (count_under own keys) refl)

  is-low : (k : ℕ) → k ∈ low → k < own
  unfolding low
  is-low k i = ltb-true k own (mem-among (λ (k : ℕ). ltb k own) k keys i).1

  is-high : (k : ℕ) → k ∈ high → (own ≤ k) × (k < ring)
  unfolding high
  is-high k i =
      let m = mem-among (λ (k : ℕ). not (ltb k own)) k keys i in
      (ltb-false k own (not-true (ltb k own) m.1), every_at _ k keys small m.0)
    where
      not-true : (b : Bool) → not b ≡ true → b ≡ false
      not-true true e = sym e
      not-true false e = refl

  -- the same keys
  round-has : (k : ℕ) → k ∈ keys → k ∈ round
  unfolding round
  round-has k i = append_swap k low high (rw (sym parts) at i)

  has-round : (k : ℕ) → k ∈ round → k ∈ keys
  unfolding round
  has-round k i = rw parts at (append_swap k high low i)

  key : (k : ℕ) → k ∈ round → k < ring
  key k i = every_at _ k keys small (has-round k i)

  round-rises : Rising (up own) 0 round
  unfolding round low high
  round-rises =
      rising_join (up own) 0 high low
      (rising_by_lem plain (up own) 0 0 high (rising_among _ plain 0 keys rises) (λ k i. zero-le)
      (λ j k u v h. let x = is-high j u in let y = is-high k v in
      omega (arith, up_straight own j (omega arith) x.1, up_straight own k (omega arith) y.1)))
      (rising_by_lem plain (up own) 0 0 low (rising_among _ plain 0 keys rises) (λ k i. zero-le)
      (λ j k u v h. omega (arith, up_over own j (is-low j u) o, up_over own k (is-low k v) o)))
      (λ j k u v. let x = is-high j u in omega (arith, up_straight own j (omega arith) x.1, up_over own k (is-low k v) o))

  pub going-rises : Rising (up own) 0 (going_up own keys)
  going-rises = subst (Rising (up own) 0) (sym turned-is) round-rises

  pub going-has : (k : ℕ) → k ∈ keys → k ∈ going_up own keys
  going-has k i = rw turned-is (round-has k i)

  pub has-going : (k : ℕ) → k ∈ going_up own keys → k ∈ keys
  has-going k i = has-round k (rw turned-is at i)

  -- the first that is reached by going up is at the start, the first by going down at the end
  pub next_up : (k : ℕ) → k ∈ keys → up own (get_or (going_up own keys) 0 0) ≤ up own k
  next_up k i = first_least (up own) 0 k (going_up own keys) going-rises (going-has k i)

  pub next_down : (k : ℕ) → k ∈ keys → up own k ≤ up own (get_or (going_up own keys) (length (going_up own keys) - 1) 0)
  next_down k i = last_most (up own) 0 k (going_up own keys) going-rises (going-has k i)

  -- ---- where our own key is not among them: the two sides

  module _ (others : Every (NotKey own) keys) where
    other : (k : ℕ) → k ∈ round → ¬ (k ≡ own)
    other k i = every_at (NotKey own) k keys others (has-round k i)

    round-others : Every (NotKey own) round
    round-others = every_of _ round other

    is-over : (k : ℕ) → k ∈ high → (own < k) × (k < ring)
    unfolding round
    is-over k i =
        let h = is-high k i in
        let n : ¬ (k ≡ own) = other k (append_left k high low i) in
        (omega arith, h.1)

    -- a key's side by its steps
    above-is : (k : ℕ) → k ∈ round → is_above own k ≡ leb (up own k) half
    above-is k i = above_half own k o (key k i) (other k i)

    on-above : (k : ℕ) → on (side_of own) above k ≡ is_above own k
    on-above k = go (is_above own k)
      where
        go : (b : Bool) → on (λ (j : ℕ). cond b above below) above k ≡ b
        go true = refl
        go false = refl

    on_below : (k : ℕ) → on (side_of own) below k ≡ not (on (side_of own) above k)
    on_below k = go (is_above own k)
      where
        go : (b : Bool) → on (λ (j : ℕ). cond b above below) below k ≡ not (on (λ (j : ℕ). cond b above below) above k)
        go true = refl
        go false = refl

    sides : on_side (side_of own) above round ++ on_side (side_of own) below round ≡ round
    sides =
        split (up own) (on (side_of own) above) (on (side_of own) below) 0 round round-rises on_below
        (λ j k u v h e.
        let l : half < up own j = leb-false (up own j) half (sym (above-is j u) ∙ sym (on-above j) ∙ e) in
        on-above k ∙ above-is k v ∙ lt-leb (up own k) half (omega arith))

    -- the keys of a side, nearest first, from either list
    ranked-round : (s : Side) → ranked (on (side_of own) s) (nearness own) keys ≡ ranked (on (side_of own) s) (nearness own) round
    ranked-round s =
        let p = on (side_of own) s in
        let d = apart (NotKey own) (side_of own) (nearness own) (plain-order (NotKey own) own) s in
        rising-ext (nearness own) 0 0 (ranked p (nearness own) keys) (ranked p (nearness own) round)
        (ranked-rises (NotKey own) p (nearness own) d keys) (ranked-rises (NotKey own) p (nearness own) d round)
        (λ k i. let m = mem-ranked (NotKey own) p (nearness own) d k keys i in
        ranked-mem (NotKey own) p (nearness own) d k round round-others (round-has k m.0) m.1)
        (λ k i. let m = mem-ranked (NotKey own) p (nearness own) d k round i in
        ranked-mem (NotKey own) p (nearness own) d k keys others (has-round k m.0) m.1)

    nearest-above : ranked (on (side_of own) above) (nearness own) keys ≡ on_side (side_of own) above round
    nearest-above =
        let p = on (side_of own) above in
        ranked-round above
        ∙ inOrder-rising (nearness own) 0 (among p round)
        (rising_by_lem (up own) (nearness own) 0 0 (among p round) (rising_among p (up own) 0 round round-rises) (λ k i. zero-le)
        (λ j k u v h.
        let x = mem-among p j round u in
        let y = mem-among p k round v in
        omega (arith, near_up own j o (key j x.0) (sym (on-above j) ∙ x.1), near_up own k o (key k y.0) (sym (on-above k) ∙ y.1))))

    nearest-below : ranked (on (side_of own) below) (nearness own) keys ≡ reverse (on_side (side_of own) below round)
    nearest-below =
        let p = on (side_of own) below in
        ranked-round below
        ∙ falls-by (up own) (nearness own) 0 (among p round) (rising_among p (up own) 0 round round-rises)
        (λ j k u v h.
        let x = mem-among p j round u in
        let y = mem-among p k round v in
        let a = up_back own j o (key j x.0) (λ e. other j x.0 (sym e)) in
        let b = up_back own k o (key k y.0) (λ e. other k y.0 (sym e)) in
        omega (arith, near_down own j o (key j x.0) (not-above j x.1), near_down own k o (key k y.0) (not-above k y.1), a, b))
      where
        not-above : (k : ℕ) → on (side_of own) below k ≡ true → is_above own k ≡ false
        not-above k e = sym (on-above k) ∙ flip (on (side_of own) above k) (sym (on_below k) ∙ e)
          where
            flip : (b : Bool) → not b ≡ true → b ≡ false
            flip true e = sym e
            flip false e = refl

    -- as many on each side in either list
    count-round : (p : ℕ → Bool) → length (among p round) ≡ length (among p keys)
    unfolding round
    count-round p =
        let x : length (among p (high ++ low)) ≡ length (among p high) + length (among p low) =
        ap length (among-append p high low) ∙ length-append (among p high) (among p low) in
        let y : length (among p keys) ≡ length (among p low) + length (among p high) =
        ap (λ (l : List ℕ). length (among p l)) (sym parts) ∙ ap length (among-append p low high) ∙ length-append (among p low) (among p high) in
        omega arith

    length-round : length round ≡ length keys
    unfolding round
    length-round =
        let x : length (high ++ low) ≡ length high + length low = length-append high low in
        let y : length keys ≡ length low + length high = ap length (sym parts) ∙ length-append low high in
        omega arith

    all-of-them : length (on_side (side_of own) above round) + count_below own keys ≡ length keys
    all-of-them =
        omega (
          arith,
          sym (length-append (on_side (side_of own) above round) (on_side (side_of own) below round)) ∙ ap length sides,
          count-round (on (side_of own) below),
          length-round,
        )

    many-above : length (on_side (side_of own) above round) ≡ length keys - count_below own keys
    many-above = omega (arith, all-of-them)

    take-above : take (length keys - count_below own keys) (going_up own keys) ≡ on_side (side_of own) above round
    take-above =
        ap (take (length keys - count_below own keys)) (turned-is ∙ sym sides)
        ∙ take_at (on_side (side_of own) above round) (on_side (side_of own) below round) (length keys - count_below own keys) many-above

    drop-above : drop (length keys - count_below own keys) (going_up own keys) ≡ on_side (side_of own) below round
    drop-above =
        ap (drop (length keys - count_below own keys)) (turned-is ∙ sym sides)
        ∙ drop_at (on_side (side_of own) above round) (on_side (side_of own) below round) (length keys - count_below own keys) many-above

    -- by place: the first of them are above our own key, the others below
    pub place-above : (i : ℕ) → i < length keys - count_below own keys → is_above own (get_or (going_up own keys) i 0) ≡ true
    place-above i h =
        let l : List ℕ = on_side (side_of own) above round in
        let e : get_or (going_up own keys) i 0 ≡ get_or l i 0 =
        sym (get_or-take (length keys - count_below own keys) (going_up own keys) i 0 h) ∙ ap (λ (t : List ℕ). get_or t i 0) take-above in
        rw e (sym (on-above (get_or l i 0)) ∙ (mem-among (on (side_of own) above) (get_or l i 0) round (in_get_d l i (omega (arith, many-above)))).1)

    pub place_below : (i : ℕ) → length keys - count_below own keys ≤ i → i < length keys → is_above own (get_or (going_up own keys) i 0) ≡ false
    place_below i h g =
        let a : ℕ = length keys - count_below own keys in
        let l : List ℕ = on_side (side_of own) below round in
        let n : a + (i - a) ≡ i = omega arith in
        let e : get_or (going_up own keys) i 0 ≡ get_or l (i - a) 0 =
        ap (λ (j : ℕ). get_or (going_up own keys) j 0) (sym n) ∙ sym (get_or-drop a (going_up own keys) (i - a) 0)
        ∙ ap (λ (t : List ℕ). get_or t (i - a) 0) drop-above in
        let m = mem-among (on (side_of own) below) (get_or l (i - a) 0) round
        (in_get_d l (i - a) (omega (arith, count-round (on (side_of own) below), all-of-them))) in
        rw e (sym (on-above (get_or l (i - a) 0)) ∙ flip (on (side_of own) above (get_or l (i - a) 0)) (sym (on_below (get_or l (i - a) 0)) ∙ m.1))
      where
        flip : (b : Bool) → not b ≡ true → b ≡ false
        flip true e = sym e
        flip false e = refl

    -- how many are below, by plain order: one search for our own key, and one for the point opposite among those over it or those under it
    over-are : drop (count_under own keys) keys ≡ high
    unfolding low high
    over-are = ap (drop (count_under own keys)) (sym parts) ∙ drop_at low high (count_under own keys) refl

    under-are : take (count_under own keys) keys ≡ low
    unfolding low high
    under-are = ap (take (count_under own keys)) (sym parts) ∙ take_at low high (count_under own keys) refl

    pub over-rises : Rising plain 0 (drop (count_under own keys) keys)
    unfolding high
    over-rises = subst (Rising plain 0) (sym over-are) (rising_among _ plain 0 keys rises)

    pub under-rises : Rising plain 0 (take (count_under own keys) keys)
    unfolding low
    under-rises = subst (Rising plain 0) (sym under-are) (rising_among _ plain 0 keys rises)

    below-is : (k : ℕ) → on (side_of own) below k ≡ not (is_above own k)
    below-is k = on_below k ∙ ap not (on-above k)

    twice : (b : Bool) → b ≡ not (not b)
    twice true = refl
    twice false = refl

    below_parts : count_below own keys ≡ length (among (on (side_of own) below) low) + length (among (on (side_of own) below) high)
    below_parts =
        let p = on (side_of own) below in
        ap (λ (l : List ℕ). length (among p l)) (sym parts) ∙ ap length (among-append p low high) ∙ length-append (among p low) (among p high)

    size-parts : length keys ≡ length low + length high
    size-parts = ap length (sym parts) ∙ length-append low high

    pub below-low : own < half → count_below own keys + count_upto (across own) (drop (count_under own keys) keys) ≡ length keys
    below-low l =
        let p = on (side_of own) below in
        let q : ℕ → Bool = λ (k : ℕ). leb k (across own) in
        let all : among p low ≡ low = among-all p low (every_of _ low (λ k i. below-is k ∙ ap not (low_under own k l (is-low k i)))) in
        let some : length (among p high) + length (among q high) ≡ length high =
        among_both p q high (λ k i. let h = is-over k i in
        sym (low_over own k l h.0 h.1) ∙ twice (is_above own k) ∙ ap not (sym (below-is k))) in
        let a : length (among p low) ≡ length low = ap length all in
        let b : count_upto (across own) (drop (count_under own keys) keys) ≡ length (among q high) = ap (count_upto (across own)) over-are in
        omega (arith, below_parts, size-parts, a, b, some)

    pub below-high : half ≤ own → count_below own keys + count_upto (across own) (take (count_under own keys) keys) ≡ count_under own keys
    unfolding low
    below-high l =
        let p = on (side_of own) below in
        let q : ℕ → Bool = λ (k : ℕ). leb k (across own) in
        let none : among p high ≡ [] =
        among_none p high (every_of _ high (λ k i. let h = is-over k i in below-is k ∙ ap not (high_over own k l h.0 h.1))) in
        let some : length (among p low) + length (among q low) ≡ length low =
        among_both p q low (λ k i. sym (high_under own k l o (is-low k i)) ∙ twice (is_above own k) ∙ ap not (sym (below-is k))) in
        let a : length (among p high) ≡ 0 = ap length none in
        let b : count_upto (across own) (take (count_under own keys) keys) ≡ length (among q low) = ap (count_upto (across own)) under-are in
        omega (arith, below_parts, a, b, some)

    -- the neighbour lists, by places
    pub list-above : neighbours own above keys ≡ take (min 5 (length keys - count_below own keys)) (going_up own keys)
    list-above =
        let a : ℕ = length keys - count_below own keys in
        ap (take 5) (nearest-above ∙ sym take-above) ∙ take_of 5 a (going_up own keys)

    pub list-below : neighbours own below keys ≡ take (min 5 (count_below own keys)) (reverse (going_up own keys))
    list-below =
        let a : ℕ = length keys - count_below own keys in
        let up-list : List ℕ = going_up own keys in
        let b : List ℕ = on_side (side_of own) below round in
        let n : length (reverse b) ≡ count_below own keys = length-reverse b ∙ count-round (on (side_of own) below) in
        let e : reverse up-list ≡ reverse b ++ reverse (on_side (side_of own) above round) =
        ap reverse (turned-is ∙ sym sides) ∙ reverse-append (on_side (side_of own) above round) b in
        ap (take 5) nearest-below ∙ take_min 5 (reverse b) ∙ ap (λ (k : ℕ). take (min 5 k) (reverse b)) n
        ∙ sym (ap (take (min 5 (count_below own keys))) e
        ∙ take-append-le (min 5 (count_below own keys)) (reverse b) (reverse (on_side (side_of own) above round)) (omega (arith, n)))

    pub above-length : length (neighbours own above keys) ≡ min 5 (length keys - count_below own keys)
    above-length = ap length (ap (take 5) nearest-above) ∙ length-take 5 (on_side (side_of own) above round) ∙ ap (min 5) many-above

    pub below_length : length (neighbours own below keys) ≡ min 5 (count_below own keys)
    below_length =
        let b : List ℕ = on_side (side_of own) below round in
        ap length (ap (take 5) nearest-below) ∙ length-take 5 (reverse b) ∙ ap (min 5) (length-reverse b ∙ count-round (on (side_of own) below))

-- the two sides are apart: no key is listed on both
pub one_side : (own k : ℕ) (keys : List ℕ) → k ∈ neighbours own below keys → k ∈ neighbours own above keys → ⊥
one_side own k keys m n =
    let x : side_of own k ≡ below = side_is below m in
    let y : side_of own k ≡ above = side_is above n in
    let z : ◌≡◌ {A = ℕ} 0 1 = cc in
    omega arith
  where
    side_is : (s : Side) → k ∈ neighbours own s keys → side_of own k ≡ s
    side_is s i =
        let l : List ℕ = on_side (side_of own) s keys in
        is_side s (side_of own k)
        (mem-among (on (side_of own) s) k keys (mem-inOrder (nearness own) k l (mem_take 5 k (in_order (nearness own) l) i))).1

pub count-le : (own : ℕ) (keys : List ℕ) → count_below own keys ≤ length keys
count-le own keys = among-le (on (side_of own) below) keys

pub under_le : (own : ℕ) (keys : List ℕ) → count_under own keys ≤ length keys
under_le own keys = among-le (λ (k : ℕ). ltb k own) keys
