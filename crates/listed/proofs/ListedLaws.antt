-- Which places are in a list, by the runs of our own keys. In this order: the counts of a run, with one key more; our own keys; the test that
-- code makes; the runs tell which keys are listed. Assumes nothing.
use mathlib.Core.Path.{◌≡◌, refl, sym, ap, ap₂, ◌∙◌}
use mathlib.Core.Logic.{inl, inr}
use mathlib.Core.Bool.{Bool, true, false, not, cond, ◌||◌}
use mathlib.Core.List.{List, [], ◌∷◌, map}
use Prim.Native.Nat.{ℕ, zero, suc, ◌+◌, ◌-◌, ◌*◌, ◌/◌, ◌≤◌, ◌<◌}
use native.Mathlib.Omega.{arith}
use lib.Dec.{ltb}
use lib.ListN.{length, take, drop, get_or}
use borrow.Author.Tests.{lt-ltb, le-ltb}
use Rattle.key.specs.Around.{ring, is_above, side_of, below, above}
use Rattle.record.specs.Record.{key_of}
use Rattle.table.specs.Rows.{insert_at}
use Rattle.kept.specs.Keys.{◌∈◌, has, Every, Rising, plain, among}
use Rattle.kept.specs.Neighbours.{is}
use Rattle.kept.specs.Plain.{count_below, neighbour_list}
use Rattle.kept.specs.Turned.{count_under}
use Rattle.kept.specs.Ponds.{is_listed}
use Rattle.kept.proofs.HistoryLaws.{on}
use Rattle.kept.proofs.ListLaws.{every_at, every_of, in_get_d}
use Rattle.kept.proofs.TurnLaws.{under_le, count-le}
use Rattle.kept.proofs.PondLaws.{in-run}
use Rattle.search.proofs.SeekLaws.{key-among, keys_many}
use Rattle.sides.proofs.SideLaws.{key_of-row}
use Rattle.listed.specs.declared.Runs.{Runs}
use Rattle.own.specs.Own.{own_keys}
use Rattle.listed.specs.Runs.{run_of, runs_of, in_one, in_runs, Fits}

-- ---- the counts

-- how many pass a test, with one more
many_more : (p : ℕ → Bool) (k : ℕ) (l : List ℕ) → length (among p (k ∷ l)) ≡ cond (p k) (suc (length (among p l))) (length (among p l))
unfolding among
many_more p k l = go (p k)
  where
    go : (b : Bool) → length (cond b (k ∷ among p l) (among p l)) ≡ cond b (suc (length (among p l))) (length (among p l))
    go true = refl
    go false = refl

pub under_more : (own k : ℕ) (keys : List ℕ) → count_under own (k ∷ keys) ≡ cond (ltb k own) (suc (count_under own keys)) (count_under own keys)
under_more own k keys = many_more (λ (j : ℕ). ltb j own) k keys

pub below_more : (own k : ℕ) (keys : List ℕ)
    → count_below own (k ∷ keys) ≡ cond (not (is_above own k)) (suc (count_below own keys)) (count_below own keys)
below_more own k keys =
    many_more (on (side_of own) below) k keys
    ∙ ap (λ (b : Bool). cond b (suc (count_below own keys)) (count_below own keys)) (go (is_above own k))
  where
    go : (b : Bool) → is below (cond b above below) ≡ not b
    go true = refl
    go false = refl

-- wherever it stands
many_insert : (p : ℕ → Bool) (i : ℕ) (r : List ℕ) (recs : List (List ℕ))
    → length (among p (key_of r ∷ map key_of recs)) ≡ length (among p (map key_of (insert_at i r recs)))
many_insert p zero r recs = refl
many_insert p (suc i) r [] = refl
many_insert p (suc i) r (x ∷ xs) =
    many_more p (key_of r) (map key_of (x ∷ xs)) ∙ ap (λ (n : ℕ). cond (p (key_of r)) (suc n) n) (many_more p (key_of x) (map key_of xs))
    ∙ swap (p (key_of r)) (p (key_of x)) (length (among p (map key_of xs)))
    ∙ ap (λ (n : ℕ). cond (p (key_of x)) (suc n) n) (sym (many_more p (key_of r) (map key_of xs)) ∙ many_insert p i r xs)
    ∙ sym (many_more p (key_of x) (map key_of (insert_at i r xs)))
  where
    swap : (a b : Bool) (n : ℕ) → cond a (suc (cond b (suc n) n)) (cond b (suc n) n) ≡ cond b (suc (cond a (suc n) n)) (cond a (suc n) n)
    swap true true n = refl
    swap true false n = refl
    swap false true n = refl
    swap false false n = refl

run_insert : (own at : ℕ) (r : List ℕ) (recs : List (List ℕ)) → run_of own (key_of r ∷ map key_of recs) ≡ run_of own (map key_of (insert_at at r recs))
run_insert own at r recs = λ i. record {
  first = many_insert (λ (k : ℕ). ltb k own) at r recs i;
  below = many_insert (on (side_of own) below) at r recs i;
}

pub runs_insert : (owns : List ℕ) (at : ℕ) (r : List ℕ) (recs : List (List ℕ))
    → runs_of owns (key_of r ∷ map key_of recs) ≡ runs_of owns (map key_of (insert_at at r recs))
runs_insert owns at r recs = λ i. record {
  count = length owns;
  a = run_insert (get_or owns 0 (get_or owns 0 0)) at r recs i;
  b = run_insert (get_or owns 1 (get_or owns 0 0)) at r recs i;
  c = run_insert (get_or owns 2 (get_or owns 0 0)) at r recs i;
  d = run_insert (get_or owns 3 (get_or owns 0 0)) at r recs i;
}

pub runs_fit : (owns keys : List ℕ) → Fits (length keys) (runs_of owns keys)
runs_fit owns keys =
    (one (get_or owns 0 (get_or owns 0 0)), one (get_or owns 1 (get_or owns 0 0)), one (get_or owns 2 (get_or owns 0 0)), one (get_or owns 3 (get_or owns 0 0)))
  where
    one : (own : ℕ) → (count_under own keys ≤ length keys) × (count_below own keys ≤ length keys)
    one own = (under_le own keys, count-le own keys)

-- ---- our own keys

get_d_here : (l : List ℕ) (i d : ℕ) → i < length l → get_or l i d ≡ get_or l i 0
get_d_here [] i d h = absurd (omega arith)
get_d_here (x ∷ l) zero d h = refl
get_d_here (x ∷ l) (suc i) d h = get_d_here l i d (omega arith)

get_d_past : (l : List ℕ) (i d : ℕ) → length l ≤ i → get_or l i d ≡ d
get_d_past [] i d h = refl
get_d_past (x ∷ l) zero d h = absurd (omega arith)
get_d_past (x ∷ l) (suc i) d h = get_d_past l i d (omega arith)

module _ (own : List ℕ) (i : ℕ) where
  -- the key of the record of place i
  pub own_key : i < length own / 100 → key_of (take ((100 * i + 100) - 100 * i) (drop (100 * i) own)) ≡ get_or (own_keys own) i (get_or (own_keys own) 0 0)
  own_key h =
      let w : (100 * i + 100) - 100 * i ≡ 100 = omega arith in
      ap (λ (n : ℕ). key_of (take n (drop (100 * i) own))) w ∙ key_of-row (100 * i) own
      ∙ sym (get_d_here (own_keys own) i (get_or (own_keys own) 0 0) (omega (arith, keys_many (length own / 100) own))
      ∙ key-among (length own / 100) own i h)

  pub no_key : length own / 100 ≤ i → get_or (own_keys own) 0 (get_or (own_keys own) 0 0) ≡ get_or (own_keys own) i (get_or (own_keys own) 0 0)
  no_key h = go (own_keys own) ∙ sym (get_d_past (own_keys own) i (get_or (own_keys own) 0 0) (omega (arith, keys_many (length own / 100) own)))
    where
      go : (l : List ℕ) → get_or l 0 (get_or l 0 0) ≡ get_or l 0 0
      go [] = refl
      go (x ∷ l) = refl

  pub own_in : i < length own / 100 → get_or (own_keys own) i (get_or (own_keys own) 0 0) ∈ own_keys own
  own_in h =
      let n = keys_many (length own / 100) own in
      rw (get_d_here (own_keys own) i (get_or (own_keys own) 0 0) (omega arith)) (in_get_d (own_keys own) i (omega arith))

pub first_is : (own : List ℕ) → 0 < length own / 100 → get_or (own_keys own) 0 (get_or (own_keys own) 0 0) ≡ key_of own
first_is own h =
    get_d_here (own_keys own) 0 (get_or (own_keys own) 0 0) (omega (arith, keys_many (length own / 100) own)) ∙ key-among (length own / 100) own 0 h

-- who is none of ours is not this one
pub others_one : (own : ℕ) (owns keys : List ℕ) → own ∈ owns → Every (λ (k : ℕ). ¬ (k ∈ owns)) keys → Every (λ (k : ℕ). ¬ (k ≡ own)) keys
others_one own owns keys m a = every_of _ keys (λ k n e. every_at (λ (k : ℕ). ¬ (k ∈ owns)) k keys a n (rw e m))

-- ---- the test that code makes

module _ (n x : ℕ) (r : Runs) where
  pub in-a : in_one n x r.a ≡ true → true ≡ in_runs n x r
  unfolding in_runs
  in-a e = sym (rw e refl)

  module _ (ea : in_one n x r.a ≡ false) where
    pub none-b : r.count < 2 → false ≡ in_runs n x r
    unfolding in_runs
    none-b h = sym (rw (ea, le-ltb 1 r.count (omega arith)) refl)

    pub in_b : 2 ≤ r.count → in_one n x r.b ≡ true → true ≡ in_runs n x r
    unfolding in_runs
    in_b h e = sym (rw (ea, lt-ltb 1 r.count (omega arith), e) refl)

    module _ (eb : in_one n x r.b ≡ false) where
      pub none-c : 2 ≤ r.count → r.count < 3 → false ≡ in_runs n x r
      unfolding in_runs
      none-c g h = sym (rw (ea, lt-ltb 1 r.count (omega arith), eb, le-ltb 2 r.count (omega arith)) refl)

      pub in_c : 3 ≤ r.count → in_one n x r.c ≡ true → true ≡ in_runs n x r
      unfolding in_runs
      in_c h e = sym (rw (ea, lt-ltb 1 r.count (omega arith), eb, lt-ltb 2 r.count (omega arith), e) refl)

      module _ (ec : in_one n x r.c ≡ false) where
        pub none-d : 3 ≤ r.count → r.count < 4 → false ≡ in_runs n x r
        unfolding in_runs
        none-d g h =
            sym (rw (ea, lt-ltb 1 r.count (omega arith), eb, lt-ltb 2 r.count (omega arith), ec, le-ltb 3 r.count (omega arith)) refl)

        pub in-d : 4 ≤ r.count → in_one n x r.d ≡ in_runs n x r
        unfolding in_runs
        in-d h =
            sym (rw (ea, lt-ltb 1 r.count (omega arith), eb, lt-ltb 2 r.count (omega arith), ec, lt-ltb 3 r.count (omega arith)) refl)

-- ---- the runs tell which keys are listed

or_none : (b : Bool) → b ≡ (b || false)
or_none true = refl
or_none false = refl

module _ (owns keys : List ℕ) (rises : Rising plain 0 keys) (small : Every (λ (k : ℕ). k < ring) keys)
    (others : Every (λ (k : ℕ). ¬ (k ∈ owns)) keys)
    (keyed : Every (λ (k : ℕ). k < ring) owns) (x : ℕ) (h : x < length keys) where
  one : (own : ℕ) → own ∈ owns → in_one (length keys) x (run_of own keys) ≡ has (get_or keys x 0) (neighbour_list own keys)
  one own m = sym (in-run own (every_at _ own owns keyed m) keys rises small (others_one own owns keys m others) x h)

pub listed_runs : (owns keys : List ℕ) → Rising plain 0 keys → Every (λ (k : ℕ). k < ring) keys → Every (λ (k : ℕ). ¬ (k ∈ owns)) keys
    → Every (λ (k : ℕ). k < ring) owns → (x : ℕ) → x < length keys → 0 < length owns → length owns ≤ 4
    → in_runs (length keys) x (runs_of owns keys) ≡ is_listed owns keys (get_or keys x 0)
unfolding in_runs is_listed
listed_runs [] keys r s o k x h some few = absurd (omega arith)
listed_runs (a ∷ []) keys r s o k x h some few =
    ap (λ (p : Bool). p || false) (one (a ∷ []) keys r s o k x h a (inl refl))
listed_runs (a ∷ b ∷ []) keys r s o k x h some few =
    let w = one (a ∷ b ∷ []) keys r s o k x h in
    ap₂ (λ (p q : Bool). p || (q || false)) (w a (inl refl)) (w b (inr (inl refl)))
listed_runs (a ∷ b ∷ c ∷ []) keys r s o k x h some few =
    let w = one (a ∷ b ∷ c ∷ []) keys r s o k x h in
    ap₂ (λ (p q : Bool). p || q) (w a (inl refl)) (ap₂ (λ (p q : Bool). p || (q || false)) (w b (inr (inl refl))) (w c (inr (inr (inl refl)))))
listed_runs (a ∷ b ∷ c ∷ d ∷ []) keys r s o k x h some few =
    let w = one (a ∷ b ∷ c ∷ d ∷ []) keys r s o k x h in
    ap₂ (λ (p q : Bool). p || q) (w a (inl refl))
    (ap₂ (λ (p q : Bool). p || q) (w b (inr (inl refl)))
    (ap₂ (λ (p q : Bool). p || q) (w c (inr (inr (inl refl)))) (w d (inr (inr (inr (inl refl)))) ∙ or_none _)))
listed_runs (a ∷ b ∷ c ∷ d ∷ e ∷ owns) keys r s o k x h some few = absurd (omega arith)
