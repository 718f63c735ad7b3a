-- Which place goes. In this order: the keys with the newcomer's, by place; the farther of two places; the walk from the point opposite; where it
-- ends; what is asked of the keys with the newcomer's. Assumes nothing.
use mathlib.Core.Path.{◌≡◌, refl, sym, ap, ◌∙◌, subst}
use mathlib.Core.Logic.{inl, inr}
use mathlib.Core.Bool.{Bool, true, false, cond}
use mathlib.Core.List.{List, [], ◌∷◌, map}
use Prim.Native.Nat.{ℕ, zero, suc, ◌+◌, ◌-◌, ◌*◌, ◌≤◌, ◌<◌, min}
use native.Mathlib.Omega.{arith}
use native.Mathlib.Decide.{dec_lt}
use lib.Dec.{ltb}
use lib.ListN.{length, take, drop, get_or, length-append, length-take, length-drop}
use borrow.Author.Tests.{ltb-true, ltb-false}
use Rattle.key.specs.Number.{key_at}
use Rattle.key.specs.Around.{ring, up, apart}
use Rattle.record.specs.Record.{key_of}
use Rattle.table.specs.Rows.{rows, insert_at}
use Rattle.table.proofs.RowLaws.{rows-length}
use Rattle.kept.specs.Keys.{◌∈◌, Every, Rising, plain}
use Rattle.kept.specs.Plain.{count_below}
use Rattle.kept.specs.Turned.{count_under, wrapped}
use Rattle.kept.specs.Ponds.{is_listed}
use Rattle.kept.proofs.ListLaws.{every_at}
use Rattle.kept.proofs.TurnLaws.{under_le, count-le}
use Rattle.kept.proofs.PlaceLaws.{turned_at, wrapped-lt}
use Rattle.kept.proofs.PondPlaceLaws.{key_up, Before, Passed, rising_less, far-above, far-below, below-goes, above-goes, not-all}
use Rattle.round.proofs.OverLaws.{over-le, over-before, over-at}
use Rattle.search.proofs.SeekLaws.{key-among}
use Rattle.listed.specs.declared.Runs.{Runs}
use Rattle.listed.specs.Runs.{runs_of, in_runs}
use Rattle.listed.proofs.ListedLaws.{listed_runs, others_one}
use Rattle.going.specs.Going.{listed_from, listed_before, farther_of, Goes}

-- ---- the keys with the newcomer's

pub insert_length : (i : ℕ) (r : List ℕ) (recs : List (List ℕ)) → length (insert_at i r recs) ≡ suc (length recs)
insert_length i r recs =
    length-append (take i recs) (r ∷ drop i recs) ∙ simp (length-take, length-drop) (omega arith)

-- the key at a place before it, at its own, after it
key-before : (i j : ℕ) (r : List ℕ) (recs : List (List ℕ)) → j < i → i ≤ length recs
    → get_or (map key_of (insert_at i r recs)) j 0 ≡ get_or (map key_of recs) j 0
key-before zero j r recs h l = absurd (omega arith)
key-before (suc i) j r [] h l = absurd (omega arith)
key-before (suc i) zero r (x ∷ xs) h l = refl
key-before (suc i) (suc j) r (x ∷ xs) h l = key-before i j r xs (omega arith) (omega arith)

key_there : (i : ℕ) (r : List ℕ) (recs : List (List ℕ)) → i ≤ length recs → get_or (map key_of (insert_at i r recs)) i 0 ≡ key_of r
key_there zero r recs l = refl
key_there (suc i) r [] l = absurd (omega arith)
key_there (suc i) r (x ∷ xs) l = key_there i r xs (omega arith)

key-after : (i j : ℕ) (r : List ℕ) (recs : List (List ℕ)) → i < j → j ≤ length recs
    → get_or (map key_of (insert_at i r recs)) j 0 ≡ get_or (map key_of recs) (j - 1) 0
key-after i zero r recs h l = absurd (omega arith)
key-after i (suc j) r [] h l = absurd (omega arith)
key-after zero (suc j) r (x ∷ xs) h l = let e : j ≡ suc j - 1 = omega arith in ap (λ (n : ℕ). get_or (map key_of (x ∷ xs)) n 0) e
key-after (suc i) (suc zero) r (x ∷ xs) h l = absurd (omega arith)
key-after (suc i) (suc (suc j)) r (x ∷ xs) h l =
    let e : suc (suc j - 1) ≡ suc (suc j) - 1 = omega arith in
    key-after i (suc j) r xs (omega arith) (omega arith) ∙ ap (λ (n : ℕ). get_or (map key_of (x ∷ xs)) n 0) e

module _ (used at : ℕ) (s r : List ℕ) (l : at ≤ used) where
  pub there-before : (x : ℕ) → x < at → key_at (100 * x) s ≡ get_or (map key_of (insert_at at r (rows 100 used s))) x 0
  there-before x h =
      sym (key-before at x r (rows 100 used s) h (omega (arith, rows-length 100 used s)) ∙ key-among used s x (omega arith))

  pub there-after : (x : ℕ) → at < x → x ≤ used → key_at (100 * (x - 1)) s ≡ get_or (map key_of (insert_at at r (rows 100 used s))) x 0
  there-after x h g =
      sym (key-after at x r (rows 100 used s) h (omega (arith, rows-length 100 used s)) ∙ key-among used s (x - 1) (omega arith))

  pub there-at : (x : ℕ) → x ≡ at → key_of r ≡ get_or (map key_of (insert_at at r (rows 100 used s))) x 0
  there-at x e = sym (ap (λ (n : ℕ). get_or (map key_of (insert_at at r (rows 100 used s))) n 0) e
      ∙ key_there at r (rows 100 used s) (omega (arith, rows-length 100 used s)))

-- ---- the farther of two places

module _ (own : ℕ) (keys : List ℕ) (x y : ℕ) {u d : ℕ} (eu : u ≡ up own (get_or keys x 0)) (ed : d ≡ up (get_or keys y 0) own) where
  pub under-farther : ltb u d ≡ true → y ≡ farther_of own keys x y
  unfolding farther_of
  under-farther e = sym (rw (sym eu, sym ed, e) refl)

  pub over-farther : ltb u d ≡ false → ltb d u ≡ true → x ≡ farther_of own keys x y
  unfolding farther_of
  over-farther e f = sym (rw (sym eu, sym ed, e, f) refl)

  pub lower-over : ltb u d ≡ false → ltb d u ≡ false → x < y → x ≡ farther_of own keys x y
  unfolding farther_of
  lower-over e f h = sym (rw (sym eu, sym ed, e, f) (omega arith))

  pub lower-under : ltb u d ≡ false → ltb d u ≡ false → y ≤ x → y ≡ farther_of own keys x y
  unfolding farther_of
  lower-under e f h = sym (rw (sym eu, sym ed, e, f) (omega arith))

-- ---- the walk

-- of n places: where those below the first own key begin, how many are passed over from there on and back from before it, and the places where it ends
abbrev pub end_of : ℕ → Runs → ℕ
end_of n r = r.a.first + (n - r.a.below)

abbrev pub up_of : ℕ → Runs → ℕ
up_of n r = listed_from n (end_of n r) r.a.below r

abbrev pub down_of : ℕ → Runs → ℕ
down_of n r = listed_before n (end_of n r) (n - r.a.below) r

abbrev pub under_of : ℕ → Runs → ℕ
under_of n r = wrapped n (end_of n r + up_of n r)

abbrev pub over_of : ℕ → Runs → ℕ
over_of n r = wrapped n (end_of n r - (down_of n r + 1))

-- the first of our keys
abbrev pub first_of : List ℕ → ℕ
first_of owns = get_or owns 0 (get_or owns 0 0)

-- all that is asked of our keys and those held
pub record Known (owns keys : List ℕ) : Type 0 where
  pub some : 0 < length owns
  pub few : length owns ≤ 4
  pub ours : first_of owns ∈ owns
  pub keyed : Every (λ (k : ℕ). k < ring) owns
  pub rises : Rising plain 0 keys
  pub small : Every (λ (k : ℕ). k < ring) keys
  pub others : Every (λ (k : ℕ). ¬ (k ∈ owns)) keys
  pub enough : 10 * length owns < length keys

module _ (owns keys : List ℕ) (know : Known owns keys) where
  -- how many keys there are, their runs, and the first of ours
  abbrev pub size : ℕ
  size = length keys

  abbrev pub rs : Runs
  rs = runs_of owns keys

  abbrev pub fst : ℕ
  fst = first_of owns

  o : fst < ring
  o = every_at _ fst owns know.keyed know.ours

  place_is : (i j : ℕ) → i < size → j ≡ count_under fst keys + i → get_or keys (wrapped size j) 0 ≡ key_up fst keys i
  place_is i j h e =
      ap (λ (n : ℕ). get_or keys (wrapped size n) 0) e ∙ sym (turned_at (count_under fst keys) keys i (under_le fst keys) h)

  inside : (i j : ℕ) → i < size → j ≡ count_under fst keys + i → wrapped size j < size
  inside i j h e = wrapped-lt size j (omega (arith, under_le fst keys)) (omega arith)

  listed-is : (i j : ℕ) → i < size → j ≡ count_under fst keys + i
      → in_runs size (wrapped size j) rs ≡ is_listed owns keys (key_up fst keys i)
  listed-is i j h e =
      listed_runs owns keys know.rises know.small know.others know.keyed (wrapped size j) (inside i j h e) know.some know.few
      ∙ ap (is_listed owns keys) (place_is i j h e)

  -- the places where the walk ends on its two ways, read up from the first of our keys
  abbrev under : ℕ
  under = (size - count_below fst keys) + up_of size rs

  abbrev over : ℕ
  over = (size - count_below fst keys) - down_of size rs

  -- is the place so many steps on in a list, or so many back?
  abbrev on : ℕ → Bool
  on i = in_runs size (wrapped size (end_of size rs + i)) rs

  abbrev off : ℕ → Bool
  off i = in_runs size (wrapped size (end_of size rs - (i + 1))) rs

  pub up-most : up_of size rs ≤ count_below fst keys
  up-most = omega (arith, over-le on 0 (count_below fst keys))

  passed : Passed fst owns keys know.ours know.rises know.others know.enough o know.small over under
  passed =
      record {
        up_to = omega arith;
        from = omega arith;
        end = omega (arith, up-most, count-le fst keys);
        listed = λ i h l. go i h l (dec_lt i (size - count_below fst keys));
      }
    where
      go : (i : ℕ) → over ≤ i → i < under → Dec (i < size - count_below fst keys)
          → is_listed owns keys (key_up fst keys i) ≡ true
      go i h l (yes k) =
          let j : ℕ = (size - count_below fst keys) - (i + 1) in
          sym (listed-is i (end_of size rs - (j + 1)) (omega arith) (omega arith))
          ∙ over-before off 0 (size - count_below fst keys) j (omega arith) (omega arith)
      go i h l (no k) =
          let j : ℕ = i - (size - count_below fst keys) in
          sym (listed-is i (end_of size rs + j) (omega (arith, up-most, count-le fst keys)) (omega arith))
          ∙ over-before on 0 (count_below fst keys) j (omega arith) (omega arith)

  -- ---- where it ends

  goes-under : up_of size rs < count_below fst keys
      → (0 < over → Before fst (key_up fst keys under) (key_up fst keys (over - 1)))
      → Goes fst owns keys (under_of size rs)
  goes-under h b =
      let n : under < size = omega (arith, count-le fst keys) in
      let j : ℕ = end_of size rs + up_of size rs in
      let e : j ≡ count_under fst keys + under = omega arith in
      let out : is_listed owns keys (key_up fst keys under) ≡ false =
      sym (listed-is under j n e) ∙ over-at on 0 (count_below fst keys) (omega arith) in
      record {
        inside = inside under j n e;
        named = below-goes fst owns keys know.ours know.rises know.others know.enough o know.small over under passed n out b
            ∙ sym (place_is under j n e);
      }

  goes_over : down_of size rs < size - count_below fst keys
      → (under < size → Before fst (key_up fst keys (over - 1)) (key_up fst keys under))
      → Goes fst owns keys (over_of size rs)
  goes_over h b =
      let n : over - 1 < size = omega arith in
      let j : ℕ = end_of size rs - (down_of size rs + 1) in
      let e : j ≡ count_under fst keys + (over - 1) = omega arith in
      let out : is_listed owns keys (key_up fst keys (over - 1)) ≡ false =
      sym (listed-is (over - 1) j n e) ∙ over-at off 0 (size - count_below fst keys) (omega arith) in
      record {
        inside = inside (over - 1) j n e;
        named = above-goes fst owns keys know.ours know.rises know.others know.enough o know.small over under passed
            (omega arith) out b ∙ sym (place_is (over - 1) j n e);
      }

  -- none is left above
  pub up-less : size - count_below fst keys ≤ down_of size rs
      → up_of size rs < count_below fst keys
  up-less h =
      omega (
        arith,
        count-le fst keys,
        not-all fst owns keys know.ours know.rises know.others know.enough o know.small over under passed (omega arith),
      )

  pub none_over : size - count_below fst keys ≤ down_of size rs
      → Goes fst owns keys (under_of size rs)
  none_over h = goes-under (up-less h) (λ p. absurd (omega arith))

  module _ (h : down_of size rs < size - count_below fst keys) where
    -- none is left below
    pub none_under : count_below fst keys ≤ up_of size rs
        → Goes fst owns keys (over_of size rs)
    none_under g = goes_over h (λ p. absurd (omega (arith, count-le fst keys)))

    -- one is left on either way: the steps up to the one, and down to the other
    abbrev ups : ℕ
    ups = up fst (get_or keys (over_of size rs) 0)

    abbrev downs : ℕ
    downs = up (get_or keys (under_of size rs) 0) fst

    -- the farther of them goes
    pub farther-goes : up_of size rs < count_below fst keys
        → Goes fst owns keys
        (farther_of fst keys (over_of size rs) (under_of size rs))
    unfolding farther_of
    farther-goes g = go (ltb ups downs) refl (ltb downs ups) refl
      where
        apart_from : Every (λ (k : ℕ). ¬ (k ≡ fst)) keys
        apart_from = others_one fst owns keys know.ours know.others

        key-over : get_or keys (over_of size rs) 0 ≡ key_up fst keys (over - 1)
        key-over = place_is (over - 1) (end_of size rs - (down_of size rs + 1)) (omega arith) (omega arith)

        key-under : get_or keys (under_of size rs) 0 ≡ key_up fst keys under
        key-under =
            place_is under (end_of size rs + up_of size rs) (omega (arith, count-le fst keys)) (omega arith)

        far-over : apart fst (key_up fst keys (over - 1)) ≡ up fst (get_or keys (over_of size rs) 0)
        far-over =
            far-above fst o keys know.rises know.small apart_from (over - 1) (omega arith) ∙ ap (up fst) (sym key-over)

        far-under : apart fst (key_up fst keys under) ≡ up (get_or keys (under_of size rs) 0) fst
        far-under =
            far-below fst o keys know.rises know.small apart_from under (omega arith) (omega (arith, count-le fst keys))
            ∙ ap (λ (k : ℕ). up k fst) (sym key-under)

        in-over : over_of size rs < size
        in-over = inside (over - 1) (end_of size rs - (down_of size rs + 1)) (omega arith) (omega arith)

        in-under : under_of size rs < size
        in-under =
            inside under (end_of size rs + up_of size rs) (omega (arith, count-le fst keys)) (omega arith)

        rising : (i j : ℕ) → i ≤ j → j < size → get_or keys i 0 ≤ get_or keys j 0
        rising i j l n = by (dec_lt i j)
          where
            by : Dec (i < j) → get_or keys i 0 ≤ get_or keys j 0
            by (yes k) = omega (arith, rising_less plain 0 keys i j know.rises k n)
            by (no k) = let e : i ≡ j = omega arith in omega (arith, ap (λ (m : ℕ). get_or keys m 0) e)

        lower : ups ≡ downs → Dec (over_of size rs < under_of size rs)
            → Goes fst owns keys (min (over_of size rs) (under_of size rs))
        lower e (yes l) =
            let m : over_of size rs ≡ min (over_of size rs) (under_of size rs) = omega arith in
            let r = rising (over_of size rs) (under_of size rs) (omega arith) in-under in
            subst (Goes fst owns keys) m (goes_over h (λ p. inr (omega (arith, far-over, far-under), omega (arith, key-over, key-under, r))))
        lower e (no l) =
            let m : under_of size rs ≡ min (over_of size rs) (under_of size rs) = omega arith in
            let r = rising (under_of size rs) (over_of size rs) (omega arith) in-over in
            subst (Goes fst owns keys) m (goes-under g (λ p. inr (omega (arith, far-over, far-under), omega (arith, key-over, key-under, r))))

        go : (a : Bool) → ltb ups downs ≡ a → (b : Bool) → ltb downs ups ≡ b
            → Goes fst owns keys (cond a (under_of size rs)
            (cond b (over_of size rs) (min (over_of size rs) (under_of size rs))))
        go true e b f = goes-under g (λ p. inl (omega (arith, far-over, far-under, ltb-true ups downs e)))
        go false e true f = goes_over h (λ p. inl (omega (arith, far-over, far-under, ltb-true downs ups f)))
        go false e false f =
            lower (omega (arith, ltb-false ups downs e, ltb-false downs ups f))
            (dec_lt (over_of size rs) (under_of size rs))

-- ---- what is asked of the keys with the newcomer's

pub every_insert : (P : ℕ → Type 0) (i : ℕ) (r : List ℕ) (recs : List (List ℕ)) → P (key_of r) → Every P (map key_of recs)
    → Every P (map key_of (insert_at i r recs))
every_insert P zero r recs p a = (p, a)
every_insert P (suc i) r [] p a = (p, a)
every_insert P (suc i) r (x ∷ xs) p a = (a.0, every_insert P i r xs p a.1)

pub insert_every : (P : ℕ → Type 0) (i : ℕ) (r : List ℕ) (recs : List (List ℕ)) → Every P (map key_of (insert_at i r recs)) → Every P (map key_of recs)
insert_every P zero r recs a = a.1
insert_every P (suc i) r [] a = a.1
insert_every P (suc i) r (x ∷ xs) a = (a.0, insert_every P i r xs a.1)

-- ---- any two places that the contract of `who_goes` allows are one, as no two of the keys are equal

not-before : (first : ℕ) (owns keys : List ℕ) (i j : ℕ) → Rising plain 0 keys → Goes first owns keys i → Goes first owns keys j → ¬ (i < j)
not-before first owns keys i j r g h l =
    let less : get_or keys i 0 < get_or keys j 0 = rising_less plain 0 keys i j r l h.inside in omega (arith, less, g.named, h.named)

pub goes_one : (first : ℕ) (owns keys : List ℕ) (i j : ℕ) → Rising plain 0 keys → Goes first owns keys i → Goes first owns keys j → i ≡ j
goes_one first owns keys i j r g h = omega (arith, not-before first owns keys i j r g h, not-before first owns keys j i r h g)
