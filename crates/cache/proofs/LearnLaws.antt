-- Learning and removing on the list of records, as code meets them: a row inserted, and one taken out.
-- In this order: a place taken out; inserting and taking out, in either order; a key not held is learned.
-- Elsewhere: which place goes, in crate going; a row exchanged on the bytes, in crate table. Assumes nothing.
use mathlib.Core.Path.{◌≡◌, refl, sym, ap, ◌∙◌}
use mathlib.Core.Bool.{true, false, cond}
use mathlib.Core.List.{List, [], ◌∷◌}
use Prim.Native.Nat.{ℕ, zero, suc, ◌+◌, ◌-◌, ◌*◌, ◌≤◌, ◌<◌, zero-le}
use native.Mathlib.Omega.{arith}
use lib.ListN.{length, take, drop, get_or, length-append, length-take, length-drop, length-map}
use lib.Dec.{eqb}
use borrow.Author.Tests.{lt-ltb, le-ltb, eq-eqb, ne_eqb}
use Rattle.key.specs.Number.{key_at}
use Rattle.record.specs.Record.{key_of}
use Rattle.table.specs.Rows.{rows, insert_at, remove_at}
use Rattle.table.proofs.RowLaws.{rows-length, row_at}
use Rattle.kept.specs.Keys.{Every, has, Rising, plain, put}
use Rattle.kept.specs.Plain.{NotOwn, first_of, drops}
use Rattle.own.specs.Own.{Own}
use Rattle.kept.specs.Records.{put_by, without_by, learn_by}
use Rattle.kept.proofs.ListLaws.{rising-put, every-put}
use Rattle.kept.proofs.RecordLaws.{keys-put}
use Rattle.going.specs.Going.{Goes}
use Rattle.std.specs.Prelude.{Err}
use Rattle.cache.specs.Form.{keys_of, places_in, Form}
use Rattle.cache.specs.Place.{find_key}
use Rattle.cache.specs.Bytes.{after_learn}
use Rattle.cache.specs.Change.{changes, learned, removed}
use Rattle.cache.proofs.FormLaws.{form_laid, key_of-row}
use Rattle.cache.proofs.FindLaws.{found_puts, found-place, found-held, without_low, without_this, without_skip}

-- ---- a place taken out by its key

rising_get_d : (low : ℕ) (recs : List (List ℕ)) (j : ℕ) → Rising plain low (keys_of recs) → j < length recs → low ≤ get_or (keys_of recs) j 0
rising_get_d low [] j r h = absurd (omega arith)
rising_get_d low (x ∷ xs) zero r h = r.0
rising_get_d low (x ∷ xs) (suc j) r h = omega (arith, r.0, rising_get_d (suc (key_of x)) xs j r.1 (omega arith))

rising_less : (low : ℕ) (recs : List (List ℕ)) (i j : ℕ) → Rising plain low (keys_of recs) → i < j → j < length recs
    → get_or (keys_of recs) i 0 < get_or (keys_of recs) j 0
rising_less low [] i j r h l = absurd (omega arith)
rising_less low (x ∷ xs) i zero r h l = absurd (omega arith)
rising_less low (x ∷ xs) zero (suc j) r h l = rising_get_d (suc (key_of x)) xs j r.1 (omega arith)
rising_less low (x ∷ xs) (suc i) (suc j) r h l = rising_less (suc (key_of x)) xs i j r.1 (omega arith) (omega arith)

pub remove_place : (low : ℕ) (recs : List (List ℕ)) (j : ℕ) → Rising plain low (keys_of recs) → j < length recs
    → without_by key_of (get_or (keys_of recs) j 0) recs ≡ remove_at j recs
remove_place low [] j r h = absurd (omega arith)
remove_place low (x ∷ xs) zero r h = without_this (key_of x) x xs refl ∙ without_low (key_of x) (suc (key_of x)) xs (omega arith) r.1
remove_place low (x ∷ xs) (suc j) r h =
    let least : suc (key_of x) ≤ get_or (keys_of xs) j 0 = rising_get_d (suc (key_of x)) xs j r.1 (omega arith) in
    without_skip (get_or (keys_of xs) j 0) x xs (omega arith)
    ∙ ap (λ (l : List (List ℕ)). x ∷ l) (remove_place (suc (key_of x)) xs j r.1 (omega arith))

-- ---- a row inserted, then the first or the last taken out

pub insert_length : (i : ℕ) (r : List ℕ) (recs : List (List ℕ)) → length (insert_at i r recs) ≡ suc (length recs)
insert_length i r recs =
    length-append (take i recs) (r ∷ drop i recs) ∙ simp (length-take, length-drop) (omega arith)

-- the key at a place before it, at its own, after it
key-before : (i j : ℕ) (r : List ℕ) (recs : List (List ℕ)) → j < i → i ≤ length recs → get_or (keys_of (insert_at i r recs)) j 0 ≡ get_or (keys_of recs) j 0
key-before zero j r recs h l = absurd (omega arith)
key-before (suc i) j r [] h l = absurd (omega arith)
key-before (suc i) zero r (x ∷ xs) h l = refl
key-before (suc i) (suc j) r (x ∷ xs) h l = key-before i j r xs (omega arith) (omega arith)

key_there : (i : ℕ) (r : List ℕ) (recs : List (List ℕ)) → i ≤ length recs → get_or (keys_of (insert_at i r recs)) i 0 ≡ key_of r
key_there zero r recs l = refl
key_there (suc i) r [] l = absurd (omega arith)
key_there (suc i) r (x ∷ xs) l = key_there i r xs (omega arith)

key-after : (i j : ℕ) (r : List ℕ) (recs : List (List ℕ)) → i < j → j ≤ length recs
    → get_or (keys_of (insert_at i r recs)) j 0 ≡ get_or (keys_of recs) (j - 1) 0
key-after i zero r recs h l = absurd (omega arith)
key-after i (suc j) r [] h l = absurd (omega arith)
key-after zero (suc j) r (x ∷ xs) h l = let e : j ≡ suc j - 1 = omega arith in ap (λ (n : ℕ). get_or (keys_of (x ∷ xs)) n 0) e
key-after (suc i) (suc zero) r (x ∷ xs) h l = absurd (omega arith)
key-after (suc i) (suc (suc j)) r (x ∷ xs) h l =
    let e : suc (suc j - 1) ≡ suc (suc j) - 1 = omega arith in
    key-after i (suc j) r xs (omega arith) (omega arith) ∙ ap (λ (n : ℕ). get_or (keys_of (x ∷ xs)) n 0) e

-- the key of the row at a place
row-key : (recs : List (List ℕ)) (j : ℕ) → j < length recs → get_or (keys_of recs) j 0 ≡ key_of (get_or recs j [])
row-key [] j h = absurd (omega arith)
row-key (x ∷ xs) zero h = refl
row-key (x ∷ xs) (suc j) h = row-key xs j (omega arith)

place_key_lem : (used j : ℕ) (s : List ℕ) → j < used → get_or (keys_of (rows 100 used s)) j 0 ≡ key_at (100 * j) s
place_key_lem used j s h =
    row-key (rows 100 used s) j (omega (arith, rows-length 100 used s)) ∙ ap key_of (row_at 100 used s j h) ∙ key_of-row (100 * j) s

-- before it, itself, after it
pub out_before : (i g : ℕ) (r : List ℕ) (recs : List (List ℕ)) → g < i → i ≤ length recs
    → remove_at g (insert_at i r recs) ≡ insert_at (i - 1) r (remove_at g recs)
out_before zero g r recs h l = absurd (omega arith)
out_before (suc i) g r [] h l = absurd (omega arith)
out_before (suc i) zero r (x ∷ xs) h l = let e : i ≡ suc i - 1 = omega arith in ap (λ (j : ℕ). insert_at j r xs) e
out_before (suc zero) (suc g) r (x ∷ xs) h l = absurd (omega arith)
out_before (suc (suc i)) (suc g) r (x ∷ xs) h l =
    let e : suc (suc i - 1) ≡ suc (suc i) - 1 = omega arith in
    ap (λ (t : List (List ℕ)). x ∷ t) (out_before (suc i) g r xs (omega arith) (omega arith))
    ∙ ap (λ (j : ℕ). insert_at j r (x ∷ remove_at g xs)) e

pub out_again : (i : ℕ) (r : List ℕ) (recs : List (List ℕ)) → i ≤ length recs → remove_at i (insert_at i r recs) ≡ recs
out_again zero r recs h = refl
out_again (suc i) r [] h = absurd (omega arith)
out_again (suc i) r (x ∷ xs) h = ap (λ (t : List (List ℕ)). x ∷ t) (out_again i r xs (omega arith))

pub out_after : (i g : ℕ) (r : List ℕ) (recs : List (List ℕ)) → i < g → g ≤ length recs
    → remove_at g (insert_at i r recs) ≡ insert_at i r (remove_at (g - 1) recs)
out_after i zero r recs h l = absurd (omega arith)
out_after i (suc g) r [] h l = absurd (omega arith)
out_after zero (suc g) r (x ∷ xs) h l = let e : g ≡ suc g - 1 = omega arith in ap (λ (j : ℕ). r ∷ remove_at j (x ∷ xs)) e
out_after (suc i) (suc zero) r (x ∷ xs) h l = absurd (omega arith)
out_after (suc i) (suc (suc g)) r (x ∷ xs) h l =
    let e : suc (suc g - 1) ≡ suc (suc g) - 1 = omega arith in
    ap (λ (t : List (List ℕ)). x ∷ t) (out_after i (suc g) r xs (omega arith) (omega arith))
    ∙ ap (λ (j : ℕ). insert_at (suc i) r (remove_at j (x ∷ xs))) e

-- ---- a record whose key is not held is learned

module _ (own : Own) (used at : ℕ) (s r : List ℕ) (f : Form own s (rows 100 used s)) (found : find_key (key_of r) (keys_of (rows 100 used s)) ≡ Err at) where
  recs : List (List ℕ)
  recs = rows 100 used s

  more : List (List ℕ)
  more = insert_at at r recs

  put_is : put_by key_of r recs ≡ more
  unfolding recs more
  put_is = sym (found_puts r used s {f = find_key (key_of r) (keys_of (rows 100 used s))} refl found)

  keys_are : keys_of more ≡ put plain (key_of r) (keys_of recs)
  keys_are = ap keys_of (sym put_is) ∙ keys-put key_of r recs

  pub more-keys : keys_of (insert_at at r (rows 100 used s)) ≡ put plain (key_of r) (keys_of (rows 100 used s))
  unfolding recs more
  more-keys = keys_are

  pub place-most : at ≤ used
  place-most = found-place (key_of r) used s {f = find_key (key_of r) (keys_of (rows 100 used s))} refl found

  pub more-length : length (insert_at at r (rows 100 used s)) ≡ used + 1
  more-length = omega (arith, insert_length at r (rows 100 used s), rows-length 100 used s)

  -- with room for one more it joins
  pub new-room : 100 * used < length s → insert_at at r (rows 100 used s) ≡ after_learn own (length s) (rows 100 used s) r
  unfolding learn_by recs more
  new-room h = sym (rw (put_is, le-ltb (places_in (length s)) (length more) (omega (arith, more-length, f.places.whole))) refl)

  not-held : has (key_of r) (keys_of recs) ≡ false
  unfolding recs
  not-held = found-held (key_of r) used s {f = find_key (key_of r) (keys_of (rows 100 used s))} refl found f.held.rising

  pub told-room : 100 * used < length s → changes true false 0 ≡ learned own (length s) (rows 100 used s) r
  unfolding learned recs more
  told-room h =
      sym (rw (not-held, put_is, le-ltb (places_in (length s)) (length more) (omega (arith, more-length, f.places.whole))) refl)

  module _ (other : NotOwn own (key_of r)) where
    rises : Rising plain 0 (keys_of more)
    unfolding recs
    rises = rw keys_are (rising-put plain 0 (key_of r) (keys_of recs) zero-le f.held.rising)

    others : Every (NotOwn own) (keys_of more)
    unfolding recs
    others = rw keys_are (every-put plain (NotOwn own) (key_of r) (keys_of recs) other f.held.others)

    size : length (keys_of more) ≡ used + 1
    unfolding more recs
    size = length-map (insert_at at r (rows 100 used s)) key_of ∙ more-length

    pub more-rises : Rising plain 0 (keys_of (insert_at at r (rows 100 used s)))
    unfolding more recs
    more-rises = rises

    pub more-others : Every (NotOwn own) (keys_of (insert_at at r (rows 100 used s)))
    unfolding more recs
    more-others = others

    pub more-some : 0 < length (keys_of (insert_at at r (rows 100 used s)))
    unfolding more recs
    more-some = omega (arith, size)

    -- one is too many: the row that goes is any that the rule names
    module _ (full : length s ≤ 100 * used) (g : ℕ) (goes : Goes (first_of own) own (keys_of (insert_at at r (rows 100 used s))) g) where
      over : after_learn own (length s) (rows 100 used s) r ≡ without_by key_of (drops own (keys_of more)) more
      unfolding learn_by recs more
      over = rw (put_is, lt-ltb (places_in (length s)) (length more) (omega (arith, more-length, f.places.whole))) refl

      pub goes-most : g ≤ used
      unfolding more recs
      goes-most = omega (arith, goes.inside, size)

      gone : after_learn own (length s) (rows 100 used s) r ≡ remove_at g (insert_at at r (rows 100 used s))
      unfolding more recs
      gone = over ∙ ap (λ (k : ℕ). without_by key_of k more) goes.named ∙ remove_place 0 more g rises (omega (arith, more-length, goes-most))

      held-many : length (rows 100 used s) ≡ used
      held-many = rows-length 100 used s

      pub new-before : g < at → insert_at (at - 1) r (remove_at g (rows 100 used s)) ≡ after_learn own (length s) (rows 100 used s) r
      new-before h = sym (gone ∙ out_before at g r (rows 100 used s) h (omega (arith, held-many, place-most)))

      pub new-after : at < g → insert_at at r (remove_at (g - 1) (rows 100 used s)) ≡ after_learn own (length s) (rows 100 used s) r
      new-after h = sym (gone ∙ out_after at g r (rows 100 used s) h (omega (arith, held-many, goes-most)))

      -- the newcomer goes: all stays
      pub new-goes : at ≡ g → rows 100 used s ≡ after_learn own (length s) (rows 100 used s) r
      new-goes e =
          sym (gone ∙ ap (λ (j : ℕ). remove_at j (insert_at at r (rows 100 used s))) (sym e)
          ∙ out_again at r (rows 100 used s) (omega (arith, held-many, place-most)))

      told-full : learned own (length s) (rows 100 used s) r
          ≡ cond (eqb (drops own (keys_of more)) (key_of r)) (changes false false 0) (changes true true (drops own (keys_of more)))
      unfolding learned recs more
      told-full = rw (not-held, put_is, lt-ltb (places_in (length s)) (length more) (omega (arith, more-length, f.places.whole))) refl

      its-key : get_or (keys_of more) at 0 ≡ key_of r
      unfolding more recs
      its-key = key_there at r (rows 100 used s) (omega (arith, held-many, place-most))

      -- another leaves, and the newcomer joins
      told-other : (k : ℕ) → get_or (keys_of more) g 0 ≡ k → ¬ (k ≡ key_of r) → changes true true k ≡ learned own (length s) (rows 100 used s) r
      unfolding more recs
      told-other k e ne = sym (told-full ∙ rw (goes.named, e, ne_eqb k (key_of r) ne) refl)

      pub told-before : g < at → changes true true (key_at (100 * g) s) ≡ learned own (length s) (rows 100 used s) r
      unfolding more recs
      told-before h =
          let e : get_or (keys_of more) g 0 ≡ key_at (100 * g) s =
          key-before at g r (rows 100 used s) h (omega (arith, held-many, place-most)) ∙ place_key_lem used g s (omega (arith, place-most)) in
          let l : get_or (keys_of more) g 0 < get_or (keys_of more) at 0 = rising_less 0 more g at rises h (omega (arith, more-length, place-most)) in
          told-other (key_at (100 * g) s) e (λ q. omega (arith, e, l, its-key, q))

      pub told-after : at < g → changes true true (key_at (100 * (g - 1)) s) ≡ learned own (length s) (rows 100 used s) r
      unfolding more recs
      told-after h =
          let e : get_or (keys_of more) g 0 ≡ key_at (100 * (g - 1)) s =
          key-after at g r (rows 100 used s) h (omega (arith, held-many, goes-most)) ∙ place_key_lem used (g - 1) s (omega (arith, goes-most)) in
          let l : get_or (keys_of more) at 0 < get_or (keys_of more) g 0 = rising_less 0 more at g rises h (omega (arith, more-length, goes-most)) in
          told-other (key_at (100 * (g - 1)) s) e (λ q. omega (arith, e, l, its-key, q))

      pub told-goes : at ≡ g → changes false false 0 ≡ learned own (length s) (rows 100 used s) r
      unfolding more recs
      told-goes e =
          let n : drops own (keys_of more) ≡ key_of r = goes.named ∙ ap (λ (j : ℕ). get_or (keys_of more) j 0) (sym e) ∙ its-key in
          sym (told-full ∙ rw (eq-eqb (drops own (keys_of more)) (key_of r) n) refl)

-- a held key has its record replaced
pub told-held : (own : Own) (size : ℕ) (recs : List (List ℕ)) (r : List ℕ) → has (key_of r) (keys_of recs) ≡ true → changes false false 0 ≡ learned own size recs r
unfolding learned
told-held own size recs r h = sym (rw h refl)

-- a key that is held leaves, another does not
pub told-removed : (k : ℕ) (recs : List (List ℕ)) → has k (keys_of recs) ≡ true → changes false true k ≡ removed k recs
unfolding removed
told-removed k recs h = sym (rw h refl)

pub told-kept : (k : ℕ) (recs : List (List ℕ)) → has k (keys_of recs) ≡ false → changes false false 0 ≡ removed k recs
unfolding removed
told-kept k recs h = sym (rw h refl)

pub held_room : (own : Own) (used : ℕ) (s r : List ℕ) → Form own s (rows 100 used s) → length (put_by key_of r (rows 100 used s)) ≤ used
    → put_by key_of r (rows 100 used s) ≡ after_learn own (length s) (rows 100 used s) r
unfolding learn_by
held_room own used s r f h =
    sym (rw (le-ltb (places_in (length s)) (length (put_by key_of r (rows 100 used s))) (omega (arith, (form_laid own used s f).room, f.places.whole))) refl)
