-- Laws of our keys and their places. In this order: the walk over the own records; the place of a key; whether a key is ours, as a test and as a property; one
-- own record. Assumes nothing.
use mathlib.Core.Path.{◌≡◌, refl, sym, ap, ◌∙◌, subst}
use mathlib.Core.Logic.{inl, inr}
use mathlib.Core.Bool.{Bool, true, false, ◌||◌, ◌&&◌, cond}
use mathlib.Core.List.{List, [], ◌∷◌, map}
use Prim.Native.Nat.{ℕ, zero, suc, ◌+◌, ◌*◌, ◌/◌, ◌%◌, ◌≤◌, ◌<◌}
use native.Mathlib.Omega.{arith}
use lib.Dec.{eqb, leb}
use lib.ListN.{length, drop, get_or}
use lib.Seq.{take_all}
use borrow.Author.Tests.{eq-eqb, eqb-true, eqb-false, le-leb}
use Rattle.key.specs.Number.{key_at}
use Rattle.record.specs.Record.{key_of, record_form}
use Rattle.table.specs.Rows.{rows}
use Rattle.table.proofs.RowLaws.{rows-length, row_at, rows_next, rows_end}
use Rattle.kept.specs.Keys.{◌∈◌, has, Every}
use Rattle.kept.specs.Plain.{NotOwn}
use Rattle.kept.specs.Turned.{NotKey}
use Rattle.kept.proofs.ListLaws.{has_in, has_out, in_has}
use Rattle.own.specs.Own.{own_records, own_keys, own_form, own_by, rising_by, is_own, IsOwn, own_place, own_record, first_own}
use Rattle.own.proofs.FormLaws.{row-key, keys_many}

-- ---- the walk over the own records

module _ (n : ℕ) (s : List ℕ) (i k : ℕ) where
  -- the keys from place i on
  abbrev pub left : List ℕ
  left = map key_of (drop i (rows 100 n s))

  abbrev later : List ℕ
  later = map key_of (drop (i + 1) (rows 100 n s))

  next : i < n → left ≡ key_at (100 * i) s ∷ later
  next h = ap (map key_of) (rows_next 100 n s i h) ∙ ap (λ (j : ℕ). j ∷ later) (row-key (100 * i) s)

  pub has_here : i < n → eqb k (key_at (100 * i) s) ≡ true → has k left ≡ true
  unfolding has
  has_here h e = ap (has k) (next h) ∙ rw e refl

  pub has_on : i < n → eqb k (key_at (100 * i) s) ≡ false → has k left ≡ has k later
  unfolding has
  has_on h e = ap (has k) (next h) ∙ rw e refl

  pub has_end : n ≤ i → has k left ≡ false
  unfolding has
  has_end h = ap (λ (rs : List (List ℕ)). has k (map key_of rs)) (rows_end 100 n s i h)

  pub place_here : i < n → eqb k (key_at (100 * i) s) ≡ true → own_place left k ≡ 0
  unfolding own_place
  place_here h e = ap (λ (l : List ℕ). own_place l k) (next h) ∙ rw e refl

  pub place-on : i < n → eqb k (key_at (100 * i) s) ≡ false → own_place left k ≡ suc (own_place later k)
  unfolding own_place
  place-on h e = ap (λ (l : List ℕ). own_place l k) (next h) ∙ rw e refl

-- ---- the place of a key that is ours

pub place_in : (own : List ℕ) (k : ℕ) → k ∈ own → (own_place own k < length own) × (get_or own (own_place own k) 0 ≡ k)
unfolding own_place
place_in [] k m = absurd m
place_in (j ∷ own) k m = go (eqb k j) refl m (place_in own k)
  where
    go : (b : Bool) → eqb k j ≡ b → k ∈ (j ∷ own) → (k ∈ own → (own_place own k < length own) × (get_or own (own_place own k) 0 ≡ k))
        → (cond b 0 (suc (own_place own k)) < suc (length own)) × (get_or (j ∷ own) (cond b 0 (suc (own_place own k))) 0 ≡ k)
    go true e m ih = (omega arith, sym (eqb-true k j e))
    go false e (inl d) ih = absurd (eqb-false k j e d)
    go false e (inr m) ih = let q = ih m in (omega (arith, q.0), q.1)

pub place_below : (own : List ℕ) (k : ℕ) → IsOwn (own_keys own) k → own_place (own_keys own) k < length own / 100
place_below own k m = omega (arith, (place_in (own_keys own) k m).0, keys_many own)

keys_at : (rs : List (List ℕ)) (i : ℕ) → i < length rs → get_or (map key_of rs) i 0 ≡ key_of (get_or rs i [])
keys_at [] i h = absurd (omega arith)
keys_at (r ∷ rs) zero h = refl
keys_at (r ∷ rs) (suc i) h = keys_at rs i (omega arith)

-- the key of the record of a place
pub key_of_place : (own : List ℕ) (i : ℕ) → i < length own / 100 → key_of (own_record own i) ≡ get_or (own_keys own) i 0
key_of_place own i h =
    ap key_of (sym (row_at 100 (length own / 100) own i h)) ∙ sym (keys_at (own_records own) i (omega (arith, rows-length 100 (length own / 100) own)))

-- the first of our keys begins the first record
pub first_key : (own : List ℕ) → 0 < length own / 100 → first_own (own_keys own) ≡ key_of own
first_key own h = sym (key_of_place own 0 h) ∙ row-key 0 own

-- the record of the place of one of our keys has that key
pub place_key_lem : (own : List ℕ) (k : ℕ) → IsOwn (own_keys own) k → key_of (own_record own (own_place (own_keys own) k)) ≡ k
place_key_lem own k m = key_of_place own (own_place (own_keys own) k) (place_below own k m) ∙ (place_in (own_keys own) k m).1

-- ---- whether a key is ours

pub own_in : (own : List ℕ) (k : ℕ) → is_own own k ≡ true → IsOwn own k
own_in own k e = in_has k own e

pub in_own : (own : List ℕ) (k : ℕ) → IsOwn own k → is_own own k ≡ true
in_own own k m = has_in k own m

pub not_own : (own : List ℕ) (k : ℕ) → is_own own k ≡ false → ¬ IsOwn own k
not_own own k e m = let z : ◌≡◌ {A = Bool} true false = sym (has_in k own m) ∙ e in let y : ◌≡◌ {A = ℕ} 0 1 = cc in absurd (omega arith)

pub own_not : (own : List ℕ) (k : ℕ) → ¬ IsOwn own k → is_own own k ≡ false
own_not own k d = has_out k own d

-- keys none of which is ours are other keys than one of ours
pub not_this : (own : List ℕ) (j : ℕ) (keys : List ℕ) → IsOwn own j → Every (NotOwn own) keys → Every (NotKey j) keys
not_this own j [] m a = tt
not_this own j (k ∷ keys) m a = ((λ e. a.0 (subst (IsOwn own) (sym e) m)), not_this own j keys m a.1)

-- ---- one own record: all is as it was with a single one

module _ (own : List ℕ) (one : length own ≡ 100) where
  pub one-own-records : own_records own ≡ own ∷ []
  unfolding rows
  one-own-records =
      let n : length own / 100 ≡ 1 = omega (arith, one) in
      ap (λ (m : ℕ). rows 100 m own) n ∙ ap (λ (r : List ℕ). r ∷ []) (take_all 100 own (omega (arith, one)))

  pub one-own-keys : own_keys own ≡ key_of own ∷ []
  one-own-keys = ap (map key_of) one-own-records

  pub one-own-form : own_form own ≡ record_form own
  unfolding own_by rising_by
  one-own-form =
      let w : length own % 100 ≡ 0 = omega (arith, one) in
      rw (eq-eqb (length own % 100) 0 w, le-leb 100 (length own) (omega (arith, one)), le-leb (length own) 400 (omega (arith, one)), one-own-records)
      (go (record_form own) (leb 0 (key_of own)) (le-leb 0 (key_of own) (omega arith)))
    where
      go : (a b : Bool) → b ≡ true → ((a && b) && true) ≡ a
      go true b e = rw e refl
      go false b e = refl

  pub one-own-is : (k : ℕ) → is_own (own_keys own) k ≡ eqb k (key_of own)
  unfolding has
  one-own-is k = ap (has k) one-own-keys ∙ go (eqb k (key_of own))
    where
      go : (b : Bool) → (b || false) ≡ b
      go true = refl
      go false = refl
