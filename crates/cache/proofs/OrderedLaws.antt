-- Laws of records in order, whosever keys they have: the loop that counts them, what they are, and that the form is theirs where none of our own keys is
-- among them: else as many as lead are fewer, and what follows them is a record and not zero. Assumes nothing.
use mathlib.Core.Path.{◌≡◌, refl, sym, ap, ◌∙◌, subst}
use mathlib.Core.List.{List, [], ◌∷◌}
use mathlib.Core.Bool.{Bool, true, false, cond, ◌&&◌, ◌||◌}
use Prim.Native.Nat.{ℕ, zero, suc, ◌+◌, ◌*◌, ◌%◌, ◌≤◌, ◌<◌}
use native.Mathlib.Numerals.{add-one}
use native.Mathlib.Omega.{arith}
use lib.Dec.{leb, eqb}
use lib.ListN.{length, take, drop, get_or}
use borrow.Author.Tests.{leb-true, eq-eqb, ne_eqb, eqb-true, eqb-false}
use Rattle.octet.specs.Part.{part, all_zero}
use Rattle.octet.proofs.TestLaws.{both_true, zero_rest, zero_from}
use Rattle.key.specs.Number.{key_at}
use Rattle.record.specs.Record.{key_of, record_form}
use Rattle.own.specs.Own.{Own, is_own}
use Rattle.own.specs.Low.{low_at}
use Rattle.record.proofs.PlaceLaws.{form_at}
use Rattle.table.specs.Rows.{rows}
use Rattle.table.proofs.RowLaws.{row_at, rows-length, rows_next, rows_end, rows_take}
use Rattle.kept.specs.Keys.{Rising, plain, has}
use Rattle.std.specs.Prelude.{Some, None}
use Rattle.cache.specs.Form.{keys_of, places_in, follows, leading}
use Rattle.cache.specs.Place.{cache_formed, rises, ordered, any_own}
use Rattle.cache.proofs.FormLaws.{key_of-row}
use Rattle.cache.proofs.ShapeLaws.{by-rest}

-- ---- the loop that counts them

module _ (n : ℕ) (s : List ℕ) (i : ℕ) where
  step : (b : Bool) → i < n → rises (low_at s i) (part (100 * i) 100 s) ≡ b
      → ordered (low_at s i) (drop i (rows 100 n s)) ≡ cond b (suc (ordered (low_at s (i + 1)) (drop (i + 1) (rows 100 n s)))) 0
  unfolding ordered low_at
  step b h f =
      let row : List ℕ = part (100 * i) 100 s in
      let rest : List (List ℕ) = drop (i + 1) (rows 100 n s) in
      let low : suc (key_of row) ≡ low_at s (i + 1) = ap suc (key_of-row (100 * i) s) ∙ ap (low_at s) (sym (add-one i)) in
      ap (ordered (low_at s i)) (rows_next 100 n s i h)
      ∙ ap (λ (t : Bool). cond t (suc (ordered (suc (key_of row)) rest)) 0) f
      ∙ ap (λ (l : ℕ). cond b (suc (ordered l rest)) 0) low

  pub ordered-more : i < n → rises (low_at s i) (part (100 * i) 100 s) ≡ true
      → i + ordered (low_at s i) (drop i (rows 100 n s)) ≡ i + 1 + ordered (low_at s (i + 1)) (drop (i + 1) (rows 100 n s))
  ordered-more h f = omega (arith, step true h f)

  pub ordered-stop : i < n → rises (low_at s i) (part (100 * i) 100 s) ≡ false → i + ordered (low_at s i) (drop i (rows 100 n s)) ≡ i
  ordered-stop h f = omega (arith, step false h f)

  pub ordered_end : n ≤ i → i + ordered (low_at s i) (drop i (rows 100 n s)) ≡ i
  unfolding ordered
  ordered_end h =
      let a : ordered (low_at s i) (drop i (rows 100 n s)) ≡ 0 = ap (ordered (low_at s i)) (rows_end 100 n s i h) in
      omega arith

-- ---- what they are

pub ordered_most : (low : ℕ) (rs : List (List ℕ)) → ordered low rs ≤ length rs
unfolding ordered
ordered_most low [] = omega arith
ordered_most low (r ∷ rs) = go (rises low r) (ordered_most (suc (key_of r)) rs)
  where
    go : (b : Bool) {n m : ℕ} → n ≤ m → cond b (suc n) 0 ≤ suc m
    go true h = omega arith
    go false h = omega arith

-- their keys rise
pub ordered_rising : (low : ℕ) (rs : List (List ℕ)) → Rising plain low (keys_of (take (ordered low rs) rs))
unfolding ordered rises
ordered_rising low [] = tt
ordered_rising low (r ∷ rs) = go (record_form r && leb low (key_of r)) refl (ordered_rising (suc (key_of r)) rs)
  where
    go : (b : Bool) → record_form r && leb low (key_of r) ≡ b → Rising plain (suc (key_of r)) (keys_of (take (ordered (suc (key_of r)) rs) rs))
        → Rising plain low (keys_of (take (cond b (suc (ordered (suc (key_of r)) rs)) 0) (r ∷ rs)))
    go true e t = (leb-true low (key_of r) (both_true (record_form r) (leb low (key_of r)) e).1, t)
    go false e t = tt

-- each is a record in form
pub ordered_formed : (low : ℕ) (rs : List (List ℕ)) (k : ℕ) → k < ordered low rs → record_form (get_or rs k []) ≡ true
unfolding ordered rises
ordered_formed low [] k h = absurd (omega arith)
ordered_formed low (r ∷ rs) k h = go (record_form r && leb low (key_of r)) refl k (ordered_formed (suc (key_of r)) rs) h
  where
    go : (b : Bool) → record_form r && leb low (key_of r) ≡ b → (k : ℕ)
        → ((k : ℕ) → k < ordered (suc (key_of r)) rs → record_form (get_or rs k []) ≡ true)
        → k < cond b (suc (ordered (suc (key_of r)) rs)) 0 → record_form (get_or (r ∷ rs) k []) ≡ true
    go true e zero ih h = (both_true (record_form r) (leb low (key_of r)) e).0
    go true e (suc k) ih h = ih k (omega arith)
    go false e k ih h = absurd (omega arith)

-- ---- as many lead, where none of our keys is among theirs; else fewer do

neither : (a b : Bool) → a || b ≡ false → (a ≡ false) × (b ≡ false)
neither false b h = (refl, h)
neither true b h = let z : ◌≡◌ {A = ℕ} 0 1 = cc in absurd (omega arith)

module _ (own : Own) (low : ℕ) (r : List ℕ) (rs : List (List ℕ)) (m l : ℕ) where
  all-next : (b : Bool) → rises low r ≡ b → (any_own own (keys_of (take m rs)) ≡ false → l ≡ m)
      → any_own own (keys_of (take (cond b (suc m) 0) (r ∷ rs))) ≡ false → cond (follows record_form own low r) (suc l) 0 ≡ cond b (suc m) 0
  unfolding follows rises any_own
  all-next true e ih h =
      let p = neither (is_own own (key_of r)) (any_own own (keys_of (take m rs))) h in
      rw (e, p.0) (ap suc (ih p.1))
  all-next false e ih h = rw e refl

  fewer-here : (t : Bool) → is_own own (key_of r) ≡ t → rises low r ≡ true → (any_own own (keys_of (take m rs)) ≡ true → l < m)
      → t || any_own own (keys_of (take m rs)) ≡ true → cond (follows record_form own low r) (suc l) 0 < suc m
  unfolding follows rises
  fewer-here true q e ih h = rw (e, q) (omega arith)
  fewer-here false q e ih h = rw (e, q) (omega (arith, ih h))

  fewer-next : (b : Bool) → rises low r ≡ b → (any_own own (keys_of (take m rs)) ≡ true → l < m)
      → any_own own (keys_of (take (cond b (suc m) 0) (r ∷ rs))) ≡ true → cond (follows record_form own low r) (suc l) 0 < cond b (suc m) 0
  unfolding any_own
  fewer-next true e ih h = fewer-here (is_own own (key_of r)) refl e ih h
  fewer-next false e ih h = let z : ◌≡◌ {A = ℕ} 0 1 = cc in absurd (omega arith)

pub all_lead : (own : Own) (low : ℕ) (rs : List (List ℕ)) → any_own own (keys_of (take (ordered low rs) rs)) ≡ false → leading record_form own low rs ≡ ordered low rs
unfolding leading ordered
all_lead own low [] h = refl
all_lead own low (r ∷ rs) h = all-next own low r rs _ _ (rises low r) refl (all_lead own (suc (key_of r)) rs) h

pub fewer_lead : (own : Own) (low : ℕ) (rs : List (List ℕ)) → any_own own (keys_of (take (ordered low rs) rs)) ≡ true → leading record_form own low rs < ordered low rs
unfolding leading ordered any_own
fewer_lead own low [] h = let z : ◌≡◌ {A = ℕ} 0 1 = cc in absurd (omega arith)
fewer_lead own low (r ∷ rs) h = fewer-next own low r rs _ _ (rises low r) refl (fewer_lead own (suc (key_of r)) rs) h

-- ---- our keys, one after the other

none_any : (keys : List ℕ) → any_own [] keys ≡ false
unfolding any_own has
none_any [] = refl
none_any (k ∷ keys) = none_any keys

either_way : (j k : ℕ) → eqb j k ≡ eqb k j
either_way j k = go (eqb k j) refl
  where
    go : (b : Bool) → eqb k j ≡ b → eqb j k ≡ b
    go true e = eq-eqb j k (sym (eqb-true k j e))
    go false e = ne_eqb j k (λ d. eqb-false k j e (sym d))

pub any_split : (k : ℕ) (own : Own) (keys : List ℕ) → any_own (k ∷ own) keys ≡ (has k keys || any_own own keys)
unfolding any_own has
any_split k own [] = refl
any_split k own (j ∷ keys) =
    ap (λ (b : Bool). (b || has j own) || any_own (k ∷ own) keys) (either_way j k)
    ∙ ap (λ (b : Bool). (eqb k j || has j own) || b) (any_split k own keys) ∙ turn (eqb k j) (has j own) (has k keys) (any_own own keys)
  where
    turn : (a b c d : Bool) → ((a || b) || (c || d)) ≡ ((a || c) || (b || d))
    turn true b c d = refl
    turn false true true d = refl
    turn false true false d = refl
    turn false false c d = refl

module _ (n : ℕ) (s : List ℕ) (i : ℕ) (keys : List ℕ) (h : i < n) where
  any_next : (b : Bool) → has (key_at (100 * i) s) keys ≡ b
      → any_own (keys_of (drop i (rows 100 n s))) keys ≡ (b || any_own (keys_of (drop (i + 1) (rows 100 n s))) keys)
  any_next b e =
      ap (λ (l : List (List ℕ)). any_own (keys_of l) keys) (rows_next 100 n s i h)
      ∙ any_split (key_of (part (100 * i) 100 s)) (keys_of (drop (i + 1) (rows 100 n s))) keys
      ∙ ap (λ (c : Bool). c || any_own (keys_of (drop (i + 1) (rows 100 n s))) keys) (ap (λ (k : ℕ). has k keys) (key_of-row (100 * i) s) ∙ e)

  pub any_here : has (key_at (100 * i) s) keys ≡ true → any_own (keys_of (drop i (rows 100 n s))) keys ≡ true
  any_here e = any_next true e

  pub any-on : has (key_at (100 * i) s) keys ≡ false
      → any_own (keys_of (drop i (rows 100 n s))) keys ≡ any_own (keys_of (drop (i + 1) (rows 100 n s))) keys
  any-on e = any_next false e

pub any_end : (n : ℕ) (s : List ℕ) (i : ℕ) (keys : List ℕ) → n ≤ i → any_own (keys_of (drop i (rows 100 n s))) keys ≡ false
any_end n s i keys h = ap (λ (l : List (List ℕ)). any_own (keys_of l) keys) (rows_end 100 n s i h) ∙ none_any keys

-- ---- the answer

-- what begins with a record is not zero
record_not-zero : (at : ℕ) (s : List ℕ) → at + 100 ≤ length s → record_form (part at 100 s) ≡ true → all_zero (drop at s) ≡ false
record_not-zero at s h e =
    let one : eqb (get_or s (at + 34) 0) 1 ≡ true = (both_true _ _ (both_true _ _ (sym (form_at at s h) ∙ e)).0).0 in
    let n : eqb (get_or s (at + 34) 0) 0 ≡ false = ne_eqb (get_or s (at + 34) 0) 0 (λ z. omega (arith, eqb-true (get_or s (at + 34) 0) 1 one, z)) in
    zero_rest at 34 s
    ∙ ap (λ (b : Bool). all_zero (part at 34 s) && b) (zero_from (at + 34) s (omega arith))
    ∙ ap (λ (b : Bool). all_zero (part at 34 s) && (b && all_zero (drop (at + 34 + 1) s))) n
    ∙ and_false (all_zero (part at 34 s))
  where
    and_false : (a : Bool) → a && false ≡ false
    and_false true = refl
    and_false false = refl

module _ (own : Own) (s : List ℕ) (whole : length s % 100 ≡ 0) (least : 1000 ≤ length s) (most : length s ≤ 25600) (enough : 1000 * length own ≤ length s)
    (used : ℕ) (is : used ≡ ordered 0 (rows 100 (places_in (length s)) s)) where
  pub used-most : used ≤ places_in (length s)
  used-most = omega (arith, is, ordered_most 0 (rows 100 (places_in (length s)) s), rows-length 100 (places_in (length s)) s)

  those : take (ordered 0 (rows 100 (places_in (length s)) s)) (rows 100 (places_in (length s)) s) ≡ rows 100 used s
  those = ap (λ (n : ℕ). take n (rows 100 (places_in (length s)) s)) (sym is) ∙ rows_take 100 used (places_in (length s)) s used-most

  pub used-rising : Rising plain 0 (keys_of (rows 100 used s))
  used-rising = subst (λ (l : List (List ℕ)). Rising plain 0 (keys_of l)) those (ordered_rising 0 (rows 100 (places_in (length s)) s))

  -- one of our keys is held
  pub own-bad : any_own own (keys_of (rows 100 used s)) ≡ true → cache_formed own s ≡ None
  own-bad h =
      let rs : List (List ℕ) = rows 100 (places_in (length s)) s in
      let l : ℕ = leading record_form own 0 rs in
      let few : l < ordered 0 rs = fewer_lead own 0 rs (ap (λ (x : List (List ℕ)). any_own own (keys_of x)) those ∙ h) in
      let inside : l < places_in (length s) = omega (arith, few, is, used-most) in
      let formed : record_form (part (100 * l) 100 s) ≡ true =
      ap record_form (sym (row_at 100 (places_in (length s)) s l inside)) ∙ ordered_formed 0 rs l few in
      by-rest own s whole least l false most enough refl (sym (record_not-zero (100 * l) s (omega (arith, inside, whole)) formed))

  -- none is, and the rest decides
  pub free-by : any_own own (keys_of (rows 100 used s)) ≡ false → cache_formed own s ≡ cond (all_zero (drop (100 * used) s)) (Some used) None
  free-by h =
      let rs : List (List ℕ) = rows 100 (places_in (length s)) s in
      by-rest own s whole least used (all_zero (drop (100 * used) s)) most enough
      (is ∙ sym (all_lead own 0 rs (ap (λ (x : List (List ℕ)). any_own own (keys_of x)) those ∙ h))) refl

  -- so where the rest is not zero it is bad in any case
  pub rest-bad : all_zero (drop (100 * used) s) ≡ false → cache_formed own s ≡ None
  rest-bad z = go (any_own own (keys_of (rows 100 used s))) refl
    where
      go : (b : Bool) → any_own own (keys_of (rows 100 used s)) ≡ b → cache_formed own s ≡ None
      go true e = own-bad e
      go false e = free-by e ∙ ap (λ (b : Bool). cond b (Some used) None) z
