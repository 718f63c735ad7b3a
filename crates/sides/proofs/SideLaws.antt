-- How many of the keys of records are below our own, from two searches in plain key order: for our own key, and for the point opposite among the
-- records from its place on, or before it. In this order: keys of rows; how many are at most a key; how many are below. Assumes nothing.
use mathlib.Core.Path.{◌≡◌, refl, sym, ap, ap₂, ◌∙◌, subst}
use mathlib.Core.Bool.{Bool, true, false, cond}
use mathlib.Core.List.{List, [], ◌∷◌, map}
use Prim.Native.Nat.{ℕ, zero, suc, ◌+◌, ◌-◌, ◌*◌, ◌≤◌, ◌<◌}
use native.Mathlib.Omega.{arith}
use lib.ListN.{length, take, drop, length-map, length-drop}
use lib.Seq.{take_all, take-take, get_or-drop}
use borrow.Author.Tests.{lt-ltb, le-ltb, eq-eqb, ne_eqb, le-leb, lt-leb}
use Rattle.octet.specs.Number.{Bytes, value_be}
use Rattle.octet.specs.Part.{part}
use Rattle.key.specs.Number.{key_at}
use Rattle.key.specs.Around.{ring, half}
use Rattle.key.specs.Across.{across}
use Rattle.key.proofs.KeyLaws.{key-lt}
use Rattle.key.proofs.OrderLaws.{Stand, stand}
use Rattle.key.proofs.OrderLaws.Stand.{below, equal, above}
use Rattle.record.specs.Record.{key_of}
use Rattle.table.specs.Rows.{rows}
use Rattle.table.proofs.RowLaws.{rows-length, rows_take, rows_drop}
use Rattle.kept.specs.Keys.{has, Every, Rising, plain, among}
use Rattle.kept.specs.Plain.{count_below}
use Rattle.kept.specs.Turned.{count_under, count_upto}
use Rattle.kept.proofs.ListLaws.{has_out, rising-at}
use Rattle.kept.proofs.TurnLaws.{under_le, over-rises, under-rises, below-low, below-high}

-- ---- keys of rows

pub key_of-row : (at : ℕ) (s : List ℕ) → key_of (part at 100 s) ≡ key_at at s
key_of-row at s = ap (value_be 256) (take-take 32 100 (drop at s) (omega arith))

-- the keys of bytes are keys
pub keys_small : (used : ℕ) (s : List ℕ) → Bytes s → 100 * used ≤ length s → Every (λ (k : ℕ). k < ring) (map key_of (rows 100 used s))
unfolding rows
keys_small zero s b h = tt
keys_small (suc n) s b h = (
  subst (λ (k : ℕ). k < ring) (sym (key_of-row 0 s)) (key-lt 0 s b (omega arith)),
  keys_small n (drop 100 s) (λ i. omega (arith, get_or-drop 100 s i 0, b (100 + i))) (simp length-drop (omega arith)),
)

keys_drop : (n : ℕ) (recs : List (List ℕ)) → map key_of (drop n recs) ≡ drop n (map key_of recs)
keys_drop zero recs = refl
keys_drop (suc n) [] = refl
keys_drop (suc n) (r ∷ recs) = keys_drop n recs

keys_take : (n : ℕ) (recs : List (List ℕ)) → map key_of (take n recs) ≡ take n (map key_of recs)
keys_take zero recs = refl
keys_take (suc n) [] = refl
keys_take (suc n) (r ∷ recs) = ap (λ (l : List ℕ). key_of r ∷ l) (keys_take n recs)

-- ---- how many are at most a key

none_upto : (k low : ℕ) (ks : List ℕ) → k < low → Rising plain low ks → count_upto k ks ≡ 0
unfolding among
none_upto k low [] h r = refl
none_upto k low (j ∷ ks) h r = rw (lt-leb j k (omega (arith, r.0))) (none_upto k (suc j) ks (omega (arith, r.0)) r.1)

none_under : (k low : ℕ) (ks : List ℕ) → k ≤ low → Rising plain low ks → count_under k ks ≡ 0
unfolding among
none_under k low [] h r = refl
none_under k low (j ∷ ks) h r = rw (le-ltb j k (omega (arith, r.0))) (none_under k (suc j) ks (omega (arith, r.0)) r.1)

-- those that are smaller, and it
pub upto_is : (k low : ℕ) (ks : List ℕ) → Rising plain low ks → count_upto k ks ≡ cond (has k ks) (suc (count_under k ks)) (count_under k ks)
unfolding among has
upto_is k low [] r = refl
upto_is k low (j ∷ ks) r = go (stand j k) (upto_is k (suc j) ks r.1)
  where
    later : (b : Bool) → count_upto k ks ≡ cond b (suc (count_under k ks)) (count_under k ks)
        → suc (count_upto k ks) ≡ cond b (suc (suc (count_under k ks))) (suc (count_under k ks))
    later true e = ap suc e
    later false e = ap suc e

    go : Stand j k → count_upto k ks ≡ cond (has k ks) (suc (count_under k ks)) (count_under k ks)
        → count_upto k (j ∷ ks) ≡ cond (has k (j ∷ ks)) (suc (count_under k (j ∷ ks))) (count_under k (j ∷ ks))
    go (below h) ih = rw (le-leb j k (omega arith), lt-ltb j k h, ne_eqb k j (omega arith)) (later (has k ks) ih)
    go (equal h) ih =
        rw (le-leb j k (omega arith), le-ltb j k (omega arith), eq-eqb k j (sym h))
        (ap suc (none_upto k (suc j) ks (omega arith) r.1 ∙ sym (none_under k (suc j) ks (omega arith) r.1)))
    go (above h) ih =
        rw (lt-leb j k h, le-ltb j k (omega arith), ne_eqb k j (omega arith))
        (none_upto k (suc j) ks (omega arith) r.1
        ∙ sym (rw (has_out k ks (λ m. absurd (omega (arith, rising-at plain (suc j) k ks r.1 m)))) (none_under k (suc j) ks (omega arith) r.1)))

-- ---- how many are below

module _ (own used first : ℕ) (s : List ℕ) (room : 100 * used ≤ length s) (rises : Rising plain 0 (map key_of (rows 100 used s)))
    (others : Every (λ (k : ℕ). ¬ (k ≡ own)) (map key_of (rows 100 used s))) (o : own < ring) (b : Bytes s)
    (e : first ≡ count_under own (map key_of (rows 100 used s))) where
  keys : List ℕ
  keys = map key_of (rows 100 used s)

  many : length keys ≡ used
  unfolding keys
  many = length-map (rows 100 used s) key_of ∙ rows-length 100 used s

  small : Every (λ (k : ℕ). k < ring) keys
  unfolding keys
  small = keys_small used s b room

  pub first-most : first ≤ used
  unfolding keys
  first-most = omega (arith, e, many, under_le own keys)

  -- the records from our own key's place on, in the part of the cache that begins there, and those before it
  abbrev pub rest : List ℕ
  rest = take (length s - 100 * first) (drop (100 * first) s)

  rest-is : rest ≡ drop (100 * first) s
  rest-is = take_all (length s - 100 * first) (drop (100 * first) s) (omega (arith, length-drop (100 * first) s))

  over-keys : map key_of (rows 100 (used - first) rest) ≡ drop (count_under own keys) keys
  unfolding keys
  over-keys =
      ap (λ (t : List ℕ). map key_of (rows 100 (used - first) t)) rest-is
      ∙ ap (map key_of) (sym (rows_drop 100 first used s first-most)) ∙ keys_drop first (rows 100 used s) ∙ ap (λ (n : ℕ). drop n keys) e

  under-keys : map key_of (rows 100 first s) ≡ take (count_under own keys) keys
  unfolding keys
  under-keys = ap (map key_of) (sym (rows_take 100 first used s first-most)) ∙ keys_take first (rows 100 used s) ∙ ap (λ (n : ℕ). take n keys) e

  pub rises-over : Rising plain 0 (map key_of (rows 100 (used - first) rest))
  unfolding keys
  rises-over = subst (Rising plain 0) (sym over-keys) (over-rises own o keys rises small others)

  pub rises-under : Rising plain 0 (map key_of (rows 100 first s))
  unfolding keys
  rises-under = subst (Rising plain 0) (sym under-keys) (under-rises own o keys rises small others)

  module _ (k n : ℕ) (a : k ≡ across own) where
    pub low_sum : own < half → n ≡ count_upto k (map key_of (rows 100 (used - first) rest))
        → count_below own (map key_of (rows 100 used s)) + n ≡ used
    unfolding keys
    low_sum h c =
        omega (arith, c ∙ ap₂ count_upto a over-keys, below-low own o keys rises small others h, many)

    pub high_sum : half ≤ own → n ≡ count_upto k (map key_of (rows 100 first s)) → count_below own (map key_of (rows 100 used s)) + n ≡ first
    unfolding keys
    high_sum h c =
        omega (arith, c ∙ ap₂ count_upto a under-keys, below-high own o keys rises small others h, e)
