-- The closest record is the closest of our own or one of two, between which all the candidates held stand by their steps up from the target: none of them is closer than both.
-- Which two they are is in SidesLaws. Assumes nothing.
use mathlib.Core.Path.{◌≡◌, refl, sym, ap, ◌∙◌, subst}
use mathlib.Core.Logic.{◌⊎◌, inl, inr}
use mathlib.Core.Bool.{Bool, true, false, cond}
use mathlib.Core.List.{List, [], ◌∷◌}
use Prim.Native.Nat.{ℕ, zero, suc, ◌*◌, ◌≤◌, ◌<◌}
use native.Mathlib.Omega.{arith}
use lib.ListN.{length, get_or}
use Rattle.octet.specs.Part.{part}
use Rattle.key.specs.Number.{key_at}
use Rattle.key.specs.Around.{ring, up, closer}
use Rattle.key.proofs.AroundLaws.{closer_self, closer_anti, closer_trans, beside}
use Rattle.record.specs.Record.{key_of}
use Rattle.own.specs.Own.{own_form, own_keys, own_records, own_record}
use Rattle.table.specs.Rows.{rows}
use Rattle.table.proofs.RowLaws.{rows-length, row_at}
use Rattle.kept.specs.Keys.{◌∈◌, Every}
use Rattle.kept.proofs.ListLaws.{every_at}
use Rattle.neighbours.specs.declared.nearest.Spot.TheVariants.{Own, Held}
use Rattle.cache.specs.Form as F
use Rattle.cache.specs.Form.{keys_of}
use Rattle.neighbours.specs.Closest.{candidates, closest_of}
use Rattle.neighbours.specs.Where.{record_at, nearest_of, Within}
use Rattle.closest_row.proofs.ClosestLaws.{closest_in_lem, none-closer}
use Rattle.cache.proofs.FormLaws.{key_of-row}
use Rattle.neighbours.proofs.ClosestLaws.{in_either, in_first, in_second, records_some, closest_only, held-key}

pub get_d_in : {A : Type 0} (l : List A) (i : ℕ) (d : A) → i < length l → get_or l i d ∈ l
get_d_in [] i d h = absurd (omega arith)
get_d_in (x ∷ l) zero d h = inl refl
get_d_in (x ∷ l) (suc i) d h = inr (get_d_in l i d (omega arith))

pub row_in : (used i : ℕ) (s : List ℕ) → i < used → part (100 * i) 100 s ∈ rows 100 used s
row_in used i s h =
    subst (λ (r : List ℕ). r ∈ rows 100 used s) (row_at 100 used s i h) (get_d_in (rows 100 used s) i [] (omega (arith, rows-length 100 used s)))

-- of the candidates held, those of two places, between which all of them stand by their steps up from the target
module _ (t : ℕ) (own s : List ℕ) (held : List (List ℕ)) (formed : own_form own ≡ true) (f : F.HeldRecords (own_keys own) held) (o : t < ring)
    (small : Every (λ (k : ℕ). k < ring) (keys_of held))
    (u d : ℕ) (mu : part (100 * u) 100 s ∈ held) (md : part (100 * d) 100 s ∈ held)
    (next : (y : List ℕ) → y ∈ held → (up t (key_at (100 * u) s) ≤ up t (key_of y)) × (up t (key_of y) ≤ up t (key_at (100 * d) s)))
    (i : ℕ) (mine : own_record own i ≡ closest_of t (own_records own)) where
  over : ℕ
  over = key_at (100 * u) s

  under : ℕ
  under = key_at (100 * d) s

  -- the records there
  row-over : key_of (part (100 * u) 100 s) ≡ over
  unfolding over
  row-over = key_of-row (100 * u) s

  row_under : key_of (part (100 * d) 100 s) ≡ under
  unfolding under
  row_under = key_of-row (100 * d) s

  key_in_lem : (y : List ℕ) (k : ℕ) → y ∈ held → key_of y ≡ k → k < ring
  key_in_lem y k m e = subst (λ (n : ℕ). n < ring) e (every_at _ _ (keys_of held) small (held-key y held m))

  not_both : (y : List ℕ) → y ∈ held → (closer t (key_of y) over ≡ false) ⊎ (closer t (key_of y) under ≡ false)
  unfolding over under
  not_both y m =
      beside t over under (key_of y) o (key_in_lem (part (100 * u) 100 s) over mu row-over) (key_in_lem (part (100 * d) 100 s) under md row_under)
      (key_in_lem y (key_of y) m refl) (next y m).0 (next y m).1

  -- our own record of place i, than which no other of ours is closer
  ours : ℕ
  ours = key_at (100 * i) own

  row-ours : key_of (own_record own i) ≡ ours
  unfolding ours
  row-ours = key_of-row (100 * i) own

  ours_in : own_record own i ∈ candidates (own_records own) held
  ours_in =
      in_first (own_record own i) (own_records own) held
      (subst (λ (r : List ℕ). r ∈ own_records own) (sym mine) (closest_in_lem t (own_records own) (records_some own formed)))

  ours-least : (y : List ℕ) → y ∈ own_records own → closer t (key_of y) ours ≡ false
  ours-least y m = ap (closer t (key_of y)) (sym row-ours ∙ ap key_of mine) ∙ none-closer t (own_records own) y m

  -- a candidate than which neither of them, nor our own, is closer
  least : (z : List ℕ) → z ∈ candidates (own_records own) held
      → closer t ours (key_of z) ≡ false → closer t over (key_of z) ≡ false → closer t under (key_of z) ≡ false
      → z ≡ closest_of t (candidates (own_records own) held)
  least z m ho hu hd = closest_only t own held formed f z m (λ y n. none y (in_either y (own_records own) held n))
    where
      by : (y : List ℕ) → (closer t (key_of y) over ≡ false) ⊎ (closer t (key_of y) under ≡ false) → closer t (key_of y) (key_of z) ≡ false
      by y (inl p) = closer_trans t (key_of y) over (key_of z) p hu
      by y (inr p) = closer_trans t (key_of y) under (key_of z) p hd

      none : (y : List ℕ) → (y ∈ own_records own) ⊎ (y ∈ held) → closer t (key_of y) (key_of z) ≡ false
      none y (inl n) = closer_trans t (key_of y) ours (key_of z) (ours-least y n) ho
      none y (inr n) = by y (not_both y n)

  pub nearest-closest : record_at own s (nearest_of t own i s u d) ≡ closest_of t (candidates (own_records own) held)
  unfolding nearest_of over under ours
  nearest-closest = go (closer t over under) (closer t over ours) (closer t under ours) refl refl refl
    where
      to-ours : (k : ℕ) → closer t k ours ≡ false → closer t k (key_of (own_record own i)) ≡ false
      to-ours k e = ap (closer t k) row-ours ∙ e

      up_in : part (100 * u) 100 s ∈ candidates (own_records own) held
      up_in = in_second (part (100 * u) 100 s) (own_records own) held mu

      down-in : part (100 * d) 100 s ∈ candidates (own_records own) held
      down-in = in_second (part (100 * d) 100 s) (own_records own) held md

      to-over : (k : ℕ) → closer t k over ≡ false → closer t k (key_of (part (100 * u) 100 s)) ≡ false
      to-over k e = ap (closer t k) row-over ∙ e

      to-under : (k : ℕ) → closer t k under ≡ false → closer t k (key_of (part (100 * d) 100 s)) ≡ false
      to-under k e = ap (closer t k) row_under ∙ e

      go : (a b c : Bool) → closer t over under ≡ a → closer t over ours ≡ b → closer t under ours ≡ c
          → record_at own s (cond a (cond b (Held u) (Own i)) (cond c (Held d) (Own i))) ≡ closest_of t (candidates (own_records own) held)
      go true true c p q r =
          least (part (100 * u) 100 s) up_in (to-over ours (closer_anti t over ours q))
          (to-over over (closer_self t over)) (to-over under (closer_anti t over under p))
      go true false c p q r =
          least (own_record own i) ours_in (to-ours ours (closer_self t ours)) (to-ours over q)
          (to-ours under (closer_trans t under over ours (closer_anti t over under p) q))
      go false b true p q r =
          least (part (100 * d) 100 s) down-in (to-under ours (closer_anti t under ours r))
          (to-under over p) (to-under under (closer_self t under))
      go false b false p q r =
          least (own_record own i) ours_in (to-ours ours (closer_self t ours)) (to-ours over (closer_trans t over under ours p r)) (to-ours under r)

-- a place that is answered is our own or one of the two
pub nearest_within : (t : ℕ) (own s : List ℕ) (m used i u d : ℕ) → i < m → u < used → d < used → Within m used (nearest_of t own i s u d)
unfolding nearest_of
nearest_within t own s m used i u d li lu ld =
    go (closer t (key_at (100 * u) s) (key_at (100 * d) s)) (closer t (key_at (100 * u) s) (key_at (100 * i) own))
    (closer t (key_at (100 * d) s) (key_at (100 * i) own))
  where
    go : (a b c : Bool) → Within m used (cond a (cond b (Held u) (Own i)) (cond c (Held d) (Own i)))
    go true true c = lu
    go true false c = li
    go false b true = ld
    go false b false = li
