-- The closest record is the closest of our own or one of two: the first that is not on the path going up from the target's place, and the first going down. In this order: places
-- in a list that rises; the records not on the path by their steps from the target; the two, and that one of them or our own is the closest. Assumes nothing.
use mathlib.Core.Path.{◌≡◌, refl, sym, ap, ap₂, ◌∙◌}
use mathlib.Core.Logic.{inl, inr}
use mathlib.Core.Bool.{Bool, true, false}
use mathlib.Core.List.{List, [], ◌∷◌}
use Prim.Native.Nat.{ℕ, zero, suc, ◌+◌, ◌-◌, ◌*◌, ◌≤◌, ◌<◌}
use native.Mathlib.Omega.{arith}
use lib.Dec.{ltb}
use lib.ListN.{length, get_or, length-map}
use borrow.Author.Tests.{ltb-true, ltb-false}
use Rattle.octet.specs.Part.{part}
use Rattle.key.specs.Number.{key_at}
use Rattle.key.specs.Around.{ring, up}
use Rattle.record.specs.Record.{key_of}
use Rattle.own.specs.Own.{own_form, own_keys, own_records, own_record}
use Rattle.table.specs.Rows.{rows}
use Rattle.table.proofs.RowLaws.{rows-length}
use Rattle.kept.specs.Keys.{◌∈◌, Every, Rising}
use Rattle.kept.specs.Turned.{count_under, going_up, wrapped}
use Rattle.kept.proofs.ListLaws.{rising-at}
use Rattle.kept.proofs.PlaceLaws.{turned-length, wrapped-lt}
use Rattle.kept.proofs.TurnLaws.{under_le, going-rises, going-has}
use Rattle.path.specs.Path.{on_path}
use Rattle.cache.specs.Form.{keys_of, HeldRecords}
use Rattle.cache.proofs.FormLaws.{key_of-row}
use Rattle.neighbours.specs.Closest.{candidates, off_path, closest_of}
use Rattle.round.specs.Over.{pass_over}
use Rattle.neighbours.specs.Where.{steps_up, steps_down, skips_at, skipped_up, skipped_down, record_at, nearest_of}
use Rattle.neighbours.proofs.ListLaws.{key-round}
use Rattle.neighbours.proofs.ClosestLaws.{held-key, one_held}
use Rattle.round.proofs.OverLaws.{over-before, over-at}
use Rattle.neighbours.proofs.SkipLaws.{off-has, has-off, off-held, keys-off, off_none}
use Rattle.neighbours.proofs.BesideLaws.{get_d_in, row_in, nearest-closest}

-- ---- places in a list that rises

-- a member of a list has a place in it; and where a list rises, what stands later is more
data Stands (k : ℕ) (l : List ℕ) : Type 0 where
  stands : (i : ℕ) → i < length l → get_or l i 0 ≡ k → Stands k l

stands_at_lem : (k : ℕ) (l : List ℕ) → k ∈ l → Stands k l
stands_at_lem k [] m = absurd m
stands_at_lem k (j ∷ l) (inl e) = stands 0 (omega arith) (sym e)
stands_at_lem k (j ∷ l) (inr m) = later (stands_at_lem k l m)
  where
    later : Stands k l → Stands k (j ∷ l)
    later (stands i h e) = stands (suc i) (omega arith) e

rising_places : (f : ℕ → ℕ) (b : ℕ) (l : List ℕ) (i j : ℕ) → Rising f b l → i ≤ j → j < length l → f (get_or l i 0) ≤ f (get_or l j 0)
rising_places f b [] i j r h g = absurd (omega arith)
rising_places f b (k ∷ l) zero zero r h g = omega arith
rising_places f b (k ∷ l) zero (suc j) r h g =
    omega (arith, rising-at f (suc (f k)) (get_or l j 0) l r.1 (get_d_in l j 0 (omega arith)))
rising_places f b (k ∷ l) (suc i) zero r h g = absurd (omega arith)
rising_places f b (k ∷ l) (suc i) (suc j) r h g = rising_places f (suc (f k)) l i j r.1 (omega arith) (omega arith)

-- ---- the records not on the path by their steps from the target

module _ (t : ℕ) (own path s : List ℕ) (used : ℕ) (f : HeldRecords (own_keys own) (rows 100 used s)) (o : t < ring)
    (small : Every (λ (k : ℕ). k < ring) (keys_of (rows 100 used s))) where
  abbrev keys : List ℕ
  keys = keys_of (rows 100 used s)

  -- the target's place, and how many records are passed over on each side of it
  abbrev at : ℕ
  at = count_under t keys

  abbrev over : ℕ
  over = skipped_up path s used at

  abbrev under : ℕ
  under = skipped_down path s used at

  abbrev left : List (List ℕ)
  left = off_path path (rows 100 used s)

  many : length keys ≡ used
  many = length-map (rows 100 used s) key_of ∙ rows-length 100 used s

  pub place-most : count_under t (keys_of (rows 100 used s)) ≤ used
  place-most = omega (arith, under_le t keys, many)

  -- the test at so many steps from the target's place
  abbrev on-up : ℕ → Bool
  on-up i = skips_at path s (steps_up used at i)

  abbrev on-down : ℕ → Bool
  on-down i = skips_at path s (steps_down used at i)

  -- the key that many steps up
  key-up : (i : ℕ) → i < used → get_or (going_up t keys) i 0 ≡ key_at (100 * steps_up used at i) s
  key-up i h = key-round used s at i place-most h

  within : (i : ℕ) → i < used → steps_up used at i < used
  within i h = wrapped-lt used (at + i) (omega (arith, place-most)) (omega arith)

  -- a record that is not on the path stands some steps up, and the test says so
  data Reached (y : List ℕ) : Type 0 where
    reached : (i : ℕ) → i < used → get_or (going_up t keys) i 0 ≡ key_of y → on-up i ≡ false → Reached y

  reach : (y : List ℕ) → y ∈ left → Reached y
  reach y m = by (stands_at_lem (key_of y) (going_up t keys) (going-has t o keys f.rising small (key_of y) (held-key y (rows 100 used s) there)))
    where
      there : y ∈ rows 100 used s
      there = (has-off path y (rows 100 used s) m).0

      by : Stands (key_of y) (going_up t keys) → Reached y
      by (stands i h e) =
          let l : i < used = omega (arith, h, turned-length at keys, many) in
          let one : y ≡ part (100 * steps_up used at i) 100 s =
          one_held 0 (rows 100 used s) y (part (100 * steps_up used at i) 100 s) f.rising there (row_in used (steps_up used at i) s (within i l))
          (sym e ∙ key-up i l ∙ sym (key_of-row (100 * steps_up used at i) s)) in
          reached i l e (ap (λ (q : List ℕ). on_path q path) (sym one) ∙ (has-off path y (rows 100 used s) m).1)

  -- where the test fails, no more were passed over
  first : (g : ℕ → Bool) (i : ℕ) → g i ≡ false → pass_over g 0 used ≤ i
  first g i e = by (ltb i (pass_over g 0 used)) refl
    where
      both : (b : Bool) → b ≡ true → b ≡ false → ⊥
      both b p q = let z : ◌≡◌ {A = ℕ} 0 1 = cc in omega arith

      by : (b : Bool) → ltb i (pass_over g 0 used) ≡ b → pass_over g 0 used ≤ i
      by true d = absurd (both (g i) (over-before g 0 used i (omega arith) (ltb-true i (pass_over g 0 used) d)) e)
      by false d = ltb-false i (pass_over g 0 used) d

  -- the same place, counted from the other end
  turn-round : (i : ℕ) → i < used → on-down (used - (i + 1)) ≡ on-up i
  turn-round i h =
      let e : used - (used - (i + 1) + 1) ≡ i = omega arith in
      ap (λ (n : ℕ). skips_at path s (wrapped used (at + n))) e

  -- all were passed over
  pub none_left : skipped_up path s used (count_under t (keys_of (rows 100 used s))) ≡ used → off_path path (rows 100 used s) ≡ []
  none_left e = off_none left (λ y m. out y (reach y m))
    where
      out : (y : List ℕ) → Reached y → ⊥
      out y (reached i h k d) = omega (arith, e, first on-up i d)

  -- ---- the two

  module _ (some : skipped_up path s used (count_under t (keys_of (rows 100 used s))) < used) where
    stops : on-up over ≡ false
    stops = over-at on-up 0 used (omega (arith, some))

    pub under-less : skipped_down path s used (count_under t (keys_of (rows 100 used s))) < used
    under-less = omega (arith, some, first on-down (used - (over + 1)) (turn-round over some ∙ stops))

    stops-down : on-down under ≡ false
    stops-down = over-at on-down 0 used (omega (arith, under-less))

    -- the last of those not on the path, so many steps up
    abbrev last : ℕ
    last = used - (under + 1)

    between : (y : List ℕ) → y ∈ left
        → (up t (key_at (100 * steps_up used at over) s) ≤ up t (key_of y)) × (up t (key_of y) ≤ up t (key_at (100 * steps_down used at under) s))
    between y m = by (reach y m)
      where
        size : length (going_up t keys) ≡ used
        size = turned-length at keys ∙ many

        rises : Rising (up t) 0 (going_up t keys)
        rises = going-rises t o keys f.rising small

        by : Reached y
            → (up t (key_at (100 * steps_up used at over) s) ≤ up t (key_of y)) × (up t (key_of y) ≤ up t (key_at (100 * steps_down used at under) s))
        by (reached i h e d) =
            let low : over ≤ i = first on-up i d in
            let back : under ≤ used - (i + 1) = first on-down (used - (i + 1)) (turn-round i h ∙ d) in
            let high : i ≤ last = omega (arith, back, h, under-less) in
            let a = rising_places (up t) 0 (going_up t keys) over i rises low (omega (arith, size, h)) in
            let b = rising_places (up t) 0 (going_up t keys) i last rises high (omega (arith, size, under-less)) in
            (rw (key-up over some, e) at a, rw (e, key-up last (omega (arith, under-less))) at b)

    pub sides-closest : (i : ℕ) → own_form own ≡ true → own_record own i ≡ closest_of t (own_records own) → (u d : ℕ)
        → u ≡ steps_up used (count_under t (keys_of (rows 100 used s))) (skipped_up path s used (count_under t (keys_of (rows 100 used s))))
        → d ≡ steps_down used (count_under t (keys_of (rows 100 used s))) (skipped_down path s used (count_under t (keys_of (rows 100 used s))))
        → record_at own s (nearest_of t own i s u d) ≡ closest_of t (candidates (own_records own) (off_path path (rows 100 used s)))
    sides-closest i formed mine u d eu ed =
        ap₂ (λ (k j : ℕ). record_at own s (nearest_of t own i s k j)) eu ed
        ∙ nearest-closest t own s left formed (off-held path (own_keys own) (rows 100 used s) f) o (keys-off path _ (rows 100 used s) small)
        (steps_up used at over) (steps_down used at under)
        (off-has path _ (rows 100 used s) (row_in used (steps_up used at over) s (within over some)) stops)
        (off-has path _ (rows 100 used s) (row_in used (steps_up used at last) s (within last (omega (arith, under-less)))) stops-down)
        between i mine
