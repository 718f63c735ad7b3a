-- The search for a key by halving: all before one place are below it, all from another on above, and the keys compared with those that the rest
-- will take are those that the whole takes. In this order: first words; rising keys by their places; the loop; what it tells. Assumes nothing.
use mathlib.Core.Path.{◌≡◌, refl, sym, ap, ◌∙◌}
use mathlib.Core.Logic.{◌⊎◌, inl, inr}
use mathlib.Core.Bool.{Bool, true, false, ◌||◌}
use mathlib.Core.List.{List, [], ◌∷◌, map}
use Prim.Native.Nat.{ℕ, zero, suc, ◌+◌, ◌-◌, ◌*◌, ◌/◌, ◌≤◌, ◌<◌}
use native.Mathlib.Decide.{dec_lt}
use native.Mathlib.Omega.{arith}
use lib.Dec.{eqb}
use lib.ListN.{length, take, drop, get_or, length-map}
use lib.Seq.{drop-drop, drop_at, take-take, take-length}
use borrow.Author.Tests.{lt-ltb, le-ltb, eq-eqb, ne_eqb}
use Rattle.std.specs.Prelude.{Ok, Err, is_ok}
use Rattle.octet.specs.Number.{Digits, value_be}
use Rattle.octet.specs.Part.{part}
use Rattle.octet.proofs.PartLaws.{part_add, length_part, part_at}
use Rattle.std.specs.declared.cmp.Ordering.TheVariants.{Less, Greater}
use Rattle.key.specs.Number.{key_at, order_of}
use Rattle.key.proofs.PlaceLaws.{order-part, then_less, then_more}
use Rattle.record.specs.Record.{key_of}
use Rattle.table.specs.Rows.{rows}
use Rattle.table.proofs.RowLaws.{rows-length}
use Rattle.kept.specs.Keys.{Rising, plain, has, among}
use Rattle.kept.specs.Turned.{count_under}
use Rattle.search.specs.declared.Sought.{Sought}
use Rattle.search.specs.Halving.{halvings}
use Rattle.search.specs.Sought.{stands, sought_in}
use Rattle.search.proofs.HalvingLaws.{halvings-none, halvings-same, halvings-front, halvings-back}

-- ---- first words

-- a key whose first word is less is less, one whose first word is more is more
module _ (i j : ℕ) (s t : List ℕ) (d : Digits 256 s) (e : Digits 256 t) (h : i + 32 ≤ length s) (k : j + 32 ≤ length t) where
  pub first-less : value_be 256 (part i 8 s) < value_be 256 (part j 8 t) → order_of (key_at i s) (key_at j t) ≡ Less
  first-less l =
      order-part 256 8 24 i j s t (omega arith) d e (omega arith) (omega arith)
      ∙ then_less (value_be 256 (part i 8 s)) (value_be 256 (part j 8 t))
      (order_of (value_be 256 (part (i + 8) 24 s)) (value_be 256 (part (j + 8) 24 t))) l

  pub first_more : value_be 256 (part j 8 t) < value_be 256 (part i 8 s) → order_of (key_at i s) (key_at j t) ≡ Greater
  first_more l =
      order-part 256 8 24 i j s t (omega arith) d e (omega arith) (omega arith)
      ∙ then_more (value_be 256 (part i 8 s)) (value_be 256 (part j 8 t))
      (order_of (value_be 256 (part (i + 8) 24 s)) (value_be 256 (part (j + 8) 24 t))) l

-- ---- rising keys by their places

rising_least : (low : ℕ) (ks : List ℕ) (j : ℕ) → Rising plain low ks → j < length ks → low ≤ get_or ks j 0
rising_least low [] j r h = absurd (omega arith)
rising_least low (k ∷ ks) zero r h = r.0
rising_least low (k ∷ ks) (suc j) r h = omega (arith, r.0, rising_least (suc k) ks j r.1 (omega arith))

rising_get_d : (low : ℕ) (ks : List ℕ) (i j : ℕ) → Rising plain low ks → i < j → j < length ks → get_or ks i 0 < get_or ks j 0
rising_get_d low [] i j r h l = absurd (omega arith)
rising_get_d low (k ∷ ks) zero zero r h l = absurd (omega arith)
rising_get_d low (k ∷ ks) zero (suc j) r h l = rising_least (suc k) ks j r.1 (omega arith)
rising_get_d low (k ∷ ks) (suc i) zero r h l = absurd (omega arith)
rising_get_d low (k ∷ ks) (suc i) (suc j) r h l = rising_get_d (suc k) ks i j r.1 (omega arith) (omega arith)

-- so many keys are smaller, where those before a place are and those from it on are not
under_at : (k : ℕ) (ks : List ℕ) (i : ℕ) → i ≤ length ks → ((j : ℕ) → j < i → get_or ks j 0 < k)
    → ((j : ℕ) → i ≤ j → j < length ks → k ≤ get_or ks j 0)
    → count_under k ks ≡ i
unfolding among
under_at k [] i h b a = omega arith
under_at k (m ∷ ms) zero h b a =
    let l : k ≤ m = a 0 (omega arith) (omega arith) in
    rw (le-ltb m k l) (under_at k ms 0 (omega arith) (λ j l. absurd (omega arith)) (λ j l n. a (suc j) (omega arith) (omega arith)))
under_at k (m ∷ ms) (suc i) h b a =
    rw (lt-ltb m k (b 0 (omega arith)))
    (ap suc (under_at k ms i (omega arith) (λ j l. b (suc j) (omega arith)) (λ j l n. a (suc j) (omega arith) (omega arith))))

-- a key that stands at a place is one of them, and one that stands at none is not
has_at : (k : ℕ) (ks : List ℕ) (i : ℕ) → i < length ks → get_or ks i 0 ≡ k → has k ks ≡ true
unfolding has
has_at k [] i h e = absurd (omega arith)
has_at k (m ∷ ms) zero h e = rw (eq-eqb k m (sym e)) refl
has_at k (m ∷ ms) (suc i) h e = rw (has_at k ms i (omega arith) e) (either (eqb k m))
  where
    either : (b : Bool) → b || true ≡ true
    either true = refl
    either false = refl

has-none : (k : ℕ) (ks : List ℕ) → ((j : ℕ) → j < length ks → ¬ (get_or ks j 0 ≡ k)) → has k ks ≡ false
unfolding has
has-none k [] n = refl
has-none k (m ∷ ms) n = rw (ne_eqb k m (λ e. n 0 (omega arith) (sym e))) (has-none k ms (λ j l. n (suc j) (omega arith)))

-- the keys of a table, by their places
pub key-among : (used : ℕ) (s : List ℕ) (i : ℕ) → i < used → get_or (map key_of (rows 100 used s)) i 0 ≡ key_at (100 * i) s
unfolding rows
key-among zero s i h = absurd (omega arith)
key-among (suc n) s zero h = ap (value_be 256) (take-take 32 100 s (omega arith))
key-among (suc n) s (suc i) h =
    let e : 100 + 100 * i ≡ 100 * suc i = omega arith in
    key-among n (drop 100 s) i (omega arith) ∙ ap (λ (l : List ℕ). value_be 256 (take 32 l)) (drop-drop (100 * i) 100 s ∙ ap (λ (k : ℕ). drop k s) e)

pub keys_many : (used : ℕ) (s : List ℕ) → length (map key_of (rows 100 used s)) ≡ used
keys_many used s = length-map (rows 100 used s) key_of ∙ rows-length 100 used s

-- ---- the loop

-- the keys from low to high
abbrev between : List ℕ → ℕ → ℕ → List ℕ
between ks low high = part low (high - low) ks

-- all before low are below k and all from high on above; with what is between them, the whole count is made
pub record Halved (k : ℕ) (ks : List ℕ) (low high compared : ℕ) : Type 0 where
  pub within : high ≤ length ks
  pub lower : low ≤ high
  pub below : (j : ℕ) → j < low → get_or ks j 0 < k
  pub above : (j : ℕ) → high ≤ j → j < length ks → k < get_or ks j 0
  pub counted : compared + halvings (between ks low high) k ≡ halvings ks k

told : (k : ℕ) (ks : List ℕ) {b : Bool} {i n : ℕ} → has k ks ≡ b → count_under k ks ≡ i → halvings ks k ≡ n
    → sought_in k ks ≡ record { found = stands b i; compared = n }
told k ks e f g = rw (e, f, g) refl

module _ (k : ℕ) (ks : List ℕ) (rising : Rising plain 0 ks) where
  pub halved-all : (used : ℕ) → length ks ≡ used → Halved k ks 0 used 0
  halved-all used e =
      let whole : used - 0 ≡ length ks = omega arith in
      record {
        within = omega arith;
        lower = omega arith;
        below = (λ j h. absurd (omega arith));
        above = (λ j h l. absurd (omega arith));
        counted = omega (arith, ap (λ (l : List ℕ). halvings l k) (ap (λ (n : ℕ). take n ks) whole ∙ take-length ks));
      }

  module _ (low high compared : ℕ) (h : Halved k ks low high compared) (some : low < high) where
    abbrev half : ℕ
    half = (high - low) / 2

    abbrev middle : ℕ
    middle = low + half

    long : length (between ks low high) ≡ high - low
    long = length_part low (high - low) ks (omega (arith, h.within))

    -- the key in the middle of those between, and the two halves
    here : get_or (between ks low high) (length (between ks low high) / 2) 0 ≡ get_or ks middle 0
    here = ap (λ (n : ℕ). get_or (between ks low high) (n / 2) 0) long ∙ part_at low (high - low) half ks (omega arith)

    front : take (length (between ks low high) / 2) (between ks low high) ≡ between ks low middle
    front =
        let e : half ≡ middle - low = omega arith in
        ap (λ (n : ℕ). take (n / 2) (between ks low high)) long ∙ take-take half (high - low) (drop low ks) (omega arith)
        ∙ ap (λ (n : ℕ). part low n ks) e

    back : drop (length (between ks low high) / 2 + 1) (between ks low high) ≡ between ks (middle + 1) high
    back =
        let e : high - low ≡ half + 1 + (high - (middle + 1)) = omega arith in
        let f : low + (half + 1) ≡ middle + 1 = omega arith in
        ap (λ (n : ℕ). drop (n / 2 + 1) (between ks low high)) long
        ∙ ap (λ (n : ℕ). drop (half + 1) (part low n ks)) e
        ∙ ap (drop (half + 1)) (part_add low (half + 1) (high - (middle + 1)) ks)
        ∙ drop_at (part low (half + 1) ks) (part (low + (half + 1)) (high - (middle + 1)) ks) (half + 1)
        (length_part low (half + 1) ks (omega (arith, h.within)))
        ∙ ap (λ (n : ℕ). part n (high - (middle + 1)) ks) f

    pub halved-less : get_or ks middle 0 < k → Halved k ks (middle + 1) high (compared + 1)
    halved-less t = record {
      within = h.within;
      lower = omega arith;
      below = (λ j b. go j (dec_lt j middle) b);
      above = h.above;
      counted = omega (arith, h.counted, turn t, ap (λ (l : List ℕ). halvings l k) back);
    }
      where
        turn : get_or ks middle 0 < k
            → halvings (between ks low high) k ≡ suc (halvings (drop (length (between ks low high) / 2 + 1) (between ks low high)) k)
        turn u = halvings-back (between ks low high) k (omega (arith, long)) (omega (arith, here, u))

        go : (j : ℕ) → Dec (j < middle) → j < middle + 1 → get_or ks j 0 < k
        go j (yes b) c = omega (arith, t, rising_get_d 0 ks j middle rising b (omega (arith, h.within)))
        go j (no b) c = let e : j ≡ middle = omega arith in omega (arith, t, ap (λ (n : ℕ). get_or ks n 0) e)

    -- from the middle on none is less, where that one is not
    on : k ≤ get_or ks middle 0 → (j : ℕ) → middle < j → j < length ks → k < get_or ks j 0
    on t j a b = omega (arith, t, rising_get_d 0 ks middle j rising a b)

    pub halved-more : k < get_or ks middle 0 → Halved k ks low middle (compared + 1)
    halved-more t = record {
      within = omega (arith, h.within);
      lower = omega arith;
      below = h.below;
      above = (λ j a b. go j (dec_lt middle j) a b);
      counted = omega (arith, h.counted, turn t, ap (λ (l : List ℕ). halvings l k) front);
    }
      where
        turn : k < get_or ks middle 0
            → halvings (between ks low high) k ≡ suc (halvings (take (length (between ks low high) / 2) (between ks low high)) k)
        turn u = halvings-front (between ks low high) k (omega (arith, long)) (omega (arith, here, u))

        go : (j : ℕ) → Dec (middle < j) → middle ≤ j → j < length ks → k < get_or ks j 0
        go j (yes a) c b = on (omega arith) j a b
        go j (no a) c b = let e : j ≡ middle = omega arith in omega (arith, t, ap (λ (n : ℕ). get_or ks n 0) e)

    -- ---- what it tells

    pub halved-same : get_or ks middle 0 ≡ k → sought_in k ks ≡ record { found = Ok middle; compared = compared + 1 }
    halved-same t =
        told k ks (has_at k ks middle (omega (arith, h.within)) t)
        (under_at k ks middle (omega (arith, h.within)) (λ j b. go j b) (λ j a b. from j (dec_lt middle j) a b))
        (omega (arith, h.counted, halvings-same (between ks low high) k (omega (arith, long)) (here ∙ t)))
      where
        go : (j : ℕ) → j < middle → get_or ks j 0 < k
        go j b = omega (arith, t, rising_get_d 0 ks j middle rising b (omega (arith, h.within)))

        from : (j : ℕ) → Dec (middle < j) → middle ≤ j → j < length ks → k ≤ get_or ks j 0
        from j (yes a) c b = omega (arith, on (omega (arith, t)) j a b)
        from j (no a) c b = let e : j ≡ middle = omega arith in omega (arith, t, ap (λ (n : ℕ). get_or ks n 0) e)

  pub halved-end : (low high compared : ℕ) → Halved k ks low high compared → high ≤ low
      → sought_in k ks ≡ record { found = Err low; compared = compared }
  halved-end low high compared h e =
      told k ks (has-none k ks (λ j l. other j (dec_lt j low) l))
      (under_at k ks low (omega (arith, h.within, h.lower)) h.below (λ j a b. omega (arith, h.above j (omega arith) b)))
      (omega (arith, h.counted, ap (λ (n : ℕ). halvings (part low n ks) k) (none), halvings-none k))
    where
      none : high - low ≡ 0
      none = omega arith

      other : (j : ℕ) → Dec (j < low) → j < length ks → ¬ (get_or ks j 0 ≡ k)
      other j (yes b) l = λ q. omega (arith, q, h.below j b)
      other j (no b) l = λ q. omega (arith, q, h.above j (omega arith) l)

-- ---- what was found

-- whether it is one of them is whether a place was found
pub is_ok-stands : (b : Bool) (i : ℕ) → is_ok (stands b i) ≡ b
is_ok-stands true i = refl
is_ok-stands false i = refl

ok-stands : (b : Bool) (i : ℕ) {at : ℕ} → stands b i ≡ Ok at → (b ≡ true) × (at ≡ i)
ok-stands true i e = (refl, cc)
ok-stands false i e = let z : ◌≡◌ {A = ℕ} 0 1 = cc in absurd (omega arith)

err-stands : (b : Bool) (i : ℕ) {at : ℕ} → stands b i ≡ Err at → (b ≡ false) × (at ≡ i)
err-stands true i e = let z : ◌≡◌ {A = ℕ} 0 1 = cc in absurd (omega arith)
err-stands false i e = (refl, cc)

-- where a place was found the key is one of them, and where it was not it is none; so many are smaller
module _ (k : ℕ) (ks : List ℕ) {q : Sought} (is : q ≡ sought_in k ks) {at : ℕ} where
  pub sought-held : q.found ≡ Ok at → (has k ks ≡ true) × (at ≡ count_under k ks)
  sought-held h = ok-stands (has k ks) (count_under k ks) (sym (ap (λ (s : Sought). s.found) is) ∙ h)

  pub sought-none : q.found ≡ Err at → (has k ks ≡ false) × (at ≡ count_under k ks)
  sought-none h = err-stands (has k ks) (count_under k ks) (sym (ap (λ (s : Sought). s.found) is) ∙ h)

  pub sought-under : (q.found ≡ Ok at) ⊎ (q.found ≡ Err at) → at ≡ count_under k ks
  sought-under (inl h) = (sought-held h).1
  sought-under (inr h) = (sought-none h).1
