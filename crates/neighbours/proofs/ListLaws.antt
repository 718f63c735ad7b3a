-- Laws of the neighbour list's bytes: keys of 32 bytes each, written one after the other, and read from the places of a cache.
-- In this order: the bytes of keys; a turn of a loop that writes them; the keys of the places; the two lists as they are written. Assumes nothing.
use mathlib.Core.Path.{◌≡◌, refl, sym, ap, ap₂, ◌∙◌}
use mathlib.Core.List.{List, [], ◌∷◌, ◌++◌, reverse, append_assoc, append-nil}
use Prim.Native.Nat.{ℕ, zero, suc, ◌+◌, ◌-◌, ◌*◌, ◌≤◌, ◌<◌, min}
use native.Mathlib.Nat.{zero-add}
use native.Mathlib.Numerals.{add-one}
use native.Mathlib.Omega.{arith}
use lib.ListN.{length, take, get_or, length-append, length-take, length-map, length-reverse}
use lib.Seq.{take-suc, get_or-take, length-take-le}
use Rattle.octet.specs.Number.{Bytes, digits_be}
use Rattle.octet.specs.Part.{part, splice}
use Rattle.octet.proofs.BigLaws.{length-digits_be, digits_be-value_be}
use Rattle.octet.proofs.PartLaws.{length_part, part-digits, splice_next}
use Rattle.key.specs.Number.{key_at}
use Rattle.key.specs.Around.{below, above, ring}
use Rattle.kept.specs.Keys.{Every, Rising, plain}
use Rattle.kept.specs.Turned.{NotKey, turned, wrapped, count_under}
use Rattle.record.specs.Record.{key_of}
use Rattle.table.specs.Rows.{rows}
use Rattle.table.proofs.RowLaws.{rows-length, row_at}
use Rattle.kept.specs.Plain.{count_below, neighbours}
use Rattle.kept.proofs.TurnLaws.{count-le, list-above, list-below, below_length, above-length}
use Rattle.kept.proofs.PlaceLaws.{reverse_get_d, turned_at, turned-length, wrapped-lt}
use Rattle.neighbours.specs.declared.listing.Counts.{Counts}
use Rattle.cache.specs.Form.{keys_of}
use Rattle.neighbours.specs.Listing.{key_bytes, after_list, counts_of}
use Rattle.cache.proofs.FormLaws.{key_of-row, keys_small}

-- ---- the bytes of keys

pub keys_length : (ks : List ℕ) → length (key_bytes ks) ≡ 32 * length ks
unfolding key_bytes
keys_length [] = refl
keys_length (k ∷ ks) = length-append (digits_be 256 32 k) (key_bytes ks) ∙ omega (arith, length-digits_be 256 32 k, keys_length ks)

pub keys_append : (ks ls : List ℕ) → key_bytes (ks ++ ls) ≡ key_bytes ks ++ key_bytes ls
unfolding key_bytes
keys_append [] ls = refl
keys_append (k ∷ ks) ls =
    ap (λ (l : List ℕ). digits_be 256 32 k ++ l) (keys_append ks ls) ∙ sym (append_assoc (digits_be 256 32 k) (key_bytes ks) (key_bytes ls))

keys_one : (k : ℕ) → key_bytes (k ∷ []) ≡ digits_be 256 32 k
unfolding key_bytes
keys_one k = append-nil (digits_be 256 32 k)

-- 32 bytes where they lie are those of their number
pub key-digits : (at : ℕ) (s : List ℕ) → Bytes s → at + 32 ≤ length s → part at 32 s ≡ digits_be 256 32 (key_at at s)
key-digits at s b h =
    sym (digits_be-value_be 256 (part at 32 s) (part-digits 256 at 32 s (omega arith) b))
    ∙ ap (λ (n : ℕ). digits_be 256 n (key_at at s)) (length_part at 32 s h)

-- ---- a turn: i keys are written from index at on, and one more

pub write_turn : (at i k : ℕ) (ks row out₀ : List ℕ) (out : List ℕ) → i < length ks → get_or ks i 0 ≡ k → row ≡ digits_be 256 32 k
    → out ≡ splice at (key_bytes (take i ks)) out₀ → at + 32 * i + 32 ≤ length out₀
    → splice (at + 32 * i) row out ≡ splice at (key_bytes (take (i + 1) ks)) out₀
write_turn at i k ks row out₀ out h ek er eo fits =
    let long : length (key_bytes (take i ks)) ≡ 32 * i =
    keys_length (take i ks) ∙ ap (λ (n : ℕ). 32 * n) (length-take-le i ks (omega arith)) in
    let room : at + 32 * i + length (digits_be 256 32 k) ≤ length out₀ = omega (arith, length-digits_be 256 32 k) in
    let more : key_bytes (take i ks) ++ digits_be 256 32 k ≡ key_bytes (take (i + 1) ks) =
    ap (λ (l : List ℕ). key_bytes (take i ks) ++ l) (sym (keys_one k))
    ∙ sym (keys_append (take i ks) (k ∷ []))
    ∙ ap key_bytes (ap (λ (j : ℕ). take i ks ++ (j ∷ [])) (sym ek) ∙ sym (ap (λ (n : ℕ). take n ks) (add-one i) ∙ take-suc ks i 0 h)) in
    ap₂ (λ (l m : List ℕ). splice (at + 32 * i) l m) er eo
    ∙ splice_next at (32 * i) (key_bytes (take i ks)) (digits_be 256 32 k) out₀ long room
    ∙ ap (λ (l : List ℕ). splice at l out₀) more

-- ---- the keys of the places

get_d_keys : (recs : List (List ℕ)) (i : ℕ) → i < length recs → get_or (keys_of recs) i 0 ≡ key_of (get_or recs i [])
get_d_keys [] i h = absurd (omega arith)
get_d_keys (r ∷ recs) zero h = refl
get_d_keys (r ∷ recs) (suc i) h = get_d_keys recs i (omega arith)

module _ (used : ℕ) (s : List ℕ) where
  keys : List ℕ
  keys = keys_of (rows 100 used s)

  keys-count : length keys ≡ used
  unfolding keys
  keys-count = length-map (rows 100 used s) key_of ∙ rows-length 100 used s

  place_key_lem : (i : ℕ) → i < used → get_or keys i 0 ≡ key_at (100 * i) s
  unfolding keys
  place_key_lem i h =
      get_d_keys (rows 100 used s) i (omega (arith, rows-length 100 used s)) ∙ ap key_of (row_at 100 used s i h) ∙ key_of-row (100 * i) s

  pub key_of_place : (i : ℕ) → i < used → get_or (keys_of (rows 100 used s)) i 0 ≡ key_at (100 * i) s
  unfolding keys
  key_of_place i h = place_key_lem i h

  round-length : (from : ℕ) → length (turned from keys) ≡ used
  round-length from = turned-length from keys ∙ keys-count

  round-key : (from i : ℕ) → from ≤ used → i < used → get_or (turned from keys) i 0 ≡ key_at (100 * wrapped used (from + i)) s
  round-key from i h g =
      turned_at from keys i (omega (arith, keys-count)) (omega (arith, keys-count))
      ∙ ap (λ (n : ℕ). get_or keys (wrapped n (from + i)) 0) keys-count
      ∙ place_key_lem (wrapped used (from + i)) (wrapped-lt used (from + i) (omega arith) (omega arith))

  pub key-round : (from i : ℕ) → from ≤ used → i < used
      → get_or (turned from (keys_of (rows 100 used s))) i 0 ≡ key_at (100 * wrapped used (from + i)) s
  unfolding keys
  key-round from i h g = round-key from i h g

  -- from place `from` on, upwards and round
  pub up-length : (from n : ℕ) → n ≤ used → length (take n (turned from (keys_of (rows 100 used s)))) ≡ n
  unfolding keys
  up-length from n h = length-take-le n (turned from keys) (omega (arith, round-length from))

  pub up_key : (from n i : ℕ) → i < n → n ≤ used → from ≤ used
      → get_or (take n (turned from (keys_of (rows 100 used s)))) i 0 ≡ key_at (100 * wrapped used (from + i)) s
  unfolding keys
  up_key from n i h l m = get_or-take n (turned from keys) i 0 h ∙ round-key from i m (omega arith)

  -- from before place `from` on, downwards and round
  pub down-length : (from n : ℕ) → n ≤ used → length (take n (reverse (turned from (keys_of (rows 100 used s))))) ≡ n
  unfolding keys
  down-length from n h = length-take-le n (reverse (turned from keys)) (omega (arith, length-reverse (turned from keys), round-length from))

  pub down_key : (from n i : ℕ) → i < n → n ≤ used → from ≤ used
      → get_or (take n (reverse (turned from (keys_of (rows 100 used s))))) i 0 ≡ key_at (100 * wrapped used (from + (used - (i + 1)))) s
  unfolding keys
  down_key from n i h l m =
      let e : length (turned from keys) - 1 - i ≡ used - (i + 1) = omega (arith, round-length from) in
      get_or-take n (reverse (turned from keys)) i 0 h
      ∙ reverse_get_d (turned from keys) i (omega (arith, round-length from))
      ∙ ap (λ (j : ℕ). get_or (turned from keys) j 0) e
      ∙ round-key from (used - (i + 1)) m (omega arith)

-- ---- the two lists

module _ (own used : ℕ) (s : List ℕ) (rises : Rising plain 0 (keys_of (rows 100 used s))) (others : Every (NotKey own) (keys_of (rows 100 used s)))
    (o : own < ring) (b : Bytes s) (room : 100 * used ≤ length s) where
  held : List ℕ
  held = keys_of (rows 100 used s)

  held-count : length held ≡ used
  unfolding held
  held-count = length-map (rows 100 used s) key_of ∙ rows-length 100 used s

  module _ (first under p q : ℕ) (ef : first ≡ count_under own (keys_of (rows 100 used s))) (eu : under ≡ count_below own (keys_of (rows 100 used s)))
      (ep : p ≡ min 5 under) (eq : q ≡ min 5 (used - under)) where
    pub near-below : neighbours own below (keys_of (rows 100 used s)) ≡ take p (reverse (turned first (keys_of (rows 100 used s))))
    unfolding held
    near-below =
        list-below own o held rises (keys_small used s b room) others
        ∙ ap₂ (λ (n m : ℕ). take n (reverse (turned m held))) (ap (min 5) (sym eu) ∙ sym ep) (sym ef)

    pub near-above : neighbours own above (keys_of (rows 100 used s)) ≡ take q (turned first (keys_of (rows 100 used s)))
    unfolding held
    near-above =
        list-above own o held rises (keys_small used s b room) others
        ∙ ap₂ (λ (n m : ℕ). take n (turned m held)) (ap₂ (λ (m n : ℕ). min 5 (m - n)) held-count (sym eu) ∙ sym eq) (sym ef)

    pub near-counts : ◌≡◌ {A = Counts} (record { below = p; above = q }) (counts_of own (rows 100 used s))
    unfolding held
    near-counts =
        let z = keys_small used s b room in
        let l : length (neighbours own below held) ≡ p = below_length own o held rises z others ∙ ap (min 5) (sym eu) ∙ sym ep in
        let a : length (neighbours own above held) ≡ q =
        above-length own o held rises z others ∙ ap₂ (λ (m n : ℕ). min 5 (m - n)) held-count (sym eu) ∙ sym eq in
        λ k. record { below = sym l k; above = sym a k }

    -- the keys below and then those above, written one after the other
    pub near-out : (out out₁ out₂ : List ℕ) → 320 ≤ length out
        → out₁ ≡ splice 0 (key_bytes (take p (reverse (turned first (keys_of (rows 100 used s)))))) out
        → out₂ ≡ splice (32 * p) (key_bytes (take q (turned first (keys_of (rows 100 used s))))) out₁
        → out₂ ≡ after_list own (rows 100 used s) out
    unfolding held
    near-out out out₁ out₂ many e₁ e₂ =
        let x : List ℕ = take p (reverse (turned first held)) in
        let y : List ℕ = take q (turned first held) in
        let lx : length (key_bytes x) ≡ 32 * p =
        keys_length x ∙ ap (λ (n : ℕ). 32 * n) (length-take-le p (reverse (turned first held))
        (omega (arith, length-reverse (turned first held), turned-length first held, count-le own held))) in
        let ly : length (key_bytes y) ≤ 160 = omega (arith, keys_length y, length-take q (turned first held)) in
        let n : 32 * p ≡ 0 + 32 * p = sym (zero-add (32 * p)) in
        e₂ ∙ ap₂ (λ (k : ℕ) (l : List ℕ). splice k (key_bytes y) l) n e₁
        ∙ splice_next 0 (32 * p) (key_bytes x) (key_bytes y) out lx (omega arith)
        ∙ ap (λ (l : List ℕ). splice 0 l out) (sym (keys_append x y) ∙ ap₂ (λ (a b : List ℕ). key_bytes (a ++ b)) (sym near-below) (sym near-above))
