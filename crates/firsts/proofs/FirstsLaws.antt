-- The counts of all bytes, one behind the other: how long they are, one of them read, one of them written; and the empty cache's. Assumes nothing.
use mathlib.Core.Path.{◌≡◌, refl, sym, ap, ap₂, ◌∙◌}
use mathlib.Core.List.{List, [], ◌∷◌, ◌++◌, map, append_assoc}
use Prim.Native.Nat.{ℕ, zero, suc, ◌+◌, ◌-◌, ◌*◌, ◌^◌, ◌≤◌, ◌<◌}
use native.Mathlib.Omega.{arith}
use lib.ListN.{length, take, drop, get_or, replicate, length-append, length-map}
use lib.Seq.{take_at, take-take, drop_at, drop-append-add, drop-drop}
use Rattle.octet.specs.Number.{Digits, value_be, value_le, digits_le}
use Rattle.octet.specs.Part.{part, splice}
use Rattle.octet.proofs.LittleLaws.{length-digits_le, value_le-digits_le}
use Rattle.key.specs.Number.{key_at}
use Rattle.kept.specs.Keys.{among}
use Rattle.record.specs.Record.{key_of}
use Rattle.table.specs.Rows.{rows}
use Rattle.table.proofs.RowLaws.{rows-length}
use Rattle.firsts.specs.Firsts.{count, counts_from, firsts_of}
use Rattle.firsts.specs.Places.{count_at, with_count}
use Rattle.firsts.proofs.ByteLaws.{key-begins}
use Rattle.firsts.proofs.CountLaws.{count-few, OneMore, more-snoc}

-- ---- from a byte on

counts_length : (b n : ℕ) (l : List ℕ) → length (counts_from b n l) ≡ 2 * n
unfolding counts_from
counts_length b zero l = refl
counts_length b (suc n) l =
    length-append (digits_le 256 2 (count b l)) (counts_from (suc b) n l) ∙ omega (arith, length-digits_le 256 2 (count b l), counts_length (suc b) n l)

-- those that are the same for each byte
counts_same : (b n : ℕ) (l m : List ℕ) → ((i : ℕ) → b ≤ i → i < b + n → count i m ≡ count i l) → counts_from b n l ≡ counts_from b n m
unfolding counts_from
counts_same b zero l m e = refl
counts_same b (suc n) l m e =
    ap₂ (λ (i : ℕ) (t : List ℕ). digits_le 256 2 i ++ t) (sym (e b (omega arith) (omega arith)))
    (counts_same (suc b) n l m (λ i h k. e i (omega arith) (omega arith)))

-- those before a byte, its own, and those after it
split : (b i n : ℕ) (l : List ℕ) → counts_from b (i + suc n) l ≡ counts_from b i l ++ (digits_le 256 2 (count (b + i) l) ++ counts_from (suc (b + i)) n l)
unfolding counts_from
split b zero n l =
    let e : b ≡ b + 0 = omega arith in
    let z : zero + suc n ≡ suc n = omega arith in
    ap (λ (k : ℕ). counts_from b k l) z ∙ ap (λ (k : ℕ). digits_le 256 2 (count k l) ++ counts_from (suc k) n l) e
split b (suc i) n l =
    let e : suc b + i ≡ b + suc i = omega arith in
    let z : suc i + suc n ≡ suc (i + suc n) = omega arith in
    let d : List ℕ = digits_le 256 2 (count b l) in
    ap (λ (k : ℕ). counts_from b k l) z ∙ ap (λ (t : List ℕ). d ++ t) (split (suc b) i n l)
    ∙ sym (append_assoc d (counts_from (suc b) i l) (digits_le 256 2 (count (suc b + i) l) ++ counts_from (suc (suc b + i)) n l))
    ∙ ap (λ (k : ℕ). (d ++ counts_from (suc b) i l) ++ (digits_le 256 2 (count k l) ++ counts_from (suc k) n l)) e

-- ---- a piece replaced, and one cut out

splice_piece : (p x z y : List ℕ) (at : ℕ) → length p ≡ at → length y ≡ length x → splice at y (p ++ (x ++ z)) ≡ p ++ (y ++ z)
unfolding splice
splice_piece p x z y at hp hy =
    let e : at + length y ≡ length p + length x = omega arith in
    let rest : drop (at + length y) (p ++ (x ++ z)) ≡ z =
    ap (λ (k : ℕ). drop k (p ++ (x ++ z))) e ∙ drop-append-add p (x ++ z) (length x) ∙ drop_at x z (length x) refl in
    ap₂ (λ (l m : List ℕ). l ++ y ++ m) (take_at p (x ++ z) at hp) rest ∙ append_assoc p y z

part_piece : (p x z : List ℕ) (at n : ℕ) → length p ≡ at → length x ≡ n → part at n (p ++ (x ++ z)) ≡ x
part_piece p x z at n hp hx = ap (take n) (drop_at p (x ++ z) at hp) ∙ take_at x z n hx

-- ---- all of them

pub firsts_length : (l : List ℕ) → length (firsts_of l) ≡ 512
unfolding firsts_of
firsts_length l = counts_length 0 256 l

pub firsts_same : (l m : List ℕ) → ((i : ℕ) → count i m ≡ count i l) → firsts_of l ≡ firsts_of m
unfolding firsts_of
firsts_same l m e = counts_same 0 256 l m (λ i h k. e i)

module _ (b : ℕ) (byte : b < 256) (l : List ℕ) where
  pieces : firsts_of l ≡ counts_from 0 b l ++ (digits_le 256 2 (count b l) ++ counts_from (suc b) (255 - b) l)
  unfolding firsts_of
  pieces =
      let e : 256 ≡ b + suc (255 - b) = omega arith in
      let z : 0 + b ≡ b = omega arith in
      ap (λ (k : ℕ). counts_from 0 k l) e ∙ split 0 b (255 - b) l
      ∙ ap (λ (k : ℕ). counts_from 0 b l ++ (digits_le 256 2 (count k l) ++ counts_from (suc k) (255 - b) l)) z

  front : length (counts_from 0 b l) ≡ 2 * b
  front = counts_length 0 b l

  pub count-there : length l ≤ 65535 → count_at b (firsts_of l) ≡ count b l
  count-there few =
      let n : count b l < 256 ^ 2 = omega (arith, count-few b l) in
      ap (λ (s : List ℕ). value_le 256 (part (2 * b) 2 s)) pieces
      ∙ ap (value_le 256) (part_piece (counts_from 0 b l) (digits_le 256 2 (count b l)) (counts_from (suc b) (255 - b) l) (2 * b) 2 front (length-digits_le 256 2 (count b l)))
      ∙ value_le-digits_le 256 2 (count b l) (omega arith) n

  pub count_set : (m : List ℕ) → ((i : ℕ) → ¬ (i ≡ b) → count i m ≡ count i l) → with_count b (count b m) (firsts_of l) ≡ firsts_of m
  unfolding firsts_of
  count_set m e =
      let d = digits_le 256 2 (count b m) in
      let z : 256 ≡ b + suc (255 - b) = omega arith in
      let y : 0 + b ≡ b = omega arith in
      ap (splice (2 * b) d) pieces
      ∙ splice_piece (counts_from 0 b l) (digits_le 256 2 (count b l)) (counts_from (suc b) (255 - b) l) d (2 * b) front
      (length-digits_le 256 2 (count b m) ∙ sym (length-digits_le 256 2 (count b l)))
      ∙ ap₂ (λ (p q : List ℕ). p ++ (d ++ q)) (counts_same 0 b l m (λ i h k. e i (omega arith)))
      (counts_same (suc b) (255 - b) l m (λ i h k. e i (omega arith)))
      ∙ sym (ap (λ (k : ℕ). counts_from 0 k m) z ∙ split 0 b (255 - b) m
      ∙ ap (λ (k : ℕ). counts_from 0 b m ++ (digits_le 256 2 (count k m) ++ counts_from (suc k) (255 - b) m)) y)

-- ---- one key more, one key less

module _ (b : ℕ) (byte : b < 256) (l m : List ℕ) (w : OneMore b l m) where
  pub counted-up : length l ≤ 65535 → with_count b (count_at b (firsts_of l) + 1) (firsts_of l) ≡ firsts_of m
  counted-up few =
      let e : count_at b (firsts_of l) + 1 ≡ count b m = omega (arith, count-there b byte l few, w.here) in
      ap (λ (n : ℕ). with_count b n (firsts_of l)) e ∙ count_set b byte l m w.elsewhere

  pub counted-down : length m ≤ 65535 → with_count b (count_at b (firsts_of m) - 1) (firsts_of m) ≡ firsts_of l
  counted-down few =
      let e : count_at b (firsts_of m) - 1 ≡ count b l = omega (arith, count-there b byte m few, w.here) in
      ap (λ (n : ℕ). with_count b n (firsts_of m)) e ∙ count_set b byte m l (λ i h. sym (w.elsewhere i h))

  pub some-there : length m ≤ 65535 → 0 < count_at b (firsts_of m)
  some-there few = omega (arith, count-there b byte m few, w.here)

-- ---- of no keys

counts_none : (b n : ℕ) → counts_from b n [] ≡ replicate {A = ℕ} (2 * n) 0
unfolding counts_from count among digits_le
counts_none b zero = refl
counts_none b (suc n) =
    let e : suc (suc (2 * n)) ≡ 2 * suc n = omega arith in
    ap (λ (t : List ℕ). 0 ∷ 0 ∷ t) (counts_none (suc b) n) ∙ ap (λ (k : ℕ). replicate {A = ℕ} k 0) e

pub firsts_none : firsts_of [] ≡ replicate {A = ℕ} 512 0
unfolding firsts_of
firsts_none = counts_none 0 256

-- ---- of the keys of the first records: a record more

keys_next : (i : ℕ) (s : List ℕ) → map key_of (rows 100 (suc i) s) ≡ map key_of (rows 100 i s) ++ (key_at (100 * i) s ∷ [])
unfolding rows
keys_next zero s = ap (λ (l : List ℕ). value_be 256 l ∷ []) (take-take 32 100 s (omega arith))
keys_next (suc i) s =
    let p : 100 + 100 * i ≡ 100 * suc i = omega arith in
    let e : key_at (100 * i) (drop 100 s) ≡ key_at (100 * suc i) s =
    ap (λ (l : List ℕ). value_be 256 (take 32 l)) (drop-drop (100 * i) 100 s ∙ ap (λ (k : ℕ). drop k s) p) in
    ap (λ (t : List ℕ). key_of (take 100 s) ∷ t) (keys_next i (drop 100 s) ∙ ap (λ (k : ℕ). map key_of (rows 100 i (drop 100 s)) ++ (k ∷ [])) e)

module _ (i : ℕ) (s : List ℕ) (few : i ≤ 256) where
  keys_few : length (map key_of (rows 100 i s)) ≤ 256
  keys_few = omega (arith, length-map (rows 100 i s) key_of, rows-length 100 i s)

  pub row_room : (b : ℕ) → b < 256 → count_at b (firsts_of (map key_of (rows 100 i s))) < 65535
  row_room b byte =
      omega (arith, count-there b byte (map key_of (rows 100 i s)) (omega (arith, keys_few)), count-few b (map key_of (rows 100 i s)), keys_few)

  pub row-counted : Digits 256 s → 100 * i + 100 ≤ length s → (b : ℕ) → b < 256 → get_or s (100 * i) 0 ≡ b
      → with_count b (count_at b (firsts_of (map key_of (rows 100 i s))) + 1) (firsts_of (map key_of (rows 100 i s))) ≡ firsts_of (map key_of (rows 100 (i + 1) s))
  row-counted d h b byte e =
      let l = map key_of (rows 100 i s) in
      let k = key_at (100 * i) s in
      let n : suc i ≡ i + 1 = omega arith in
      counted-up b byte l (l ++ (k ∷ [])) (more-snoc k b (key-begins (100 * i) s d (omega arith) ∙ e) l) (omega (arith, keys_few))
      ∙ ap firsts_of (sym (keys_next i s) ∙ ap (λ (j : ℕ). map key_of (rows 100 j s)) n)
