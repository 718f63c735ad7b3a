-- Laws of records where they lie: parts of parts, and the tests on pieces that make the tests on the whole. Assumes nothing.
use mathlib.Core.Path.{◌≡◌, refl, sym, ap, ap₂, ◌∙◌}
use mathlib.Core.Bool.{Bool, true, false, ◌&&◌}
use mathlib.Core.List.{List, [], ◌∷◌, ◌++◌}
use Prim.Native.Nat.{ℕ, zero, suc, ◌+◌, ◌-◌, ◌*◌, ◌≤◌}
use native.Mathlib.Omega.{arith}
use lib.Dec.{eqb}
use lib.ListN.{length, take, drop, get_or, replicate, length-append, length-replicate}
use lib.Seq.{take-take, drop-drop, take-nil}
use borrow.Author.Tests.{leb-true, eq-eqb, eqb-true}
use Rattle.octet.specs.Part.{part, same, all_zero, splice}
use Rattle.octet.proofs.PartLaws.{part_add, part_at, part_two, length_part, splice_next}
use Rattle.octet.specs.Number.{value_le}
use Rattle.octet.proofs.TestLaws.{both_true, and_true, same_append, zero_two, zero_value, zero-words_two}
use Rattle.record.specs.Record.{count_of, record_form}
use Rattle.record.specs.Entry.{entry_form, entry_count, record_of, entry_of}

-- what is left of a part
pub drop-part : (at n j : ℕ) (s : List ℕ) → j ≤ n → drop j (part at n s) ≡ part (at + j) (n - j) s
drop-part at n j s h = drop-take j n (drop at s) h ∙ ap (take (n - j)) (drop-drop j at s)
  where
    drop-take : (j n : ℕ) (x : List ℕ) → j ≤ n → drop j (take n x) ≡ take (n - j) (drop j x)
    drop-take zero n x h = let z : n ≡ n - 0 = omega arith in ap (λ (k : ℕ). take k x) z
    drop-take (suc j) zero x h = absurd (omega arith)
    drop-take (suc j) (suc n) [] h = sym (take-nil (suc n - suc j))
    drop-take (suc j) (suc n) (y ∷ x) h =
        let z : n - j ≡ suc n - suc j = omega arith in
        drop-take j n x (omega arith) ∙ ap (λ (k : ℕ). take k (drop j x)) z

-- a part of a part
pub part-part : (s l j n : ℕ) (d : List ℕ) → j + n ≤ l → part j n (part s l d) ≡ part (s + j) n d
part-part s l j n d h =
    ap (take n) (drop-part s l j d (omega arith)) ∙ take-take n (l - j) (drop (s + j) d) (omega arith)

-- the same as zeros is zero
pub same_zeros : (n : ℕ) (xs : List ℕ) → length xs ≡ n → same xs (replicate n 0) ≡ all_zero xs
unfolding same all_zero
same_zeros zero [] e = refl
same_zeros (suc n) [] e = absurd (omega arith)
same_zeros zero (x ∷ xs) e = absurd (omega arith)
same_zeros (suc n) (x ∷ xs) e = ap (λ (t : Bool). eqb x 0 && t) (same_zeros n xs (omega arith))

-- a record at a place, tested in its place
pub form_at : (at : ℕ) (s : List ℕ) → at + 100 ≤ length s
    → record_form (part at 100 s) ≡ eqb (get_or s (at + 34) 0) 1 && eqb (get_or s (at + 35) 0) 0 && all_zero (part (at + 52) 48 s)
unfolding record_form
form_at at s h =
    rw (
      length_part at 100 s h,
      part_at at 100 34 s (omega arith),
      part_at at 100 35 s (omega arith),
      drop-part at 100 52 s (omega arith),
    )

-- count and zero byte as one number
pub count_word : (at : ℕ) (s : List ℕ) → at + 36 ≤ length s → value_le 256 (part (at + 34) 2 s) ≡ get_or s (at + 35) 0 * 256 + get_or s (at + 34) 0
unfolding value_le
count_word at s h =
    let place : at + 34 + 1 ≡ at + 35 = omega arith in
    let next : get_or s (at + 34 + 1) 0 ≡ get_or s (at + 35) 0 = ap (λ (n : ℕ). get_or s n 0) place in
    let both : value_le 256 (part (at + 34) 2 s) ≡ get_or s (at + 34 + 1) 0 * 256 + get_or s (at + 34) 0 =
    rw (part_two (at + 34) s (omega arith)) (omega arith) in
    omega (arith, both, next)

-- three words
pub zero-words-three : (at : ℕ) (s : List ℕ)
    → (eqb (value_le 256 (part at 8 s)) 0 && eqb (value_le 256 (part (at + 8) 8 s)) 0) && eqb (value_le 256 (part (at + 16) 8 s)) 0
    ≡ all_zero (part at 24 s)
zero-words-three at s =
    sym (zero_two at 16 8 s ∙ ap₂ ◌&&◌ (zero-words_two at s) (sym (zero_value 256 (part (at + 16) 8 s) (omega arith))))

-- the three addresses behind the first, in two halves
pub zero_halves : (at : ℕ) (s : List ℕ)
    → all_zero (part (at + 52) 24 s) && all_zero (part (at + 76) 24 s) ≡ all_zero (part (at + 52) 48 s)
zero_halves at s =
    let p : at + 52 + 24 ≡ at + 76 = omega arith in
    sym (zero_two (at + 52) 24 24 s ∙ ap (λ (n : ℕ). all_zero (part (at + 52) 24 s) && all_zero (part n 24 s)) p)

-- so the form is that the number is 1 and what follows the first address is zero
pub form_one : (at : ℕ) (s : List ℕ) → at + 100 ≤ length s → get_or s (at + 35) 0 * 256 + get_or s (at + 34) 0 ≡ 1
    → all_zero (part (at + 52) 48 s) ≡ record_form (part at 100 s)
form_one at s h e =
    sym (form_at at s h ∙ rw (eq-eqb (get_or s (at + 34) 0) 1 (omega arith), eq-eqb (get_or s (at + 35) 0) 0 (omega arith)) refl)

pub form_not : (at : ℕ) (s : List ℕ) → at + 100 ≤ length s → (get_or s (at + 35) 0 * 256 + get_or s (at + 34) 0 ≡ 1 → ⊥)
    → false ≡ record_form (part at 100 s)
form_not at s h ne = by-case (eqb (get_or s (at + 34) 0) 1) (eqb (get_or s (at + 35) 0) 0) refl refl
  where
    by-case : (a b : Bool) → eqb (get_or s (at + 34) 0) 1 ≡ a → eqb (get_or s (at + 35) 0) 0 ≡ b → false ≡ record_form (part at 100 s)
    by-case true true p q = absurd (ne (omega (arith, eqb-true (get_or s (at + 34) 0) 1 p, eqb-true (get_or s (at + 35) 0) 0 q)))
    by-case true false p q = sym (form_at at s h ∙ rw (p, q) refl)
    by-case false b p q = sym (form_at at s h ∙ rw p refl)

-- the pieces of the record that an entry at a place names
pub record Entry-at (start len : ℕ) (d : List ℕ) : Type 0 where
  pub least : 1 ≤ get_or d (start + 37) 0
  pub most : get_or d (start + 37) 0 ≤ 4
  pub long : len ≡ 38 + 16 * get_or d (start + 37) 0

pub entry_at : (start len : ℕ) (d : List ℕ) → start + len ≤ length d → entry_form (part start len d) ≡ true → Entry-at start len d
unfolding entry_form
entry_at start len d h e =
    let v = part start len d in
    let w = both_true _ _ e in
    let u = both_true _ _ w.0 in
    let a : 1 ≤ entry_count v = leb-true _ _ u.0 in
    let b : entry_count v ≤ 4 = leb-true _ _ u.1 in
    let l : length v ≡ len = length_part start len d h in
    let n : length v ≡ 38 + 16 * entry_count v = eqb-true _ _ w.1 in
    let c : entry_count v ≡ get_or d (start + 37) 0 = part_at start len 37 d (omega arith) in
    record { least = omega arith; most = omega arith; long = omega arith }

pub record_in : (start len : ℕ) (d : List ℕ) → start + len ≤ length d → entry_form (part start len d) ≡ true
    → record_of (part start len d) ≡ part start 32 d ++ part (start + 34) 2 d ++ (1 ∷ 0 ∷ []) ++ part (start + 38) 16 d ++ replicate 48 0
unfolding record_of
record_in start len d h e =
    let w = entry_at start len d h e in
    let l = w.long in
    let f = w.least in
    let z : start + 0 ≡ start = omega arith in
    rw (
      part-part start len 0 32 d (omega arith),
      z,
      part-part start len 34 2 d (omega arith),
      part-part start len 38 16 d (omega arith),
    )

-- the 100 bytes at a place, in the pieces of a record
pub record_pieces : (at : ℕ) (s : List ℕ) → at + 100 ≤ length s
    → part at 100 s
    ≡ part at 32 s ++ part (at + 32) 2 s ++ (get_or s (at + 34) 0 ∷ get_or s (at + 35) 0 ∷ []) ++ part (at + 36) 16 s ++ part (at + 52) 48 s
record_pieces at s h =
    let p : at + 34 + 1 ≡ at + 35 = omega arith in
    let two : part (at + 34) 2 s ≡ get_or s (at + 34) 0 ∷ get_or s (at + 35) 0 ∷ [] =
    part_two (at + 34) s (omega arith) ∙ ap (λ (n : ℕ). get_or s (at + 34) 0 ∷ get_or s n 0 ∷ []) p in
    part_add at 52 48 s
    ∙ ap (λ (x : List ℕ). x ++ part (at + 52) 48 s)
    (part_add at 36 16 s
    ∙ ap (λ (x : List ℕ). x ++ part (at + 36) 16 s)
    (part_add at 34 2 s ∙ ap₂ ◌++◌ (part_add at 32 2 s) two))

-- so the test for the very same record goes by its pieces: two lists of one length, with what their test says
abbrev Pair : List ℕ → List ℕ → Bool → Type 0
Pair xs ys t = (length xs ≡ length ys) × (same xs ys ≡ t)

then : (xs us ys vs : List ℕ) (t u : Bool) → Pair xs us t → Pair ys vs u → Pair (xs ++ ys) (us ++ vs) (t && u)
then xs us ys vs t u p q = (
  length-append xs ys ∙ ap₂ ◌+◌ p.0 q.0 ∙ sym (length-append us vs),
  same_append xs us ys vs p.0 ∙ ap₂ ◌&&◌ p.1 q.1,
)

middle : (a b c : ℕ) → Pair (a ∷ b ∷ []) (c ∷ 0 ∷ []) (eqb a c && eqb b 0)
unfolding same
middle a b c = (refl, ap (λ (t : Bool). eqb a c && t) (and_true (eqb b 0)))

parts : (i j n : ℕ) (s d : List ℕ) → i + n ≤ length s → j + n ≤ length d → Pair (part i n s) (part j n d) (same (part i n s) (part j n d))
parts i j n s d h k = (length_part i n s h ∙ sym (length_part j n d k), refl)

zeros : (i n : ℕ) (s : List ℕ) → i + n ≤ length s → Pair (part i n s) (replicate n 0) (all_zero (part i n s))
zeros i n s h = (length_part i n s h ∙ sym (length-replicate {A = ℕ} n 0), same_zeros n (part i n s) (length_part i n s h))

pub same_pieces : (at start len : ℕ) (s d : List ℕ) → at + 100 ≤ length s → start + len ≤ length d → entry_form (part start len d) ≡ true
    → same (part at 100 s) (record_of (part start len d))
    ≡ same (part at 32 s) (part start 32 d) && same (part (at + 32) 2 s) (part (start + 34) 2 d)
    && (eqb (get_or s (at + 34) 0) 1 && eqb (get_or s (at + 35) 0) 0)
    && same (part (at + 36) 16 s) (part (start + 38) 16 d)
    && all_zero (part (at + 52) 48 s)
same_pieces at start len s d h k e =
    let w = entry_at start len d k e in
    let f = w.least in
    let l = w.long in
    let key = parts at start 32 s d (omega arith) (omega arith) in
    let port = parts (at + 32) (start + 34) 2 s d (omega arith) (omega arith) in
    let count = middle (get_or s (at + 34) 0) (get_or s (at + 35) 0) 1 in
    let used = parts (at + 36) (start + 38) 16 s d (omega arith) (omega arith) in
    let unused = zeros (at + 52) 48 s (omega arith) in
    ap₂ same (record_pieces at s h) (record_in start len d k e)
    ∙ (then _ _ _ _ _ _ (then _ _ _ _ _ _ (then _ _ _ _ _ _ (then _ _ _ _ _ _ key port) count) used) unused).1

-- pieces put one after the other: four, and a fifth
pub put_four : (at n : ℕ) (k p w x s : List ℕ) → length k ≡ 32 → length p ≡ 2 → length w ≡ 2 → length x ≡ n → at + (36 + n) ≤ length s
    → splice (at + 36) x (splice (at + 34) w (splice (at + 32) p (splice at k s))) ≡ splice at (k ++ p ++ w ++ x) s
put_four at n k p w x s lk lp lw lx h =
    let a = length-append k p in
    let b = length-append (k ++ p) w in
    rw (
      splice_next at 32 k p s lk (omega arith),
      splice_next at 34 (k ++ p) w s (omega arith) (omega arith),
      splice_next at 36 (k ++ p ++ w) x s (omega arith) (omega arith),
    )

pub put_pieces : (at : ℕ) (k p w x z s : List ℕ) → length k ≡ 32 → length p ≡ 2 → length w ≡ 2 → length x ≡ 16 → length z ≡ 48 → at + 100 ≤ length s
    → splice (at + 52) z (splice (at + 36) x (splice (at + 34) w (splice (at + 32) p (splice at k s)))) ≡ splice at (k ++ p ++ w ++ x ++ z) s
put_pieces at k p w x z s lk lp lw lx lz h =
    let a = length-append k p in
    let b = length-append (k ++ p) w in
    let c = length-append (k ++ p ++ w) x in
    rw (put_four at 16 k p w x s lk lp lw lx (omega arith), splice_next at 52 (k ++ p ++ w ++ x) z s (omega arith) (omega arith))

-- what is known of a record in form at a place, and the entry that carries it in its pieces
pub record_at_lem : (start : ℕ) (s : List ℕ) → start + 100 ≤ length s → record_form (part start 100 s) ≡ true
    → (1 ≤ get_or s (start + 34) 0) × (get_or s (start + 34) 0 ≤ 4)
unfolding record_form
record_at_lem start s h e =
    let w = both_true _ _ e in
    let v = both_true _ _ w.0 in
    let u = both_true _ _ v.0 in
    let r = part start 100 s in
    let unused : all_zero (drop 52 r) ≡ true = w.1 in
    let zero-byte : eqb (get_or r 35 0) 0 ≡ true = v.1 in
    let long : eqb (length r) 100 ≡ true = u.0 in
    let c : count_of (part start 100 s) ≡ get_or s (start + 34) 0 = part_at start 100 34 s (omega arith) in
    let a : count_of (part start 100 s) ≡ 1 = eqb-true _ _ u.1 in
    (omega arith, omega arith)

pub entry_in_lem : (major minor start : ℕ) (s : List ℕ) → get_or s (start + 34) 0 ≤ 4
    → entry_of major minor (part start 100 s)
    ≡ part start 32 s ++ (major ∷ minor ∷ []) ++ part (start + 32) 2 s ++ (0 ∷ get_or s (start + 34) 0 ∷ [])
    ++ part (start + 36) (16 * get_or s (start + 34) 0) s
unfolding entry_of
entry_in_lem major minor start s h =
    let z : start + 0 ≡ start = omega arith in
    rw (
      part_at start 100 34 s (omega arith),
      part-part start 100 0 32 s (omega arith),
      z,
      part-part start 100 32 2 s (omega arith),
      part-part start 100 36 (16 * get_or s (start + 34) 0) s (omega arith),
    )

pub entry_length : (major minor start : ℕ) (s : List ℕ) → start + 100 ≤ length s → get_or s (start + 34) 0 ≤ 4
    → length (entry_of major minor (part start 100 s)) ≡ 38 + 16 * get_or s (start + 34) 0
entry_length major minor start s h m =
    let k = part start 32 s in
    let p = part (start + 32) 2 s in
    let x = part (start + 36) (16 * get_or s (start + 34) 0) s in
    let n = get_or s (start + 34) 0 in
    ap length (entry_in_lem major minor start s m)
    ∙ omega (
      arith,
      length_part start 32 s (omega arith),
      length_part (start + 32) 2 s (omega arith),
      length_part (start + 36) (16 * n) s (omega arith),
      length-append k (major ∷ minor ∷ []),
      length-append (k ++ (major ∷ minor ∷ [])) p,
      length-append (k ++ (major ∷ minor ∷ []) ++ p) (0 ∷ n ∷ []),
      length-append (k ++ (major ∷ minor ∷ []) ++ p ++ (0 ∷ n ∷ [])) x,
    )
