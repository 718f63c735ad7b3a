-- Laws of the tick's round: what one place's part leaves, and how the loop goes on. Elsewhere: that the form is kept, in KeptLaws; three rounds,
-- in RoundLaws. Assumes nothing.
use mathlib.Core.Path.{◌≡◌, refl, sym, ap, ap₂, ◌∙◌}
use mathlib.Core.Bool.{Bool, true, false, cond}
use mathlib.Core.List.{List, [], ◌∷◌, ◌++◌, append_assoc, append-nil}
use Prim.Native.Nat.{ℕ, suc, ◌+◌, ◌*◌, ◌-◌, ◌≤◌, ◌<◌}
use native.Mathlib.Nat.{zero-add, add-zero}
use native.Mathlib.Omega.{arith}
use lib.ListN.{length, take, drop, get_or, set, replicate, length-append, length-drop, length-replicate, replicate-append-replicate, take-append-drop}
use lib.Seq.{length-take-le, take-add}
use borrow.Author.Tests.{eq-eqb, ne_eqb}
use Rattle.octet.specs.Number.{digits_le}
use Rattle.octet.specs.Part.{part, splice}
use Rattle.octet.proofs.PartLaws.{length_part, length-splice, take-splice, splice_next, splice_nil}
use Rattle.octet.proofs.TestLaws.{all_zeros}
use Rattle.octet.proofs.LittleLaws.{length-digits_le}
use Rattle.table.specs.Rows.{rows, joined, bytes_of, Laid}
use Rattle.table.proofs.RowLaws.{rows-length, rows_drop, rows_next, rows_end}
use Rattle.table.proofs.PieceLaws.{set-splice, drop-behind}
use Rattle.waiting.specs.Place.{id_of, tries_of}
use Rattle.waiting.specs.Tick.{one_less, id_bytes}
use Rattle.waiting.specs.Ticking.{spent, ticked, listed}
use Rattle.waiting.proofs.PlaceLaws.{tries-at, less-length}

-- ---- one place's part

pub is-spent : (from : ℕ) (t : List ℕ) → get_or t (from + 5) 0 ≡ 0 → spent (part from 140 t) ≡ true
is-spent from t e = eq-eqb (tries_of (part from 140 t)) 0 (tries-at from t ∙ e)

pub not-spent : (from : ℕ) (t : List ℕ) → (get_or t (from + 5) 0 ≡ 0 → ⊥) → spent (part from 140 t) ≡ false
not-spent from t e = ne_eqb (tries_of (part from 140 t)) 0 (λ z. e (sym (tries-at from t) ∙ z))

-- a part put where it stands
pub place_stays : (at n : ℕ) (s : List ℕ) → at + n ≤ length s → splice at (part at n s) s ≡ s
unfolding splice
place_stays at n s h =
    ap (λ (k : ℕ). take at s ++ part at n s ++ drop (at + k) s) (length_part at n s h)
    ∙ ap (λ (l : List ℕ). l ++ drop (at + n) s) (sym (take-add at n s))
    ∙ take-append-drop (at + n) s

-- the move, and then the store of one try less
pub kept_place : (from to : ℕ) (t : List ℕ) → to ≤ from → from + 140 ≤ length t
    → set (splice to (part from 140 t) t) (to + 5) (get_or t (from + 5) 0 - 1) ≡ splice to (one_less (part from 140 t)) t
kept_place from to t h k =
    let long = length_part from 140 t k in
    set-splice to (part from 140 t) t 5 (get_or t (from + 5) 0 - 1) (omega arith) (omega arith)
    ∙ ap (λ (x : ℕ). splice to (set (part from 140 t) 5 (x - 1)) t) (sym (tries-at from t))

-- ---- lists

pub ids_length : (ids : List ℕ) → length (id_bytes ids) ≡ 4 * length ids
unfolding id_bytes
ids_length [] = refl
ids_length (id ∷ ids) = simp (length-append, length-digits_le) (omega (arith, ids_length ids))

few_by : (b : Bool) (p : List ℕ) (ids : List ℕ) (n : ℕ) → length ids ≤ n → length (cond b ids (id_of p ∷ ids)) ≤ suc n
few_by true p ids n h = omega arith
few_by false p ids n h = omega arith

pub listed_few : (ps : List (List ℕ)) → length (listed ps) ≤ length ps
unfolding listed
listed_few [] = omega arith
listed_few (p ∷ ps) = few_by (spent p) p (listed ps) (length ps) (listed_few ps)

module _ (p : List ℕ) (ps : List (List ℕ)) where
  pub ticked-spent : spent p ≡ true → ticked (p ∷ ps) ≡ ticked ps
  unfolding ticked
  ticked-spent e = rw e refl

  pub ticked-kept : spent p ≡ false → ticked (p ∷ ps) ≡ one_less p ∷ ticked ps
  unfolding ticked
  ticked-kept e = rw e refl

  pub listed-spent : spent p ≡ true → listed (p ∷ ps) ≡ listed ps
  unfolding listed
  listed-spent e = rw e refl

  pub listed_kept : spent p ≡ false → listed (p ∷ ps) ≡ id_of p ∷ listed ps
  unfolding listed
  listed_kept e = rw e refl

-- ---- the loop: what it has done and what is left of it make the whole. t₀ and o₀ are the table and the output at the start

pub record Left (used : ℕ) (t₀ o₀ t o : List ℕ) (at kept : ℕ) : Type 0 where
  pub low : at ≤ used
  pub few : kept ≤ at
  pub size : length t ≡ length t₀
  pub room : length o ≡ length o₀
  pub count : length (listed (rows 140 used t₀)) ≡ kept + length (listed (drop at (rows 140 used t)))
  pub table : joined (ticked (rows 140 used t₀)) ≡ take (140 * kept) t ++ joined (ticked (drop at (rows 140 used t)))
  pub list : splice 0 (id_bytes (listed (rows 140 used t₀))) o₀ ≡ splice (4 * kept) (id_bytes (listed (drop at (rows 140 used t)))) o
  pub rest : drop (140 * used) t ≡ drop (140 * used) t₀

pub left-start : (used : ℕ) (t o : List ℕ) → Left used t o t o 0 0
left-start used t o = record {
  low = omega arith;
  few = omega arith;
  size = refl;
  room = refl;
  count = sym (zero-add (length (listed (rows 140 used t))));
  table = refl;
  list = refl;
  rest = refl;
}

one_more : (n : ℕ) (x : ℕ) (xs : List ℕ) → n + length (x ∷ xs) ≡ (n + 1) + length xs
one_more n x xs = omega arith

-- the row that was put is part of what is done
joined_more : (t : List ℕ) (at next : ℕ) (q : List ℕ) (qs : List (List ℕ)) → at + length q ≤ length t → at + length q ≡ next
    → take at t ++ joined (q ∷ qs) ≡ take next (splice at q t) ++ joined qs
unfolding joined
joined_more t at next q qs h e =
    sym (append_assoc (take at t) q (joined qs))
    ∙ ap (λ (b : List ℕ). b ++ joined qs) (sym (take-splice at q t h) ∙ ap (λ (k : ℕ). take k (splice at q t)) e)

-- one turn, by whether the place number at is spent
module _ (used : ℕ) (t₀ o₀ t o : List ℕ) (at kept : ℕ) (l : Left used t₀ o₀ t o at kept) (more : at < used)
    (all : used ≤ 16) (size : length t₀ ≡ 2240) (room : 64 ≤ length o₀) where
  p : List ℕ
  p = part (140 * at) 140 t

  ps : List (List ℕ)
  ps = drop (at + 1) (rows 140 used t)

  first : drop at (rows 140 used t) ≡ p ∷ ps
  unfolding p ps
  first = rows_next 140 used t at more

  turn-spent : spent p ≡ true → Left used t₀ o₀ t o (at + 1) kept
  unfolding ps
  turn-spent e =
      let after : ticked (drop at (rows 140 used t)) ≡ ticked ps = ap ticked first ∙ ticked-spent p ps e in
      let ids : listed (drop at (rows 140 used t)) ≡ listed ps = ap listed first ∙ listed-spent p ps e in
      record {
        low = omega arith;
        few = omega arith;
        size = l.size;
        room = l.room;
        count = l.count ∙ ap (λ (qs : List ℕ). kept + length qs) ids;
        table = l.table ∙ ap (λ (qs : List (List ℕ)). take (140 * kept) t ++ joined qs) after;
        list = l.list ∙ ap (λ (qs : List ℕ). splice (4 * kept) (id_bytes qs) o) ids;
        rest = l.rest;
      }

  q : List ℕ
  q = one_less p

  t' : List ℕ
  t' = splice (140 * kept) q t

  four : List ℕ
  four = digits_le 256 4 (id_of p)

  q-length : length q ≡ 140
  unfolding q p
  q-length = less-length (part (140 * at) 140 t) ∙ length_part (140 * at) 140 t (omega arith)

  -- what is left of the places does not change
  same : ps ≡ drop (at + 1) (rows 140 used t')
  unfolding ps t'
  same =
      let behind : drop (140 * (at + 1)) (splice (140 * kept) q t) ≡ drop (140 * (at + 1)) t =
      drop-behind (140 * kept) q t (140 * (at + 1)) (omega (arith, q-length)) (omega (arith, q-length)) in
      rows_drop 140 (at + 1) used t (omega arith)
      ∙ ap (rows 140 (used - (at + 1))) (sym behind)
      ∙ sym (rows_drop 140 (at + 1) used (splice (140 * kept) q t) (omega arith))

  turn-kept : spent p ≡ false → Left used t₀ o₀ t' (splice (4 * kept) four o) (at + 1) (kept + 1)
  unfolding t' q four id_bytes
  turn-kept e =
      let rest : List (List ℕ) = drop (at + 1) (rows 140 used t') in
      let after : ticked (drop at (rows 140 used t)) ≡ q ∷ ticked rest =
      ap ticked first ∙ ticked-kept p ps e ∙ ap (λ (qs : List (List ℕ)). q ∷ ticked qs) same in
      let ids : listed (drop at (rows 140 used t)) ≡ id_of p ∷ listed rest =
      ap listed first ∙ listed_kept p ps e ∙ ap (λ (qs : List (List ℕ)). id_of p ∷ listed qs) same in
      let counted : length (listed (rows 140 used t₀)) ≡ (kept + 1) + length (listed rest) =
      l.count ∙ ap (λ (qs : List ℕ). kept + length qs) ids ∙ one_more kept (id_of p) (listed rest) in
      let next : 140 * kept + length q ≡ 140 * (kept + 1) = omega (arith, q-length) in
      let next4 : 4 * kept + 4 ≡ 4 * (kept + 1) = omega arith in
      let len4 : length four ≡ 4 = length-digits_le 256 4 (id_of p) in
      let fits : 4 * kept + 4 + length (id_bytes (listed rest)) ≤ length o =
      omega (arith, ids_length (listed rest), counted, listed_few (rows 140 used t₀), rows-length 140 used t₀, l.room) in
      record {
        low = omega arith;
        few = omega arith;
        size = length-splice (140 * kept) q t (omega (arith, q-length)) ∙ l.size;
        room = length-splice (4 * kept) four o (omega arith) ∙ l.room;
        count = counted;
        table =
            l.table ∙ ap (λ (qs : List (List ℕ)). take (140 * kept) t ++ joined qs) after
            ∙ joined_more t (140 * kept) (140 * (kept + 1)) q (ticked rest) (omega (arith, q-length)) next;
        list =
            l.list ∙ ap (λ (qs : List ℕ). splice (4 * kept) (id_bytes qs) o) ids
            ∙ sym (splice_next (4 * kept) 4 four (id_bytes (listed rest)) o len4 fits)
            ∙ ap (λ (k : ℕ). splice k (id_bytes (listed rest)) (splice (4 * kept) four o)) next4;
        rest = drop-behind (140 * kept) q t (140 * used) (omega (arith, q-length)) (omega (arith, q-length)) ∙ l.rest;
      }

  pub turn : (b : Bool) → spent (part (140 * at) 140 t) ≡ b
      → Left used t₀ o₀
      (cond b t (splice (140 * kept) (one_less (part (140 * at) 140 t)) t))
      (cond b o (splice (4 * kept) (digits_le 256 4 (id_of (part (140 * at) 140 t))) o))
      (at + 1)
      (cond b kept (kept + 1))
  unfolding p q t' four
  turn true e = turn-spent e
  turn false e = turn-kept e

-- the end: nothing is left
module _ (used : ℕ) (t₀ o₀ t o : List ℕ) (at kept : ℕ) (l : Left used t₀ o₀ t o at kept) (done : used ≤ at) where
  none : drop at (rows 140 used t) ≡ []
  none = rows_end 140 used t at done

  pub end-count : kept ≡ length (listed (rows 140 used t₀))
  unfolding listed
  end-count = sym (l.count ∙ ap (λ (ps : List (List ℕ)). kept + length (listed ps)) none ∙ add-zero kept)

  pub end_list : o ≡ splice 0 (id_bytes (listed (rows 140 used t₀))) o₀
  unfolding listed id_bytes
  end_list = sym (l.list ∙ ap (λ (ps : List (List ℕ)). splice (4 * kept) (id_bytes (listed ps)) o) none ∙ splice_nil (4 * kept) o)

  end-table : take (140 * kept) t ≡ joined (ticked (rows 140 used t₀))
  unfolding ticked joined
  end-table = sym (l.table ∙ ap (λ (ps : List (List ℕ)). take (140 * kept) t ++ joined (ticked ps)) none ∙ append-nil (take (140 * kept) t))

  -- what was freed is cleared, and what was free is clear
  pub end-cleared : Laid 140 used t₀ → used ≤ 16 → length t₀ ≡ 2240
      → splice (140 * kept) (replicate (140 * used - 140 * kept) 0) t ≡ bytes_of 2240 (ticked (rows 140 used t₀))
  unfolding splice bytes_of
  end-cleared laid all size =
      let n : ℕ = 140 * used - 140 * kept in
      let zeros : List ℕ = replicate n 0 in
      let long : length zeros ≡ n = length-replicate {A = ℕ} n 0 in
      let next : 140 * kept + length zeros ≡ 140 * used = omega (arith, long, l.few, l.low, done) in
      let behind : drop (140 * used) t ≡ replicate (2240 - 140 * used) 0 =
      l.rest ∙ all_zeros (drop (140 * used) t₀) laid.clear
      ∙ ap (λ (k : ℕ). replicate {A = ℕ} k 0) (length-drop (140 * used) t₀ ∙ ap (λ (k : ℕ). k - 140 * used) size) in
      let whole : n + (2240 - 140 * used) ≡ 2240 - 140 * kept = omega (arith, l.few, l.low, done) in
      let front : 140 * kept ≡ length (joined (ticked (rows 140 used t₀))) =
      sym (length-take-le (140 * kept) t (omega (arith, l.size, l.few, l.low))) ∙ ap length end-table in
      ap (λ (k : ℕ). take (140 * kept) t ++ zeros ++ drop k t) next
      ∙ ap (λ (r : List ℕ). take (140 * kept) t ++ zeros ++ r) behind
      ∙ append_assoc (take (140 * kept) t) zeros (replicate (2240 - 140 * used) 0)
      ∙ ap (λ (r : List ℕ). take (140 * kept) t ++ r)
      (replicate-append-replicate n (2240 - 140 * used) 0 ∙ ap (λ (k : ℕ). replicate {A = ℕ} k 0) whole)
      ∙ ap₂ (λ (a : List ℕ) (m : ℕ). a ++ replicate (2240 - m) 0) end-table front
