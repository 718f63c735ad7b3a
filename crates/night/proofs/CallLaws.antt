-- A record's call is the gauge's. In this order: what is taken out of the night's slice and put back into it; what a call hands back is what its
-- record tells; the call of each kind. Assumes nothing.
use mathlib.Core.Path.{◌≡◌, refl, sym, ap, ap₂, ◌∙◌}
use mathlib.Core.List.{List, [], ◌∷◌, ◌++◌}
use Prim.Native.Nat.{ℕ, ◌+◌, ◌-◌, ◌≤◌}
use native.Mathlib.Omega.{arith}
use lib.ListN.{length, take, drop, get_or, replicate, take-append-drop, length-drop, length-replicate}
use lib.Seq.{take_all, take-take, take-append-le, take-add, drop-drop, drop_at, get_or-drop, length-take-le}
use borrow.Author.Tests.{eq-eqb, ne_eqb}
use Rattle.octet.specs.Number.{value_le}
use Rattle.octet.specs.Part.{part, splice}
use Rattle.octet.proofs.PartLaws.{length_part, splice_whole, length-splice, part-splice, take-splice, drop-splice}
use Rattle.gauge_plan.specs.Lent.{Memory, memory, with_cache, with_firsts, with_waiting, with_tables, receive, send, tick, Call, receives, sends, ticks}
use Rattle.gauge_commit.specs.declared.Answer.{Answer}
use Rattle.gauge_commit.specs.Sending.{Handed, handed}
use Rattle.gauge.specs.Ours.{ours}
use Rattle.night.specs.Step.{night_in, state_len, major_of, minor_of, night_own, output, received, sent, ticked, call_of, Night, night}
use Rattle.night.specs.Told.{told, called_told}

-- ---- what stands before and behind a part that is written

module _ (at : ℕ) (xs s : List ℕ) (h : at + length xs ≤ length s) where
  abbrev left : List ℕ
  left = splice at xs s

  kept-behind : (k : ℕ) → drop (at + length xs + k) left ≡ drop (at + length xs + k) s
  kept-behind k = sym (drop-drop k (at + length xs) left) ∙ ap (drop k) (drop-splice at xs s h) ∙ drop-drop k (at + length xs) s

  kept-front : take at left ≡ take at s
  kept-front =
      sym (take-take at (at + length xs) left (omega arith)) ∙ ap (take at) (take-splice at xs s h)
      ∙ take-append-le at (take at s) xs (omega (arith, length-take-le at s (omega arith))) ∙ take-take at at s (omega arith)

  -- the rest of the list
  written_last : at + length xs ≡ length s → drop at left ≡ xs
  written_last e =
      sym (take_all (length xs) (drop at left) (omega (arith, length-drop at left, length-splice at xs s h))) ∙ part-splice at xs s h

-- a part of the first k
part-take : (a n k : ℕ) (s : List ℕ) → a + n ≤ k → k ≤ length s → take n (drop a (take k s)) ≡ part a n s
part-take a n k s h w =
    let cut : take k s ≡ take a s ++ take (k - a) (drop a s) = ap (λ (j : ℕ). take j s) (let e : k ≡ a + (k - a) = omega arith in e) ∙ take-add a (k - a) s in
    ap (λ (x : List ℕ). take n (drop a x)) cut
    ∙ ap (take n) (drop_at (take a s) (take (k - a) (drop a s)) a (length-take-le a s (omega arith)))
    ∙ take-take n (k - a) (drop a s) (omega arith)

kept-part : (a n at : ℕ) (xs s : List ℕ) → a + n ≤ at → at + length xs ≤ length s → part a n (splice at xs s) ≡ part a n s
kept-part a n at xs s w h =
    sym (part-take a n at (splice at xs s) w (omega (arith, length-splice at xs s h)))
    ∙ ap (λ (x : List ℕ). take n (drop a x)) (kept-front at xs s h) ∙ part-take a n at s w (omega arith)

kept_from : (a at : ℕ) (xs s : List ℕ) → at + length xs ≤ a → at + length xs ≤ length s → drop a (splice at xs s) ≡ drop a s
kept_from a at xs s w h =
    let e : at + length xs + (a - (at + length xs)) ≡ a = omega arith in
    ap (λ (j : ℕ). drop j (splice at xs s)) (sym e) ∙ kept-behind at xs s h (a - (at + length xs)) ∙ ap (λ (j : ℕ). drop j s) e

-- what stands at a part, and what behind it
piece : (at n : ℕ) (s : List ℕ) → part at n s ++ drop (at + n) s ≡ drop at s
piece at n s = ap (λ (x : List ℕ). part at n s ++ x) (sym (drop-drop n at s)) ∙ take-append-drop n (drop at s)

-- ---- the night's slice

-- a part taken out into zeros of its length
pub taken_out : (at n : ℕ) (s : List ℕ) → at + n ≤ length s → splice 0 (part at n s) (replicate n 0) ≡ part at n s
taken_out at n s h = splice_whole (part at n s) (replicate n 0) (length_part at n s h ∙ sym (length-replicate {A = ℕ} n 0))

-- another length, and the opening has another
pub opening_unfit : (s : List ℕ) → (length s ≡ state_len → ⊥) → length (night_in s).opening ≡ 102 → ⊥
opening_unfit s u e = u (omega (arith, e, length-drop 9152 s))

same-night : {o o' c c' f f' w w' : List ℕ} → o ≡ o' → c ≡ c' → f ≡ f' → w ≡ w' → night o (memory c f w) ≡ night o' (memory c' f' w')
same-night o c f w = λ i. night (o i) (memory (c i) (f i) (w i))

module _ (s : List ℕ) (fit : length s ≡ 9254) where
  -- versions and own record as they stand there
  pub own-taken : take (length s - 9154) (drop 9154 s) ≡ night_own (night_in s).opening
  own-taken = ap₂ take (let e : length s - 9154 ≡ 100 = omega (arith, fit) in e) (sym (drop-drop 2 9152 s))

  pub own-copied : splice 0 (take (length s - 9154) (drop 9154 s)) (replicate 100 0) ≡ night_own (night_in s).opening
  own-copied =
      splice_whole (take (length s - 9154) (drop 9154 s)) (replicate 100 0)
      (omega (arith, fit, length-take-le (length s - 9154) (drop 9154 s) (omega (arith, length-drop 9154 s)), length-replicate {A = ℕ} 100 0))
      ∙ own-taken

  pub major-taken : get_or s 9152 0 ≡ major_of (night_in s).opening
  major-taken = sym (get_or-drop 9152 s 0 0)

  pub minor-taken : get_or s 9153 0 ≡ minor_of (night_in s).opening
  minor-taken = sym (get_or-drop 9152 s 1 0)

  pub opening-fits : length (night_in s).opening ≡ 102
  opening-fits = omega (arith, fit, length-drop 9152 s)

  -- what is written back: the cache; the counts by first byte; the waiting table; the opening
  cache-back : (c : List ℕ) → length c ≡ 6400 → night_in (splice 0 c s) ≡ night (night_in s).opening (with_cache c (night_in s).memory)
  cache-back c e =
      let h : 0 + length c ≤ length s = omega (arith, e, fit) in
      let here : part 0 6400 (splice 0 c s) ≡ c = rw e at (part-splice 0 c s h) in
      let counts = ap (take 512) (kept_from 6400 0 c s (omega (arith, e)) h) in
      let table = ap (take 2240) (kept_from 6912 0 c s (omega (arith, e)) h) in
      same-night (kept_from 9152 0 c s (omega (arith, e)) h) here counts table

  firsts-back : (f : List ℕ) → length f ≡ 512 → night_in (splice 6400 f s) ≡ night (night_in s).opening (with_firsts f (night_in s).memory)
  firsts-back f e =
      let h : 6400 + length f ≤ length s = omega (arith, e, fit) in
      let here : part 6400 512 (splice 6400 f s) ≡ f = rw e at (part-splice 6400 f s h) in
      let table = ap (take 2240) (kept_from 6912 6400 f s (omega (arith, e)) h) in
      same-night (kept_from 9152 6400 f s (omega (arith, e)) h) (kept-part 0 6400 6400 f s (omega arith) h) here table

  waiting-back : (w : List ℕ) → length w ≡ 2240 → night_in (splice 6912 w s) ≡ night (night_in s).opening (with_waiting w (night_in s).memory)
  waiting-back w e =
      let h : 6912 + length w ≤ length s = omega (arith, e, fit) in
      let here : part 6912 2240 (splice 6912 w s) ≡ w = rw e at (part-splice 6912 w s h) in
      same-night (kept_from 9152 6912 w s (omega (arith, e)) h) (kept-part 0 6400 6912 w s (omega arith) h) (kept-part 6400 512 6912 w s (omega arith) h) here

  pub opening-back : (o : List ℕ) → length o ≡ 102 → night_in (splice 9152 o s) ≡ night o (night_in s).memory
  opening-back o e =
      let h : 9152 + length o ≤ length s = omega (arith, e, fit) in
      same-night (written_last 9152 o s h (omega (arith, e, fit))) (kept-part 0 6400 9152 o s (omega arith) h) (kept-part 6400 512 9152 o s (omega arith) h)
      (kept-part 6912 2240 9152 o s (omega arith) h)

-- slices of one night have the same bytes
whole : (s : List ℕ) → part 0 6400 s ++ (part 6400 512 s ++ (part 6912 2240 s ++ drop 9152 s)) ≡ s
whole s =
    ap (λ (x : List ℕ). part 0 6400 s ++ (part 6400 512 s ++ x)) (piece 6912 2240 s)
    ∙ ap (λ (x : List ℕ). part 0 6400 s ++ x) (piece 6400 512 s) ∙ take-append-drop 6400 s

pub night_one : (s t : List ℕ) → night_in s ≡ night_in t → s ≡ t
night_one s t e =
    sym (whole s) ∙ ap (λ (n : Night). n.memory.cache ++ (n.memory.firsts ++ (n.memory.waiting ++ n.opening))) e ∙ whole t

tables_back : (s : List ℕ) → length s ≡ 9254 → (c f w : List ℕ) → length c ≡ 6400 → length f ≡ 512 → length w ≡ 2240
    → night_in (splice 6912 w (splice 6400 f (splice 0 c s))) ≡ night (night_in s).opening (memory c f w)
tables_back s fit c f w d e g =
    let first : length (splice 0 c s) ≡ 9254 = length-splice 0 c s (omega (arith, d, fit)) ∙ fit in
    let second : length (splice 6400 f (splice 0 c s)) ≡ 9254 = length-splice 6400 f (splice 0 c s) (omega (arith, e, first)) ∙ first in
    waiting-back (splice 6400 f (splice 0 c s)) second w g
    ∙ ap (λ (n : Night). night n.opening (with_waiting w n.memory)) (firsts-back (splice 0 c s) first f e)
    ∙ ap (λ (n : Night). night n.opening (with_waiting w (with_firsts f n.memory))) (cache-back s fit c d)

-- ---- what each call hands back is what the record tells

call_made : (n : Night) (h : Handed) (c : Call) → h ≡ ours n.memory c → told h.answer (night n.opening h.memory) h.output ≡ called_told n c
unfolding called_told
call_made n h c e = ap (λ (x : Handed). told x.answer (night n.opening x.memory) x.output) e

-- c, f, w and those with a stroke: cache, counts and waiting table as lent and as left; lent and out: the output
module _ (s : List ℕ) (fit : length s ≡ 9254) (a : Answer) (lent out : List ℕ) (cleared : lent ≡ output) (own w w' after : List ℕ)
    (owned : own ≡ night_own (night_in s).opening) (tabled : w ≡ part 6912 2240 s) (sized : length w' ≡ length w) where
  table-size : length w' ≡ 2240
  table-size = sized ∙ ap length tabled ∙ length_part 6912 2240 s (omega (arith, fit))

  pub tick-called : after ≡ splice 6912 w' s
      → handed a (with_waiting w' (night_in s).memory) out ≡ ours (with_waiting w (night_in s).memory) (ticks (tick own lent))
      → told a (night_in after) out ≡ called_told (night_in s) (ticked (night_in s).opening)
  tick-called back e =
      ap (λ (x : List ℕ). told a (night_in x) out) back ∙ ap (λ (n : Night). told a n out) (waiting-back s fit w' table-size)
      ∙ call_made (night_in s) (handed a (with_waiting w' (night_in s).memory) out) (ticked (night_in s).opening) (rw (owned, tabled, cleared) at e)

  module _ (body : List ℕ) (major minor id : ℕ) (first : major ≡ major_of (night_in s).opening) (second : minor ≡ minor_of (night_in s).opening)
      (ided : id ≡ value_le 256 (part 0 4 body)) where
    pub send-called : after ≡ splice 6912 w' s
        → handed a (with_tables (part 0 6400 s) w' (night_in s).memory) out
        ≡ ours (with_tables (part 0 6400 s) w (night_in s).memory) (sends (send own major minor id (part 4 32 body) (part 36 32 body) lent))
        → told a (night_in after) out ≡ called_told (night_in s) (sent (night_in s).opening body)
    send-called back e =
        ap (λ (x : List ℕ). told a (night_in x) out) back ∙ ap (λ (n : Night). told a n out) (waiting-back s fit w' table-size)
        ∙ call_made (night_in s) (handed a (with_waiting w' (night_in s).memory) out) (sent (night_in s).opening body)
        (rw (owned, tabled, first, second, ided, cleared) at e)

    pub receive-called : (c c' f f' : List ℕ) (verdict : ℕ) (datagram : List ℕ) → verdict ≡ get_or body 4 0 → datagram ≡ drop 53 body
        → c ≡ part 0 6400 s → length c' ≡ length c → f ≡ part 6400 512 s → length f' ≡ length f → after ≡ splice 6912 w' (splice 6400 f' (splice 0 c' s))
        → handed a (memory c' f' w') out
        ≡ ours (memory c f w) (receives (receive own (1 ∷ 0 ∷ 0 ∷ []) major minor id (part 37 16 body) verdict (part 5 32 body) datagram lent))
        → told a (night_in after) out ≡ called_told (night_in s) (received (night_in s).opening body)
    receive-called c c' f f' verdict datagram judged heard cached kept counted same back e =
        ap (λ (x : List ℕ). told a (night_in x) out) back
        ∙ ap (λ (n : Night). told a n out)
        (tables_back s fit c' f' w' (kept ∙ ap length cached ∙ length_part 0 6400 s (omega (arith, fit)))
        (same ∙ ap length counted ∙ length_part 6400 512 s (omega (arith, fit))) table-size)
        ∙ call_made (night_in s) (handed a (memory c' f' w') out) (received (night_in s).opening body)
        (rw (owned, cached, counted, tabled, first, second, ided, judged, heard, cleared) at e)

-- ---- by the kind

module _ (o : List ℕ) (kind : ℕ) (body : List ℕ) where
  pub call-1 : kind ≡ 1 → received o body ≡ call_of o kind body
  call-1 e = simp (eq-eqb _ _ e) refl

  pub call-2 : (kind ≡ 1 → ⊥) → kind ≡ 2 → sent o body ≡ call_of o kind body
  call-2 n e = simp (ne_eqb _ _ n, eq-eqb _ _ e) refl

  pub call-3 : (kind ≡ 1 → ⊥) → (kind ≡ 2 → ⊥) → ticked o ≡ call_of o kind body
  call-3 n m = simp (ne_eqb _ _ n, ne_eqb _ _ m) refl
