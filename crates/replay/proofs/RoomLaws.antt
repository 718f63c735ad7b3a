-- The code's turns. In this order: what a record in the room wants; bytes put behind those that are there; a piece, run by run; the end of the
-- input; the numbers of a turn. Assumes nothing.
use mathlib.Core.Path.{◌≡◌, refl, sym, ap, ap₂, subst, ◌∙◌}
use mathlib.Core.Bool.{Bool, true, false, cond}
use mathlib.Core.List.{List, [], ◌++◌, append-nil}
use Prim.Native.Nat.{ℕ, ◌+◌, ◌-◌, ◌*◌, ◌≤◌, ◌<◌}
use native.Mathlib.Decide.{dec_lt}
use native.Mathlib.Omega.{arith}
use lib.Dec.{eqb}
use lib.ListN.{length, take, drop, length-append, take-append-drop, drop_of_length-le, replicate, length-replicate}
use lib.Seq.{length-take-le, take-take, drop-drop}
use borrow.Author.Tests.{eq-eqb, ne_eqb}
use Rattle.octet.specs.Number.{value_le}
use Rattle.octet.specs.Part.{part, splice}
use Rattle.octet.proofs.PartLaws.{length_part, take-splice, length-splice}
use Rattle.trace.specs.Fault.{ends}
use Rattle.night.specs.Step.{Night, Stepped, stepped, step_of}
use Rattle.night.specs.Replay.{line_of, at_end}
use Rattle.replay.specs.Text.{texts_of}
use Rattle.replay.specs.Stream.{Stream, stream, Fed, gives, after, wanted, is_whole, took, grown, fed, closing, closed}
use Rattle.replay.specs.Room.{Begun}
use Rattle.replay.proofs.StreamLaws.{wants-two, wants-told, wants_still, fed-over, fed-none, fed-run, fed_append, after-after}

-- ---- what is wanted

module _ (room : List ℕ) (begun : ℕ) (inside : begun ≤ length room) where
  long : length (take begun room) ≡ begun
  long = length-take-le begun room inside

  pub room-two : begun < 2 → 2 ≡ wanted (take begun room)
  room-two h = sym (wants-two (take begun room) (omega (arith, long)))

  pub room-told : (begun < 2 → ⊥) → 2 + value_le 256 (part 0 2 room) ≡ wanted (take begun room)
  room-told h =
      sym (wants-told (take begun room) (omega (arith, long)) ∙ ap (λ (l : List ℕ). 2 + value_le 256 l) (take-take 2 begun room (omega arith)))

at_most_by : (r xs : List ℕ) → length r + length xs ≤ wanted r → Dec (length r < 2) → Dec (length (r ++ xs) < 2) → length (r ++ xs) ≤ wanted (r ++ xs)
at_most_by r xs h e (yes q) = omega (arith, wants-two (r ++ xs) q)
at_most_by r xs h (yes p) (no q) = omega (arith, length-append r xs, wants-two r p, wants-told (r ++ xs) (omega arith))
at_most_by r xs h (no p) (no q) = omega (arith, length-append r xs, wants_still r xs (omega arith))

-- ---- bytes put behind those that are there

module _
    (at : ℕ) (n : Night) (room run : List ℕ) (begun : ℕ) (front : List ℕ) (some : 0 < length run) (inside : begun + length run ≤ length room)
    (few : begun + length run ≤ wanted (take begun room)) (after-it : List ℕ) (e : after-it ≡ splice begun run room) (want : ℕ)
    (w : want ≡ wanted (take (begun + length run) after-it))
  where
    there : length (take begun room) ≡ begun
    there = length-take-le begun room (omega arith)

    all : take (begun + length run) after-it ≡ take begun room ++ run
    all = ap (take (begun + length run)) e ∙ take-splice begun run room inside

    sized : length (take begun room ++ run) ≡ begun + length run
    sized = length-append (take begun room) run ∙ ap (λ (k : ℕ). k + length run) there

    whole_is : want ≡ wanted (take begun room ++ run)
    whole_is = w ∙ ap wanted all

    grew : fed (stream at n (take begun room) false) run ≡ grown (stream at n (take begun room) false) (take begun room ++ run)
    grew = fed-run at n (take begun room) run some (omega (arith, there))

    -- they are not all
    module _ (less : want ≡ begun + length run → ⊥) where
      not-whole : is_whole (take begun room ++ run) ≡ false
      not-whole = ne_eqb (length (take begun room ++ run)) (wanted (take begun room ++ run)) (λ q. less (omega (arith, q, sized, whole_is)))

      pub run-part : gives front (stream at n (take (begun + length run) after-it) false)
          ≡ after front (fed (stream at n (take begun room) false) run)
      run-part =
          let s = stream at n (take begun room) false in
          let r = take begun room ++ run in
          ap₂ (λ (t l : List ℕ). gives t (stream at n l false)) (sym (append-nil front)) all
          ∙ ap (λ (b : Bool). after front (cond b (took s r) (gives [] (stream at n r false)))) (sym not-whole)
          ∙ ap (after front) (sym grew)

      pub run-begun : 65537 ≤ length room → Begun (begun + length run) after-it
      run-begun h =
          let same : length after-it ≡ length room = ap length e ∙ length-splice begun run room inside in
          let r = take begun room ++ run in
          let most = at_most_by (take begun room) run (omega (arith, there)) (dec_lt (length (take begun room)) 2) (dec_lt (length r) 2) in
          record {
            roomy = omega (arith, same, h);
            inside = omega (arith, same, inside);
            partly = omega (arith, most, sized, w, whole_is, less);
          }

    -- they make it whole: it is one step
    pub run-whole : want ≡ begun + length run → (answer : ℕ) (n' : Night) (over : Bool) (text : List ℕ)
        → stepped answer n' ≡ step_of at n (take (begun + length run) after-it) → text ≡ front ++ texts_of (line_of at answer) → over ≡ ends answer
        → gives text (stream (at + 1) n' [] over) ≡ after front (fed (stream at n (take begun room) false) run)
    unfolding took
    run-whole q answer n' over text step t o =
        let s = stream at n (take begun room) false in
        let r = take begun room ++ run in
        let whole : is_whole r ≡ true = eq-eqb (length r) (wanted r) (sized ∙ sym q ∙ whole_is) in
        let there = step ∙ ap (step_of at n) all in
        ap₂ (λ (u : List ℕ) (b : Bool). gives u (stream (at + 1) n' [] b)) t o
        ∙ ap (λ (x : Stepped). gives (front ++ texts_of (line_of at x.answer)) (stream (at + 1) x.night [] (ends x.answer))) there
        ∙ ap (λ (b : Bool). after front (cond b (took s r) (gives [] (stream at n r false)))) (sym whole)
        ∙ ap (after front) (sym grew)

pub none_begun : (room : List ℕ) → 65537 ≤ length room → Begun 0 room
none_begun room h = record { roomy = h; inside = omega arith; partly = omega arith }

pub begun_at_0 : (k : ℕ) (room : List ℕ) → k ≡ 0 → 65537 ≤ length room → Begun k room
begun_at_0 k room z h = subst (λ (j : ℕ). Begun j room) (sym z) (none_begun room h)

-- ---- a piece, run by run

module _ (piece : List ℕ) (i next : ℕ) where
  -- the run and the rest
  cut : i ≤ next → drop i piece ≡ take (next - i) (drop i piece) ++ drop next piece
  cut h =
      let far : i + (next - i) ≡ next = omega arith in
      sym (take-append-drop (next - i) (drop i piece))
      ∙ ap (λ (l : List ℕ). take (next - i) (drop i piece) ++ l) (drop-drop (next - i) i piece ∙ ap (λ (k : ℕ). drop k piece) far)

  -- what is known of a run, for all that is left
  module _ (h : i ≤ next) (all : Fed) (front : List ℕ) (at : ℕ) (n : Night) (r : List ℕ) (over : Bool) where
    pub piece-turn : all ≡ after front (fed (stream at n r over) (drop i piece)) → over ≡ false → (text : List ℕ) (left : Stream)
        → gives text left ≡ after front (fed (stream at n r false) (take (next - i) (drop i piece))) → all ≡ after text (fed left (drop next piece))
    piece-turn e o text left q =
        let s = stream at n r false in
        let run = take (next - i) (drop i piece) in
        let rest = drop next piece in
        let f = fed s run in
        e ∙ ap (λ (b : Bool). after front (fed (stream at n r b) (drop i piece))) o ∙ ap (λ (l : List ℕ). after front (fed s l)) (cut h)
        ∙ ap (after front) (fed_append s run rest) ∙ after-after front f.text (fed f.left rest)
        ∙ ap (λ (g : Fed). after g.text (fed g.left rest)) (sym q)

module _ (piece : List ℕ) (i : ℕ) (all : Fed) (front : List ℕ) (at : ℕ) (n : Night) (r : List ℕ) (over : Bool)
    (e : all ≡ after front (fed (stream at n r over) (drop i piece))) where
  with_none : after front (gives [] (stream at n r over)) ≡ gives front (stream at n r over)
  with_none = ap (λ (t : List ℕ). gives t (stream at n r over)) (append-nil front)

  -- behind a bad record nothing more is looked at
  pub piece-over : over ≡ true → gives front (stream at n r over) ≡ all
  piece-over o =
      sym (e ∙ ap (λ (b : Bool). after front (fed (stream at n r b) (drop i piece))) o ∙ ap (after front) (fed-over at n r (drop i piece))
      ∙ ap (λ (b : Bool). after front (gives [] (stream at n r b))) (sym o) ∙ with_none)

  pub piece-end : length piece ≤ i → gives front (stream at n r over) ≡ all
  piece-end h =
      sym (e ∙ ap (λ (l : List ℕ). after front (fed (stream at n r over) l)) (drop_of_length-le piece {i = i} h)
      ∙ ap (after front) (fed-none (stream at n r over)) ∙ with_none)

-- ---- the end of the input

module _ (at : ℕ) (n : Night) (over : Bool) where
  pub close-over : (r : List ℕ) → over ≡ true → closing [] n ≡ closed (stream at n r over)
  unfolding closed
  close-over r o = rw o refl

  module _ (room : List ℕ) (begun : ℕ) (inside : begun ≤ length room) (o : over ≡ false) where
    pub close-none : (text : List ℕ) → begun ≡ 0 → text ≡ texts_of (at_end at) → closing text n ≡ closed (stream at n (take begun room) over)
    unfolding closed
    close-none text z t =
        let none : eqb (length (take begun room)) 0 ≡ true = eq-eqb (length (take begun room)) 0 (length-take-le begun room inside ∙ z) in
        rw (o, none) (ap (λ (l : List ℕ). closing l n) t)

    pub close-some : (text : List ℕ) (answer : ℕ) (n' : Night) → (begun ≡ 0 → ⊥) → stepped answer n' ≡ step_of at n (take begun room)
        → text ≡ texts_of (line_of at answer) → closing text n' ≡ closed (stream at n (take begun room) over)
    unfolding closed took
    close-some text answer n' z step t =
        let l = length-take-le begun room inside in
        let there : eqb (length (take begun room)) 0 ≡ false = ne_eqb (length (take begun room)) 0 (λ q. z (sym l ∙ q)) in
        rw (o, there) (ap (λ (l : List ℕ). closing l n') t ∙ ap (λ (x : Stepped). closing (texts_of (line_of at x.answer)) x.night) step)

-- ---- the numbers of a turn

-- bytes of a run, and where they end
module _ (room begun run : ℕ) (all : 65537 ≤ room) (some : begun + run ≤ 65537) where
  pub in-room : begun + run ≤ room
  in-room = omega arith

  pub in-new-room : (new : ℕ) → new ≡ room → begun + run ≤ new
  in-new-room new e = omega arith

pub still_roomy : (room new : ℕ) → 65537 ≤ room → new ≡ room → 65537 ≤ new
still_roomy room new h e = omega arith

-- a run of k bytes from place i of a piece: there is one at least, and all are wanted
pub record Run (i k long begun want : ℕ) : Type 0 where
  pub inside : i < long
  pub some : 0 < k
  pub rest : i + k ≤ long
  pub few : begun + k ≤ want

pub run_of_lem : (i k long begun want want' : ℕ) → i < long → k ≤ want - begun → k ≤ long - i → want ≡ want' → begun < want'
    → (0 < want - begun → 0 < long - i → 0 < k) → Run i k long begun want
run_of_lem i k long begun want want' p few rest w partly asked =
    record { inside = p; some = asked (omega arith) (omega arith); rest = omega arith; few = omega arith }

module _ {i k long begun want : ℕ} (r : Run i k long begun want) where
  pub run-closer : long - (i + k) < long - i
  run-closer = omega arith

  -- it is not empty, the record and the room have room for it; there is room for a line, and a number for the next record
  pub run-asks : (run want' end text text₀ at at₀ : ℕ) → run ≡ k → want ≡ want' → want ≤ 65537 → end ≤ 42 * i → text ≡ text₀ → 42 * long ≤ text₀
      → at ≤ at₀ + i → at₀ + long < 18446744073709551616
      → (0 < run) × ((begun + run ≤ 65537) × ((begun + run ≤ want') × ((end + 42 ≤ text) × (at + 1 < 18446744073709551616))))
  run-asks run want' end text text₀ at at₀ e w most line same room number count =
      (omega arith, (omega arith, (omega arith, (omega arith, omega arith))))

  -- a line for each byte is enough, and a number too
  pub run-lines : (end end' : ℕ) → end ≤ 42 * i → end' ≤ end + 42 → end' ≤ 42 * (i + k)
  run-lines end end' p q = omega arith

  pub run-numbers : (at at' at₀ : ℕ) → at ≤ at₀ + i → at' ≤ at + 1 → at' ≤ at₀ + (i + k)
  run-numbers at at' at₀ p q = omega arith

pub length_run : (piece : List ℕ) (i k : ℕ) → i + k ≤ length piece → length (take (i + k - i) (drop i piece)) ≡ k
length_run piece i k h =
    let same : i + k - i ≡ k = omega arith in
    length_part i (i + k - i) piece (omega arith) ∙ same

pub up_to : (n k : ℕ) → n ≤ n + k
up_to n k = omega arith

pub le_refl : (n : ℕ) → n ≤ n
le_refl n = omega arith

pub at_piece_end : (i long end text text₀ : ℕ) → i ≤ long → end ≤ 42 * i → 42 * long ≤ text₀ → text ≡ text₀ → end ≤ text
at_piece_end i long end text text₀ p q h e = omega arith

pub up_to_end : (at at₀ i long : ℕ) → i ≤ long → at ≤ at₀ + i → at ≤ at₀ + long
up_to_end at at₀ i long p q = omega arith

-- the slices of the program
pub zeros : (n : ℕ) → n ≡ length (replicate {A = ℕ} n 0)
zeros n = sym (length-replicate {A = ℕ} n 0)

pub start_at : (at : ℕ) → at ≡ 0 → at ≤ 4096 * 0
start_at at e = omega arith

pub roomy_by : (room : ℕ) → 65537 ≡ room → 65537 ≤ room
roomy_by room e = omega arith

pub line_by : (text : ℕ) → 172032 ≡ text → 42 ≤ text
line_by text e = omega arith

-- n bytes of a piece that were read
module _ (n got piece piece₀ : ℕ) (few : n ≤ piece) (all : n ≡ got) (same : piece ≡ piece₀) (size : 4096 ≡ piece₀) where
  pub read-text : (text : ℕ) → 172032 ≡ text → 42 * got ≤ text
  read-text text e = omega arith

  module _ (at reads : ℕ) (so_far : at ≤ 4096 * reads) where
    pub read_count : reads < 4503599627370495 → at + got < 18446744073709551616
    read_count h = omega arith

    pub read-numbers : (at' : ℕ) → at' ≤ at + got → at' ≤ 4096 * (reads + 1)
    read-numbers at' h = omega arith

pub reads_closer : (reads : ℕ) → reads < 4503599627370495 → 4503599627370495 - (reads + 1) < 4503599627370495 - reads
reads_closer reads h = omega arith
