-- A trace that arrives in pieces. In this order: records that are not whole, and what they want; a byte more; a run of bytes of one record;
-- pieces joined; what is written in the end is the replay of all. Assumes nothing.
use mathlib.Core.Path.{◌≡◌, refl, sym, ap, ap₂, ◌∙◌}
use mathlib.Core.Bool.{Bool, true, false, cond}
use mathlib.Core.List.{List, [], ◌∷◌, ◌++◌, append_assoc, append-nil}
use Prim.Native.Nat.{ℕ, zero, suc, ◌+◌, ◌≤◌, ◌<◌}
use native.Mathlib.Decide.{dec_lt}
use native.Mathlib.Omega.{arith}
use lib.ListN.{length, length-append, drop_of_length-le}
use lib.Seq.{take-append-le, take_at, drop_at, take_all}
use borrow.Author.Tests.{ne_eqb, lt-ltb, le-ltb, eqb-true, eqb-false}
use Rattle.octet.specs.Number.{value_le}
use Rattle.table.specs.Rows.{joined}
use Rattle.trace.specs.Trace.{length_of, cut_into}
use Rattle.trace.specs.Fault.{ends}
use Rattle.night.specs.Step.{Night, start, step_of}
use Rattle.night.specs.Replay.{Line, line_of, at_end, behind, replay_from, Replayed, replay}
use Rattle.night.proofs.TraceLaws.{cut_next}
use Rattle.night.proofs.ReplayLaws.{at_end_lem, goes_on, ends_there}
use Rattle.replay.specs.Text.{text_of, texts_of}
use Rattle.replay.specs.Stream.{Stream, stream, opened, Fed, gives, after, wanted, is_whole, took, grown, fed, fed_all, Closed, closing, closed}
use Rattle.replay.specs.Statements.{Streams}

-- ---- what a record wants

module _ (r : List ℕ) where
  pub wants-two : length r < 2 → wanted r ≡ 2
  wants-two h = rw (lt-ltb (length r) 2 h) refl

  pub wants-told : 2 ≤ length r → wanted r ≡ 2 + length_of r
  wants-told h = rw (le-ltb (length r) 2 h) refl

  -- the two bytes of the length stand in front
  pub told-still : (more : List ℕ) → 2 ≤ length r → length_of (r ++ more) ≡ length_of r
  told-still more h = ap (λ (l : List ℕ). value_le 256 l) (take-append-le 2 r more h)

-- behind them, more bytes change nothing
pub wants_still : (r more : List ℕ) → 2 ≤ length r → wanted (r ++ more) ≡ wanted r
wants_still r more h =
    wants-told (r ++ more) (omega (arith, length-append r more)) ∙ ap (λ (n : ℕ). 2 + n) (told-still r more h) ∙ sym (wants-told r h)

snoc : (r : List ℕ) (b : ℕ) → length (r ++ (b ∷ [])) ≡ length r + 1
snoc r b = length-append r (b ∷ [])

at_most_by : (r : List ℕ) (b : ℕ) → length r < wanted r → Dec (length r < 1) → Dec (length r < 2) → length (r ++ (b ∷ [])) ≤ wanted (r ++ (b ∷ []))
at_most_by r b h (yes p) e = omega (arith, snoc r b, wants-two (r ++ (b ∷ [])) (omega (arith, snoc r b)))
at_most_by r b h (no p) (yes q) = omega (arith, snoc r b, wants-told (r ++ (b ∷ [])) (omega (arith, snoc r b)))
at_most_by r b h (no p) (no q) = omega (arith, snoc r b, wants_still r (b ∷ []) (omega arith))

-- a byte more is at most all that is wanted
pub at_most : (r : List ℕ) (b : ℕ) → length r < wanted r → length (r ++ (b ∷ [])) ≤ wanted (r ++ (b ∷ []))
at_most r b h = at_most_by r b h (dec_lt (length r) 1) (dec_lt (length r) 2)

pub still_partly : (r : List ℕ) (b : ℕ) → length r < wanted r → is_whole (r ++ (b ∷ [])) ≡ false → length (r ++ (b ∷ [])) < wanted (r ++ (b ∷ []))
still_partly r b h e = omega (arith, at_most r b h, eqb-false (length (r ++ (b ∷ []))) (wanted (r ++ (b ∷ []))) e)

-- with two more wanted, one is not enough, and as many are wanted as before
more_by : (r : List ℕ) (b : ℕ) → length r + 1 < wanted r → Dec (length r < 2)
    → (length (r ++ (b ∷ [])) < wanted (r ++ (b ∷ []))) × (wanted (r ++ (b ∷ [])) ≡ wanted r)
more_by r b h (yes p) =
    let w = wants-two r p in
    let v = wants-two (r ++ (b ∷ [])) (omega (arith, snoc r b)) in
    (omega (arith, snoc r b), v ∙ sym w)
more_by r b h (no p) =
    let w = wants_still r (b ∷ []) (omega arith) in
    (omega (arith, snoc r b), w)

pub whole_long : (r : List ℕ) → is_whole r ≡ true → 2 ≤ length r
whole_long r e = by (dec_lt (length r) 2)
  where
    by : Dec (length r < 2) → 2 ≤ length r
    by (yes p) = absurd (omega (arith, eqb-true (length r) (wanted r) e, wants-two r p))
    by (no p) = omega arith

-- ---- a byte more

module _ (at : ℕ) (n : Night) (r : List ℕ) where
  pub fed-over : (bytes : List ℕ) → fed (stream at n r true) bytes ≡ gives [] (stream at n r true)
  unfolding fed
  fed-over [] = refl
  fed-over (b ∷ bs) = refl

  pub fed-part : (b : ℕ) (bs : List ℕ) → is_whole (r ++ (b ∷ [])) ≡ false
      → fed (stream at n r false) (b ∷ bs) ≡ fed (stream at n (r ++ (b ∷ [])) false) bs
  unfolding fed
  fed-part b bs e = rw e refl

  pub fed-whole : (b : ℕ) (bs : List ℕ) → is_whole (r ++ (b ∷ [])) ≡ true
      → (let f = took (stream at n r false) (r ++ (b ∷ [])) in fed (stream at n r false) (b ∷ bs) ≡ after f.text (fed f.left bs))
  unfolding fed
  fed-whole b bs e = rw e refl

-- ---- a run of bytes, of one record

pub fed-none : (s : Stream) → fed s [] ≡ gives [] s
unfolding fed
fed-none s = refl

module _ (at : ℕ) (n : Night) where
  -- what was begun with the record does not change what the record gives
  pub took-still : (r r' x : List ℕ) → took (stream at n r false) x ≡ took (stream at n r' false) x
  unfolding took
  took-still r r' x = refl

  one-by : (r : List ℕ) (b : ℕ) (w : Bool) → is_whole (r ++ (b ∷ [])) ≡ w
      → fed (stream at n r false) (b ∷ []) ≡ cond w (took (stream at n r false) (r ++ (b ∷ []))) (gives [] (stream at n (r ++ (b ∷ [])) false))
  one-by r b true e =
      let f = took (stream at n r false) (r ++ (b ∷ [])) in
      fed-whole at n r b [] e ∙ ap (after f.text) (fed-none f.left) ∙ ap (λ (t : List ℕ). gives t f.left) (append-nil f.text)
  one-by r b false e = fed-part at n r b [] e ∙ fed-none (stream at n (r ++ (b ∷ [])) false)

  -- bytes that are wanted all belong to the record
  pub fed-run : (r xs : List ℕ) → 0 < length xs → length r + length xs ≤ wanted r
      → fed (stream at n r false) xs ≡ grown (stream at n r false) (r ++ xs)
  fed-run r [] p h = absurd (omega arith)
  fed-run r (x ∷ []) p h = one-by r x (is_whole (r ++ (x ∷ []))) refl
  fed-run r (x ∷ y ∷ ys) p h =
      let q = more_by r x (omega arith) (dec_lt (length r) 2) in
      let r' = r ++ (x ∷ []) in
      let rest : r' ++ (y ∷ ys) ≡ r ++ (x ∷ y ∷ ys) = append_assoc r (x ∷ []) (y ∷ ys) in
      let small : length r' + length (y ∷ ys) ≤ wanted r' = omega (arith, snoc r x, q.1) in
      let unfinished : is_whole r' ≡ false = ne_eqb (length r') (wanted r') (λ e. omega (arith, q.0, e)) in
      fed-part at n r x (y ∷ ys) unfinished ∙ fed-run r' (y ∷ ys) (omega arith) small
      ∙ ap (λ (l : List ℕ). cond (is_whole l) (took (stream at n r' false) l) (gives [] (stream at n l false))) rest
      ∙ ap (λ (f : Fed). cond (is_whole (r ++ (x ∷ y ∷ ys))) f (gives [] (stream at n (r ++ (x ∷ y ∷ ys)) false)))
      (took-still r' r (r ++ (x ∷ y ∷ ys)))

-- ---- pieces joined

pub after-after : (t u : List ℕ) (f : Fed) → after t (after u f) ≡ after (t ++ u) f
after-after t u f = ap (λ (l : List ℕ). gives l f.left) (sym (append_assoc t u f.text))

module _ (s : Stream) where
  over-still : (bytes : List ℕ) → s.over ≡ true → fed s bytes ≡ gives [] s
  unfolding fed
  over-still [] e = refl
  over-still (b ∷ bs) e = rw e refl

  fed-byte : (b : ℕ) (bs : List ℕ) → s.over ≡ false → (let f = grown s (s.begun ++ (b ∷ [])) in fed s (b ∷ bs) ≡ after f.text (fed f.left bs))
  unfolding fed
  fed-byte b bs e = rw e refl

pub fed_append : (s : Stream) (xs ys : List ℕ) → fed s (xs ++ ys) ≡ after (fed s xs).text (fed (fed s xs).left ys)
fed_append s [] ys = ap (λ (f : Fed). after f.text (fed f.left ys)) (sym (fed-none s))
fed_append s (x ∷ xs) ys = by s.over refl (fed_append (grown s (s.begun ++ (x ∷ []))).left xs ys)
  where
    by : (o : Bool) → s.over ≡ o
        → (let g = (grown s (s.begun ++ (x ∷ []))).left in fed g (xs ++ ys) ≡ after (fed g xs).text (fed (fed g xs).left ys))
        → fed s (x ∷ (xs ++ ys)) ≡ after (fed s (x ∷ xs)).text (fed (fed s (x ∷ xs)).left ys)
    by true e h =
        over-still s (x ∷ (xs ++ ys)) e ∙ sym (over-still s ys e)
        ∙ ap (λ (f : Fed). after f.text (fed f.left ys)) (sym (over-still s (x ∷ xs) e))
    by false e h =
        let f = grown s (s.begun ++ (x ∷ [])) in
        fed-byte s x (xs ++ ys) e ∙ ap (after f.text) h
        ∙ after-after f.text (fed f.left xs).text (fed (fed f.left xs).left ys)
        ∙ ap (λ (g : Fed). after g.text (fed g.left ys)) (sym (fed-byte s x xs e))

pub fed_all_lem : (s : Stream) (cs : List (List ℕ)) → fed_all s cs ≡ fed s (joined cs)
unfolding fed_all joined
fed_all_lem s [] = sym (fed-none s)
fed_all_lem s (c ∷ cs) = ap (after (fed s c).text) (fed_all_lem (fed s c).left cs) ∙ sym (fed_append s c (joined cs))

-- ---- the replay of all

texts_append : (ls ms : List Line) → texts_of (ls ++ ms) ≡ texts_of ls ++ texts_of ms
unfolding texts_of
texts_append [] ms = refl
texts_append (l ∷ ls) ms = ap (λ (t : List ℕ). text_of l ++ t) (texts_append ls ms) ∙ sym (append_assoc (text_of l) (texts_of ls) (texts_of ms))

-- the whole text and the night, of what was fed and is closed then, and of a replay
abbrev ending : Fed → Closed
ending f = closing (f.text ++ (closed f.left).text) (closed f.left).night

abbrev told : Replayed → Closed
told x = closing (texts_of x.lines) x.night

abbrev put : List ℕ → Closed → Closed
put t c = closing (t ++ c.text) c.night

ending_after : (t : List ℕ) (f : Fed) → ending (after t f) ≡ put t (ending f)
ending_after t f = ap (λ (l : List ℕ). closing l (closed f.left).night) (append_assoc t f.text (closed f.left).text)

told_behind_lem : (ls : List Line) (x : Replayed) → told (behind ls x) ≡ put (texts_of ls) (told x)
told_behind_lem ls x = ap (λ (l : List ℕ). closing l x.night) (texts_append ls x.lines)

cut_none : (k : ℕ) → cut_into k [] ≡ []
unfolding cut_into
cut_none zero = refl
cut_none (suc k) = refl

not_more : (r : List ℕ) → length r ≤ wanted r → length r ≤ 2 + length_of r
not_more r h = by (dec_lt (length r) 2)
  where
    by : Dec (length r < 2) → length r ≤ 2 + length_of r
    by (yes p) = omega arith
    by (no p) = omega (arith, wants-told r (omega arith))

-- the record that is not whole is the last
cut_last : (k : ℕ) (r : List ℕ) → 0 < length r → length r ≤ k → length r ≤ wanted r → cut_into k r ≡ r ∷ []
cut_last zero r p h w = absurd (omega arith)
cut_last (suc k) r p h w =
    let n = 2 + length_of r in
    let m : length r ≤ n = not_more r w in
    cut_next k r p ∙ ap₂ (λ (a b : List ℕ). a ∷ cut_into k b) (take_all n r m) (drop_of_length-le r {i = n} m)
    ∙ ap (λ (l : List (List ℕ)). r ∷ l) (cut_none k)

-- a whole one stands in front of the rest
cut_front : (k : ℕ) (r rest : List ℕ) → is_whole r ≡ true → cut_into (suc k) (r ++ rest) ≡ r ∷ cut_into k rest
cut_front k r rest e =
    let two = whole_long r e in
    let same : length r ≡ 2 + length_of (r ++ rest) =
    eqb-true (length r) (wanted r) e ∙ wants-told r two ∙ ap (λ (m : ℕ). 2 + m) (sym (told-still r rest two)) in
    cut_next k (r ++ rest) (omega (arith, two, length-append r rest))
    ∙ ap₂ (λ (a b : List ℕ). a ∷ cut_into k b) (take_at r rest (2 + length_of (r ++ rest)) same) (drop_at r rest (2 + length_of (r ++ rest)) same)

closed_over : (at : ℕ) (n : Night) (r : List ℕ) → closed (stream at n r true) ≡ closing [] n
unfolding closed
closed_over at n r = refl

module _ (at : ℕ) (n : Night) where
  later : at_end (at + 1) ≡ []
  later = rw (ne_eqb (at + 1) 0 (λ e. omega (arith, e))) refl

  -- one record alone: its line and its night, whether the replay ends with it or goes on to the end
  alone-by : (r : List ℕ) (b : Bool) → ends (step_of at n r).answer ≡ b
      → (let t = step_of at n r in told (replay_from at n (r ∷ [])) ≡ closing (texts_of (line_of at t.answer)) t.night)
  alone-by r true e = ap told (ends_there at n r [] e)
  alone-by r false e =
      let t = step_of at n r in
      let ls = line_of at t.answer in
      ap told (goes_on at n r [] e ∙ ap (behind ls) (at_end_lem (at + 1) t.night))
      ∙ ap (λ (l : List Line). closing (texts_of (ls ++ l)) t.night) later
      ∙ ap (λ (l : List Line). closing (texts_of l) t.night) (append-nil ls)

  closed_none : closed (stream at n [] false) ≡ told (replay_from at n [])
  unfolding closed replay_from
  closed_none = refl

  closed_some : (r : List ℕ) → 0 < length r
      → (let t = step_of at n r in closed (stream at n r false) ≡ closing (texts_of (line_of at t.answer)) t.night)
  unfolding closed took
  closed_some r p = rw (ne_eqb (length r) 0 (λ e. omega (arith, e))) refl

  -- the end of the input
  at-close : (k : ℕ) (r : List ℕ) → length r ≤ k → length r ≤ wanted r → closed (stream at n r false) ≡ told (replay_from at n (cut_into k r))
  at-close k [] h w = closed_none ∙ ap (λ (l : List (List ℕ)). told (replay_from at n l)) (sym (cut_none k))
  at-close k (b ∷ r) h w =
      closed_some (b ∷ r) (omega arith) ∙ sym (alone-by (b ∷ r) (ends (step_of at n (b ∷ r)).answer) refl)
      ∙ ap (λ (l : List (List ℕ)). told (replay_from at n l)) (sym (cut_last k (b ∷ r) (omega arith) h w))

  -- a byte that makes a record whole
  whole-told : (r : List ℕ) (b : ℕ) (bs : List ℕ) → is_whole (r ++ (b ∷ [])) ≡ true
      → (let t = step_of at n (r ++ (b ∷ [])) in
      ending (fed (stream at n r false) (b ∷ bs))
      ≡ put (texts_of (line_of at t.answer)) (ending (fed (stream (at + 1) t.night [] (ends t.answer)) bs)))
  unfolding took
  whole-told r b bs e =
      let t = step_of at n (r ++ (b ∷ [])) in
      ap ending (fed-whole at n r b bs e) ∙ ending_after (texts_of (line_of at t.answer)) (fed (stream (at + 1) t.night [] (ends t.answer)) bs)

  -- it stands in front of the rest
  module _ (k : ℕ) (r rest : List ℕ) where
    pub at-whole-by : (b : Bool) → ends (step_of at n r).answer ≡ b
        → (let t = step_of at n r in ending (fed (stream (at + 1) t.night [] false) rest) ≡ told (replay_from (at + 1) t.night (cut_into k rest)))
        → (let t = step_of at n r in
        put (texts_of (line_of at t.answer)) (ending (fed (stream (at + 1) t.night [] (ends t.answer)) rest))
        ≡ told (replay_from at n (r ∷ cut_into k rest)))
    at-whole-by true e h =
        let t = step_of at n r in
        let ls = line_of at t.answer in
        ap (λ (o : Bool). put (texts_of ls) (ending (fed (stream (at + 1) t.night [] o) rest))) e
        ∙ ap (λ (f : Fed). put (texts_of ls) (ending f)) (fed-over (at + 1) t.night [] rest)
        ∙ ap (λ (c : Closed). put (texts_of ls) (closing c.text c.night)) (closed_over (at + 1) t.night [])
        ∙ ap (λ (l : List ℕ). closing l t.night) (append-nil (texts_of ls))
        ∙ ap told (sym (ends_there at n r (cut_into k rest) e))
    at-whole-by false e h =
        let t = step_of at n r in
        let ls = line_of at t.answer in
        ap (λ (o : Bool). put (texts_of ls) (ending (fed (stream (at + 1) t.night [] o) rest))) e
        ∙ ap (put (texts_of ls)) h ∙ sym (told_behind_lem ls (replay_from (at + 1) t.night (cut_into k rest)))
        ∙ ap told (sym (goes_on at n r (cut_into k rest) e))

pub all_told : (k at : ℕ) (n : Night) (r bytes : List ℕ) → length r < wanted r → length r + length bytes ≤ k
    → ending (fed (stream at n r false) bytes) ≡ told (replay_from at n (cut_into k (r ++ bytes)))
all_told k at n r [] w h =
    ap ending (fed-none (stream at n r false)) ∙ at-close at n k r (omega arith) (omega arith)
    ∙ ap (λ (l : List ℕ). told (replay_from at n (cut_into k l))) (sym (append-nil r))
all_told zero at n r (b ∷ bs) w h = absurd (omega arith)
all_told (suc k) at n r (b ∷ bs) w h =
    by (is_whole (r ++ (b ∷ []))) refl
    (λ p. all_told (suc k) at n (r ++ (b ∷ [])) bs p (omega (arith, snoc r b)))
    (λ m. all_told k (at + 1) m [] bs (omega arith) (omega arith))
  where
    by : (o : Bool) → is_whole (r ++ (b ∷ [])) ≡ o
        → (length (r ++ (b ∷ [])) < wanted (r ++ (b ∷ []))
        → ending (fed (stream at n (r ++ (b ∷ [])) false) bs) ≡ told (replay_from at n (cut_into (suc k) (r ++ (b ∷ []) ++ bs))))
        → ((m : Night) → ending (fed (stream (at + 1) m [] false) bs) ≡ told (replay_from (at + 1) m (cut_into k bs)))
        → ending (fed (stream at n r false) (b ∷ bs)) ≡ told (replay_from at n (cut_into (suc k) (r ++ (b ∷ bs))))
    by true e f g =
        let r' = r ++ (b ∷ []) in
        whole-told at n r b bs e ∙ at-whole-by at n k r' bs (ends (step_of at n r').answer) refl (g (step_of at n r').night)
        ∙ ap (λ (l : List (List ℕ)). told (replay_from at n l)) (sym (cut_front k r' bs e))
        ∙ ap (λ (l : List ℕ). told (replay_from at n (cut_into (suc k) l))) (append_assoc r (b ∷ []) bs)
    by false e f g =
        ap ending (fed-part at n r b bs e) ∙ f (still_partly r b w e)
        ∙ ap (λ (l : List ℕ). told (replay_from at n (cut_into (suc k) l))) (append_assoc r (b ∷ []) bs)

pub streams : Streams
streams pieces =
    let bytes = joined pieces in
    let all = ap ending (fed_all_lem opened pieces) ∙ all_told (length bytes) 0 start [] bytes (omega arith) (omega arith) in
    (ap (λ (c : Closed). c.text) all, ap (λ (c : Closed). c.night) all)
