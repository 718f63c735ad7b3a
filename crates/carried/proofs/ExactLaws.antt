-- Which number is given when. In this order: what a datagram is; a reading handed in; what is put; a call to carry, by cases; a call to take.
-- Assumes nothing.
use mathlib.Core.Path.{◌≡◌, refl, sym, ap, subst, ◌∙◌}
use mathlib.Core.Bool.{Bool, true, false, not, cond, ◌&&◌, ◌||◌}
use mathlib.Core.List.{List, ◌++◌}
use mathlib.Core.Logic.{◌⊎◌, inl, inr}
use mathlib.Core.Option.{Option, some, none}
use Prim.Native.Nat.{ℕ, zero, suc, ◌≤◌, ◌<◌}
use native.Mathlib.Omega.{arith}
use lib.Dec.{eqb, leb, ltb}
use lib.Ieee.{binary32, of_bits}
use lib.ListN.{length, length-append, length-drop, drop, get_or}
use lib.Seq.{drop-append_seam}
use borrow.Author.Tests.{eqb-true, eqb-false, ltb-true, leb-true, leb-false}
use Rattle.std.specs.Prelude.{Result, Ok, Err}
use Rattle.octet.specs.Number.{Bytes}
use Rattle.refusal.specs.Table.{or_refuse}
use Rattle.wire_fields.specs.Message.{Contents, Message}
use Rattle.wire_write.specs.Writing.{Made, fit, write_as, write_in}
use Rattle.wire.proofs.Theorems.{read_gives, read_accepts, read_refuses}
use Rattle.wire_read.specs.Answers.{read_in}
use Rattle.wire_read.specs.Meaning.{message_of, number_of}
use Rattle.wire_read.specs.declared.Incoming.{Incoming}
use Rattle.readings.specs.Depth.{allowed}
use Rattle.readings.specs.Reading.{reading, measured_as}
use Rattle.readings.specs.Numbers.{number_refusals, reading_of}
use Rattle.readings.specs.Unpack.{unpack_of}
use Rattle.readings.proofs.DepthLaws.{bits_outside}
use Rattle.readings.proofs.NumberLaws.{number-depth, number-unknown, number-large, depth-outside}
use Rattle.readings.specs.declared.Reading.{Reading}
use Rattle.carried.specs.declared.Taken.{Taken}
use Rattle.carried.specs.Whole.{whole_of}
use Rattle.carried.specs.Carry.{carry, CarryHanded, carry_handed, put, with_reading, carry_in, carry_as, carry_by, carry_call}
use Rattle.carried.specs.Take.{nothing, taken_by, taken_from, take_call}
use Rattle.carried.specs.Statements.{ReadsAs, IsAuthority, Unread, Another, CarryNoRoom, TooLong, Carries, ReadingApplies, too_large, unknown-kind, outside, CarryExactly, CarryKeeps, CarryWrites, CarryFirst, TakeExactly}
use Rattle.carried.proofs.CarryLaws.{typed, Wanted, is-refused, is-wanted, is-another, wanted_as, carry-other, take-other}
use Rattle.carried.proofs.BackLaws.{means_authority}

-- ---- what a datagram is

-- not read, another message, or an AUTHORITY
data Sees (major : ℕ) (d : List ℕ) : Type 0 where
  unread : (n : ℕ) → 0 < n → number_of (read_in d major) ≡ n → Sees major d
  another : (m : Message) → message_of major d (read_in d major) ≡ some m → ¬ (m.type ≡ 8) → Sees major d
  authority : (m : Message) → message_of major d (read_in d major) ≡ some m → m.type ≡ 8 → Sees major d

sees : (major : ℕ) (d : List ℕ) → Bytes d → Sees major d
sees major d b = go (number_of (read_in d major)) refl
  where
    by_type_lem : (m : Message) → message_of major d (read_in d major) ≡ some m → (t : Bool) → eqb m.type 8 ≡ t → Sees major d
    by_type_lem m e true q = authority m e (eqb-true m.type 8 q)
    by_type_lem m e false q = another m e (eqb-false m.type 8 q)

    go : (n : ℕ) → number_of (read_in d major) ≡ n → Sees major d
    go zero e = let (m, x) = (read_accepts d b major).0 e in by_type_lem m x (eqb m.type 8) refl
    go (suc n) e = unread (suc n) (omega arith) e

-- what is found of it
refused_whole : (a : Incoming) (n : ℕ) → 0 < n → number_of a ≡ n → whole_of a ≡ Err n
refused_whole a n p e = by (wanted_as a)
  where
    by : Wanted a → whole_of a ≡ Err n
    by (is-refused k q) = ap whole_of q ∙ ap Err (sym (ap number_of q) ∙ e)
    by (is-wanted m q) = absurd (omega (arith, ap number_of q, e, p))
    by (is-another w z t) = absurd (omega (arith, z, e, p))

another_by : (major : ℕ) (d : List ℕ) (a : Incoming) (m : Message) → message_of major d a ≡ some m → ¬ (m.type ≡ 8) → Wanted a → whole_of a ≡ Err 5
unfolding message_of
another_by major d a m e t (is-refused n q) = absurd (let o = sym (ap (message_of major d) q) ∙ e in let z : ◌≡◌ {A = ℕ} 0 1 = cc in omega arith)
another_by major d a m e t (is-wanted x q) = absurd (t (sym (ap typed (sym (ap (message_of major d) q) ∙ e))))
another_by major d a m e t (is-another w z u) = w

another_whole : (major : ℕ) (d : List ℕ) (a : Incoming) (m : Message) → message_of major d a ≡ some m → ¬ (m.type ≡ 8) → whole_of a ≡ Err 5
another_whole major d a m e t = another_by major d a m e t (wanted_as a)

authority_by : (major : ℕ) (d : List ℕ) (a : Incoming) (m : Message) (u : Result Reading ℕ) (old : List ℕ) → message_of major d a ≡ some m → m.type ≡ 8
    → Wanted a → carry_by major d (whole_of a) u old ≡ carry_in m u old
unfolding message_of
authority_by major d a m u old e t (is-refused n q) = absurd (omega (arith, ap typed (sym (ap (message_of major d) q) ∙ e), t))
authority_by major d a m u old e t (is-wanted x q) =
    ap (λ (y : Incoming). carry_by major d (whole_of y) u old) q ∙ ap (λ (y : Option Message). carry_as y u old) (sym (ap (message_of major d) q) ∙ e)
authority_by major d a m u old e t (is-another w z v) = absurd (v major d (ap typed e ∙ t))

-- ---- a reading handed in

module _ (kind measure i o : ℕ) where
  applies-by : (one two large good : Bool) → eqb kind 1 ≡ one → eqb kind 2 ≡ two → ltb 65535 measure ≡ large
      → allowed (of_bits binary32 measure) ≡ good → (x : Reading) (n : ℕ)
      → ◌≡◌ {A = Result Reading ℕ} (cond (two && large) (Err 1) (cond (not (one || two)) (Err 2) (cond (one && not good) (Err 3) (Ok x)))) (Err n)
      → ReadingApplies kind measure n
  applies-by one true true good p q r s x n e = let z : n ≡ 1 = cc in too_large z (eqb-true kind 2 q) (ltb-true 65535 measure r)
  applies-by true true false true p q r s x n e = absurd (let z : ◌≡◌ {A = ℕ} 0 1 = cc in omega arith)
  applies-by true true false false p q r s x n e = let z : n ≡ 3 = cc in outside z (eqb-true kind 1 p) s
  applies-by false true false good p q r s x n e = absurd (let z : ◌≡◌ {A = ℕ} 0 1 = cc in omega arith)
  applies-by true false large true p q r s x n e = absurd (let z : ◌≡◌ {A = ℕ} 0 1 = cc in omega arith)
  applies-by true false large false p q r s x n e = let z : n ≡ 3 = cc in outside z (eqb-true kind 1 p) s
  applies-by false false large good p q r s x n e = let z : n ≡ 2 = cc in unknown-kind z (eqb-false kind 1 p) (eqb-false kind 2 q)

  reading-applies : (n : ℕ) → reading_of kind measure i o ≡ Err n → ReadingApplies kind measure n
  unfolding reading_of number_refusals or_refuse
  reading-applies n e =
      applies-by (eqb kind 1) (eqb kind 2) (ltb 65535 measure) (allowed (of_bits binary32 measure)) refl refl refl refl
      (reading (measured_as kind measure) i o) n e

  applies-some : (n : ℕ) → ReadingApplies kind measure n → 0 < n
  applies-some n (too_large z k h) = omega (arith, z)
  applies-some n (unknown-kind z a b) = omega (arith, z)
  applies-some n (outside z k g) = omega (arith, z)

  reading-refused : (n : ℕ) → ReadingApplies kind measure n → reading_of kind measure i o ≡ Err n
  reading-refused n (too_large z k h) = sym (number-large kind measure i o k h) ∙ ap Err (sym z)
  reading-refused n (unknown-kind z a b) = sym (number-unknown kind measure i o a b) ∙ ap Err (sym z)
  reading-refused n (outside z k g) =
      sym (depth-outside measure i o (sym (bits_outside measure g)) ∙ number-depth kind measure i o k) ∙ ap Err (sym z)

-- ---- what is put

put-fits : (m : Made) (old : List ℕ) → m.ok ≡ true → fit m.bytes old ≡ true
    → put m old ≡ carry_handed (carry 0 (length m.bytes) 0) (m.bytes ++ drop (length m.bytes) old)
unfolding write_as write_in
put-fits m old k f = rw (k, f) refl

put_full : (m : Made) (old : List ℕ) → m.ok ≡ true → fit m.bytes old ≡ false → put m old ≡ carry_handed (carry 15 0 0) old
unfolding write_as write_in
put_full m old k f = rw (k, f) refl

fit_by : (b old : List ℕ) (p q : Bool) → leb (length b) (length old) ≡ p → leb (length b) 1232 ≡ q
    → ((p && q ≡ true) × (length b ≤ length old) × (length b ≤ 1232)) ⊎ ((p && q ≡ false) × ((length old < length b) ⊎ (1232 < length b)))
fit_by b old true true e f = inl (refl, leb-true (length b) (length old) e, leb-true (length b) 1232 f)
fit_by b old true false e f = inr (refl, inr (leb-false (length b) 1232 f))
fit_by b old false q e f = inr (refl, inl (leb-false (length b) (length old) e))

fit_is : (b old : List ℕ)
    → ((fit b old ≡ true) × (length b ≤ length old) × (length b ≤ 1232)) ⊎ ((fit b old ≡ false) × ((length old < length b) ⊎ (1232 < length b)))
unfolding fit
fit_is b old = fit_by b old (leb (length b) (length old)) (leb (length b) 1232) refl refl

-- what is too long does not fit
not-fit : (b old : List ℕ) → (length old < length b) ⊎ (1232 < length b) → fit b old ≡ false
not-fit b old t = go t (fit_is b old)
  where
    go : (length old < length b) ⊎ (1232 < length b)
        → ((fit b old ≡ true) × (length b ≤ length old) × (length b ≤ 1232)) ⊎ ((fit b old ≡ false) × ((length old < length b) ⊎ (1232 < length b)))
        → fit b old ≡ false
    go (inl h) (inl w) = absurd (omega (arith, w.1))
    go (inr h) (inl w) = absurd (omega (arith, w.2))
    go x (inr w) = w.0

-- ---- a call to carry

-- how it ends
data Ends (major : ℕ) (d : List ℕ) (u : Result Reading ℕ) (old : List ℕ) (h : CarryHanded) : Type 0 where
  not-read : (n : ℕ) → 0 < n → Unread major d n → h ≡ carry_handed (carry n 0 0) old → Ends major d u old h
  not-authority : (m : Message) → ReadsAs major d m → ¬ (m.type ≡ 8) → h ≡ carry_handed (carry 5 0 0) old → Ends major d u old h
  not-reading : (m : Message) → IsAuthority major d m → (n : ℕ) → u ≡ Err n → h ≡ carry_handed (carry 0 0 n) old → Ends major d u old h
  no_room : (m : Message) → IsAuthority major d m → (r : Reading) → u ≡ Ok r → TooLong old m r → h ≡ carry_handed (carry 15 0 0) old
      → Ends major d u old h
  done : (m : Message) → IsAuthority major d m → (r : Reading) → u ≡ Ok r → length (with_reading m r).bytes ≤ length old
      → length (with_reading m r).bytes ≤ 1232
      → h ≡ carry_handed (carry 0 (length (with_reading m r).bytes) 0) ((with_reading m r).bytes ++ drop (length (with_reading m r).bytes) old)
      → Ends major d u old h

module _ (major : ℕ) (d : List ℕ) (b : Bytes d) where
  module _ (u : Result Reading ℕ) (old : List ℕ) where
    unread-is : (n : ℕ) → 0 < n → number_of (read_in d major) ≡ n → carry_call major d u old ≡ carry_handed (carry n 0 0) old
    unread-is n p e = sym (carry-other major d n u old (refused_whole (read_in d major) n p e))

    another-is : (m : Message) → message_of major d (read_in d major) ≡ some m → ¬ (m.type ≡ 8) → carry_call major d u old ≡ carry_handed (carry 5 0 0) old
    another-is m e t = sym (carry-other major d 5 u old (another_whole major d (read_in d major) m e t))

    authority-is : (m : Message) → message_of major d (read_in d major) ≡ some m → m.type ≡ 8 → carry_call major d u old ≡ carry_in m u old
    unfolding carry_call
    authority-is m e t = authority_by major d (read_in d major) m u old e t (wanted_as (read_in d major))

    -- an AUTHORITY, with a reading or with none
    put-ends : (m : Message) → IsAuthority major d m → carry_call major d u old ≡ carry_in m u old → (x : Result Reading ℕ) → u ≡ x
        → Ends major d u old (carry_call major d u old)
    put-ends m a e (Err n) q = not-reading m a n q (e ∙ ap (λ (y : Result Reading ℕ). carry_in m y old) q)
    put-ends m a e (Ok r) q = go (fit_is (with_reading m r).bytes old)
      where
        is : carry_call major d u old ≡ put (with_reading m r) old
        is = e ∙ ap (λ (y : Result Reading ℕ). carry_in m y old) q

        go : ((fit (with_reading m r).bytes old ≡ true) × (length (with_reading m r).bytes ≤ length old) × (length (with_reading m r).bytes ≤ 1232))
            ⊎ ((fit (with_reading m r).bytes old ≡ false) × TooLong old m r) → Ends major d u old (carry_call major d u old)
        go (inl w) = done m a r q w.1 w.2 (is ∙ put-fits (with_reading m r) old refl w.0)
        go (inr w) = no_room m a r q w.1 (is ∙ put_full (with_reading m r) old refl w.0)

    ends : Ends major d u old (carry_call major d u old)
    ends = go (sees major d b)
      where
        go : Sees major d → Ends major d u old (carry_call major d u old)
        go (unread n p e) = not-read n p ((read_refuses d major n p).0 e) (unread-is n p e)
        go (another m e t) = not-authority m ((read_gives d b major m).0 e) t (another-is m e t)
        go (authority m e t) = put-ends m ((read_gives d b major m).0 e, t) (authority-is m e t) u refl

-- its numbers
abbrev numbered : CarryHanded → ℕ
numbered h = h.given.number

abbrev answered : CarryHanded → ℕ
answered h = h.given.reading

module _ (major : ℕ) (d : List ℕ) (b : Bytes d) (kind measure i o : ℕ) (old : List ℕ) where
  abbrev u : Result Reading ℕ
  u = reading_of kind measure i o

  abbrev h : CarryHanded
  h = carry_call major d (reading_of kind measure i o) old

  number-from : (n : ℕ) → 0 < n → Ends major d u old h → h.given.number ≡ n → Unread major d n ⊎ (Another major d n ⊎ CarryNoRoom major d u old n)
  number-from n p (not-read k q w e) z = inl (subst (Unread major d) (sym (ap numbered e) ∙ z) w)
  number-from n p (not-authority m w t e) z = inr (inl (sym (sym (ap numbered e) ∙ z), (m, w, t)))
  number-from n p (not-reading m a k q e) z = absurd (omega (arith, ap numbered e, z))
  number-from n p (no_room m a r q t e) z = inr (inr (sym (sym (ap numbered e) ∙ z), (m, r, a, q, t)))
  number-from n p (done m a r q f g e) z = absurd (omega (arith, ap numbered e, z))

  number-to : (n : ℕ) → 0 < n → Unread major d n ⊎ (Another major d n ⊎ CarryNoRoom major d u old n) → h.given.number ≡ n
  number-to n p (inl w) = ap numbered (unread-is major d b u old n p ((read_refuses d major n p).1 w))
  number-to n p (inr (inl (z, (m, w, t)))) = ap numbered (another-is major d b u old m ((read_gives d b major m).1 w) t) ∙ sym z
  number-to n p (inr (inr (z, (m, r, a, q, t)))) =
      ap numbered
      (authority-is major d b u old m ((read_gives d b major m).1 a.0) a.1 ∙ ap (λ (y : Result Reading ℕ). carry_in m y old) q
      ∙ put_full (with_reading m r) old refl (not-fit (with_reading m r).bytes old t))
      ∙ sym z

  reading-from : (n : ℕ) → 0 < n → Ends major d u old h → h.given.reading ≡ n
      → ((m : Message) × IsAuthority major d m) × ReadingApplies kind measure n
  reading-from n p (not-read k q w e) z = absurd (omega (arith, ap answered e, z))
  reading-from n p (not-authority m w t e) z = absurd (omega (arith, ap answered e, z))
  reading-from n p (not-reading m a k q e) z = ((m, a), reading-applies kind measure i o n (q ∙ ap Err (sym (ap answered e) ∙ z)))
  reading-from n p (no_room m a r q t e) z = absurd (omega (arith, ap answered e, z))
  reading-from n p (done m a r q f g e) z = absurd (omega (arith, ap answered e, z))

  reading-to : (n : ℕ) → ((m : Message) × IsAuthority major d m) × ReadingApplies kind measure n → h.given.reading ≡ n
  reading-to n ((m, a), w) =
      ap answered
      (authority-is major d b u old m ((read_gives d b major m).1 a.0) a.1
      ∙ ap (λ (y : Result Reading ℕ). carry_in m y old) (reading-refused kind measure i o n w))

  one-by : Ends major d u old h → (h.given.number ≡ 0) ⊎ (h.given.reading ≡ 0)
  one-by (not-read k q w e) = inr (ap answered e)
  one-by (not-authority m w t e) = inr (ap answered e)
  one-by (not-reading m a k q e) = inl (ap numbered e)
  one-by (no_room m a r q t e) = inr (ap answered e)
  one-by (done m a r q f g e) = inl (ap numbered e)

  abbrev Keeps : Type 0
  Keeps =
      (0 < h.given.number → h ≡ carry_handed (carry h.given.number 0 0) old)
      × (0 < h.given.reading → h ≡ carry_handed (carry 0 0 h.given.reading) old)

  -- a refusal is that of its number
  kept_by : (n : ℕ) → h ≡ carry_handed (carry n 0 0) old → Keeps
  kept_by n e =
      (λ p. e ∙ ap (λ (x : ℕ). carry_handed (carry x 0 0) old) (sym (ap numbered e)), λ p. absurd (omega (arith, ap answered e, p)))

  keeps-by : Ends major d u old h → Keeps
  keeps-by (not-read k q w e) = kept_by k e
  keeps-by (not-authority m w t e) = kept_by 5 e
  keeps-by (not-reading m a k q e) =
      (λ p. absurd (omega (arith, ap numbered e, p)), λ p. e ∙ ap (λ (x : ℕ). carry_handed (carry 0 0 x) old) (sym (ap answered e)))
  keeps-by (no_room m a r q t e) = kept_by 15 e
  keeps-by (done m a r q f g e) = (λ p. absurd (omega (arith, ap numbered e, p)), λ p. absurd (omega (arith, ap answered e, p)))

  writes-by : Ends major d u old h → h.given.number ≡ 0 → h.given.reading ≡ 0
      → (m : Message) × (r : Reading) × IsAuthority major d m × (u ≡ Ok r) × (length (with_reading m r).bytes ≤ 1232)
      × (h ≡ carry_handed (carry 0 (length (with_reading m r).bytes) 0) ((with_reading m r).bytes ++ drop (length (with_reading m r).bytes) old))
  writes-by (not-read k p w e) z y = absurd (omega (arith, ap numbered e, z))
  writes-by (not-authority m w t e) z y = absurd (omega (arith, ap numbered e, z))
  writes-by (not-reading m a k q e) z y =
      absurd (omega (arith, ap answered e, y, applies-some kind measure i o k (reading-applies kind measure i o k q)))
  writes-by (no_room m a r q t e) z y = absurd (omega (arith, ap numbered e, z))
  writes-by (done m a r q f g e) z y = (m, r, a, q, g, e)

  abbrev First : CarryHanded → Type 0
  First x = (x.given.length ≤ length old) × (length x.output ≡ length old) × (drop x.given.length x.output ≡ drop x.given.length old)

  same_by : (n k : ℕ) → h ≡ carry_handed (carry n 0 k) old → First h
  same_by n k e = subst First (sym e) (omega arith, refl, refl)

  first_by : Ends major d u old h → First h
  first_by (not-read k q w e) = same_by k 0 e
  first_by (not-authority m w t e) = same_by 5 0 e
  first_by (not-reading m a k q e) = same_by 0 k e
  first_by (no_room m a r q t e) = same_by 15 0 e
  first_by (done m a r q f g e) =
      let v = (with_reading m r).bytes in
      subst First (sym e) (
        f,
        length-append v (drop (length v) old)
            ∙ omega (arith, length-drop (length v) old),
        drop-append_seam v (drop (length v) old),
      )

pub carry_exactly : CarryExactly
carry_exactly major d b kind measure i o old = record {
  number = λ n p. (number-from major d b kind measure i o old n p (ends major d b _ old), number-to major d b kind measure i o old n p);
  reading = λ n p. (reading-from major d b kind measure i o old n p (ends major d b _ old), reading-to major d b kind measure i o old n);
  one = one-by major d b kind measure i o old (ends major d b _ old);
}

pub carry_keeps : CarryKeeps
carry_keeps major d b kind measure i o old = keeps-by major d b kind measure i o old (ends major d b _ old)

pub carry_writes : CarryWrites
carry_writes major d b kind measure i o old z y = writes-by major d b kind measure i o old (ends major d b _ old) z y

pub carry_first : CarryFirst
carry_first major d b kind measure i o old = first_by major d b kind measure i o old (ends major d b _ old)

-- ---- a call to take

module _ (major : ℕ) (d : List ℕ) (b : Bytes d) where
  unread-taken : (n : ℕ) → 0 < n → number_of (read_in d major) ≡ n → take_call major d ≡ nothing n 0
  unread-taken n p e = sym (take-other major d n (refused_whole (read_in d major) n p e))

  another-taken : (m : Message) → message_of major d (read_in d major) ≡ some m → ¬ (m.type ≡ 8) → take_call major d ≡ nothing 5 0
  another-taken m e t = sym (take-other major d 5 (another_whole major d (read_in d major) m e t))

  authority-taken : (m : Message) → IsAuthority major d m → (c : Contents) → get_or m.fields 6 none ≡ c → take_call major d ≡ taken_from c
  unfolding take_call
  authority-taken m a c e = means_authority major d (read_in d major) m ((read_gives d b major m).1 a.0) a.1 ∙ ap taken_from e

  -- how it ends
  data Takes (t : Taken) : Type 0 where
    not-read : (n : ℕ) → 0 < n → Unread major d n → t ≡ nothing n 0 → Takes t
    not-authority : (m : Message) → ReadsAs major d m → ¬ (m.type ≡ 8) → t ≡ nothing 5 0 → Takes t
    none-there : t ≡ nothing 0 0 → Takes t
    no-reading : (v : List ℕ) → Carries major d v → (n : ℕ) → unpack_of v ≡ Err n → t ≡ nothing 0 n → Takes t
    some-there : (v : List ℕ) → Carries major d v → (r : Reading) → unpack_of v ≡ Ok r → t ≡ taken_by (Ok r) → Takes t

  payload-takes : (m : Message) → IsAuthority major d m → (c : Contents) → get_or m.fields 6 none ≡ c → Takes (take_call major d)
  payload-takes m a none e = none-there (authority-taken m a none e)
  payload-takes m a (some v) e = go (unpack_of v) refl
    where
      go : (x : Result Reading ℕ) → unpack_of v ≡ x → Takes (take_call major d)
      go (Err n) q = no-reading v (m, a, e) n q (authority-taken m a (some v) e ∙ ap taken_by q)
      go (Ok r) q = some-there v (m, a, e) r q (authority-taken m a (some v) e ∙ ap taken_by q)

  takes : Takes (take_call major d)
  takes = go (sees major d b)
    where
      go : Sees major d → Takes (take_call major d)
      go (unread n p e) = not-read n p ((read_refuses d major n p).0 e) (unread-taken n p e)
      go (another m e t) = not-authority m ((read_gives d b major m).0 e) t (another-taken m e t)
      go (authority m e t) = payload-takes m ((read_gives d b major m).0 e, t) (get_or m.fields 6 none) refl

  abbrev number_in : Taken → ℕ
  number_in t = t.number

  abbrev reading_in : Taken → ℕ
  reading_in t = t.reading

  take-number-from : (n : ℕ) → 0 < n → Takes (take_call major d) → (take_call major d).number ≡ n → Unread major d n ⊎ Another major d n
  take-number-from n p (not-read k q w e) z = inl (subst (Unread major d) (sym (ap number_in e) ∙ z) w)
  take-number-from n p (not-authority m w t e) z = inr (sym (sym (ap number_in e) ∙ z), (m, w, t))
  take-number-from n p (none-there e) z = absurd (omega (arith, ap number_in e, z))
  take-number-from n p (no-reading v c k q e) z = absurd (omega (arith, ap number_in e, z))
  take-number-from n p (some-there v c r q e) z = absurd (omega (arith, ap number_in e, z))

  take-number-to : (n : ℕ) → 0 < n → Unread major d n ⊎ Another major d n → (take_call major d).number ≡ n
  take-number-to n p (inl w) = ap number_in (unread-taken n p ((read_refuses d major n p).1 w))
  take-number-to n p (inr (z, (m, w, t))) = ap number_in (another-taken m ((read_gives d b major m).1 w) t) ∙ sym z

  take-reading-from : (n : ℕ) → 0 < n → Takes (take_call major d) → (take_call major d).reading ≡ n
      → (v : List ℕ) × Carries major d v × (unpack_of v ≡ Err n)
  take-reading-from n p (not-read k q w e) z = absurd (omega (arith, ap reading_in e, z))
  take-reading-from n p (not-authority m w t e) z = absurd (omega (arith, ap reading_in e, z))
  take-reading-from n p (none-there e) z = absurd (omega (arith, ap reading_in e, z))
  take-reading-from n p (no-reading v c k q e) z = (v, c, q ∙ ap Err (sym (ap reading_in e) ∙ z))
  take-reading-from n p (some-there v c r q e) z = absurd (omega (arith, ap reading_in e, z))

  carried-is : (v : List ℕ) (x : Result Reading ℕ) → Carries major d v → unpack_of v ≡ x → take_call major d ≡ taken_by x
  carried-is v x (m, a, e) q = authority-taken m a (some v) e ∙ ap taken_by q

  take-refused-by : Takes (take_call major d) → 0 < (take_call major d).number → take_call major d ≡ nothing (take_call major d).number 0
  take-refused-by (not-read k q w e) p = e ∙ ap (λ (x : ℕ). nothing x 0) (sym (ap number_in e))
  take-refused-by (not-authority m w t e) p = e ∙ ap (λ (x : ℕ). nothing x 0) (sym (ap number_in e))
  take-refused-by (none-there e) p = absurd (omega (arith, ap number_in e))
  take-refused-by (no-reading v c k q e) p = absurd (omega (arith, ap number_in e))
  take-refused-by (some-there v c r q e) p = absurd (omega (arith, ap number_in e))

  take-none-by : Takes (take_call major d) → 0 < (take_call major d).reading → take_call major d ≡ nothing 0 (take_call major d).reading
  take-none-by (not-read k q w e) p = absurd (omega (arith, ap reading_in e))
  take-none-by (not-authority m w t e) p = absurd (omega (arith, ap reading_in e))
  take-none-by (none-there e) p = absurd (omega (arith, ap reading_in e))
  take-none-by (no-reading v c k q e) p = e ∙ ap (nothing 0) (sym (ap reading_in e))
  take-none-by (some-there v c r q e) p = absurd (omega (arith, ap reading_in e))

pub take_exactly : TakeExactly
take_exactly major d b = record {
  number = λ n p. (take-number-from major d b n p (takes major d b), take-number-to major d b n p);
  reading = λ n p. (
    take-reading-from major d b n p (takes major d b),
    λ w. ap (λ (t : Taken). t.reading) (carried-is major d b w.0 (Err n) w.1 w.2),
  );
  refused = take-refused-by major d b (takes major d b);
  no-reading = take-none-by major d b (takes major d b);
  carries-none = λ m a e. authority-taken major d b m a none e;
  carries-one = λ v r c q. carried-is major d b v (Ok r) c q;
}
