-- A reading that was carried is taken out as it was handed in. In this order: a reading from numbers; what is read of a message that was written;
-- the calls. Assumes nothing.
use mathlib.Core.Path.{◌≡◌, refl, sym, ap, ap₂, subst, ◌∙◌}
use mathlib.Core.Bool.{Bool, true, false, not, cond, ◌&&◌, ◌||◌}
use mathlib.Core.List.{List, []}
use mathlib.Core.Option.{some}
use Prim.Native.Nat.{ℕ, ◌≤◌, ◌<◌}
use native.Mathlib.Omega.{arith}
use lib.Dec.{eqb, leb, ltb}
use lib.Ieee.{binary32, of_bits}
use lib.Ieee.Bits.{to_bits-of_bits, of_bits-fits}
use lib.ListN.{length, take, drop}
use lib.Seq.{take_at}
use borrow.Author.Tests.{eqb-true, leb-true, ltb-false, not-false}
use Rattle.std.specs.Prelude.{Result, Ok, Err}
use Rattle.octet.specs.Number.{Bytes}
use Rattle.octet.proofs.TestLaws.{both_true}
use Rattle.refusal.specs.Table.{or_refuse}
use Rattle.refusal.proofs.TableLaws.{both}
use Rattle.wire_shapes.specs.Shapes.{Kind}
use Rattle.wire_fields.specs.Kinds.{kinds_of, authority_kinds}
use Rattle.wire_fields.specs.Message.{Message, WellFormed, layout_of, message_bytes}
use Rattle.wire_write.specs.Writing.{Made, fit, write_as, write_in}
use Rattle.wire_write.specs.declared.Written as W
use Rattle.wire.specs.Statements.{changed_at, changed}
use Rattle.wire.proofs.ChangedLaws.{changed_well}
use Rattle.wire.proofs.PayloadLaws.{seen}
use Rattle.wire.proofs.Theorems.{read_accepts, read_written-again, written_read, authority-is, authority_joins, payload_held}
use Rattle.wire_read.specs.Answers.{read_in}
use Rattle.wire_read.specs.Meaning.{message_of, number_of}
use Rattle.wire_read.specs.declared.Incoming.{Incoming}
use Rattle.wire_read.specs.declared.Incoming.TheVariants as M
use Rattle.wire_read.specs.declared.messages.Authority as T
use Rattle.readings.specs.Depth.{allowed}
use Rattle.readings.specs.Reading.{reading, kind_of, measure_of, is_kind, measured_as, image, fine, MeasuredFits}
use Rattle.readings.specs.Numbers.{number_refusals, reading_of}
use Rattle.readings.specs.Unpack.{unpack_of}
use Rattle.readings.proofs.Theorems.{reads_back}
use Rattle.readings.specs.declared.Measured.{Measured}
use Rattle.readings.specs.declared.Measured.TheVariants.{Depth, Fault}
use Rattle.readings.specs.declared.Reading.{Reading}
use Rattle.readings.proofs.DepthLaws.{allowed_no_nan}
use Rattle.carried.specs.Carry.{put, with_reading, carry_by, carry_call}
use Rattle.carried.specs.Statements.{Words, TakenBack}
use Rattle.carried.proofs.CarryLaws.{typed, Wanted, is-refused, is-wanted, is-another, wanted_as, whole_authority, image_short, image_bytes}
use Rattle.carried.specs.Take.{taken, taken_as, taken_by, take_by, take_call}
use Rattle.carried.specs.Whole.{whole_of}

-- ---- a reading from numbers

-- what is refused has a number
refused_by : (a b c : Bool) (x : Reading) (n : ℕ)
    → ◌≡◌ {A = Result Reading ℕ} (cond a (Err 1) (cond b (Err 2) (cond c (Err 3) (Ok x)))) (Err n) → 0 < n
refused_by true b c x n e = let z : 1 ≡ n = cc in omega (arith, z)
refused_by false true c x n e = let z : 2 ≡ n = cc in omega (arith, z)
refused_by false false true x n e = let z : 3 ≡ n = cc in omega (arith, z)
refused_by false false false x n e = absurd (let z : ◌≡◌ {A = ℕ} 0 1 = cc in omega arith)

read_by : (a b c : Bool) (x r : Reading)
    → ◌≡◌ {A = Result Reading ℕ} (cond a (Err 1) (cond b (Err 2) (cond c (Err 3) (Ok x)))) (Ok r) → (a ≡ false) × (b ≡ false) × (c ≡ false) × (x ≡ r)
read_by true b c x r e = absurd (let z : ◌≡◌ {A = ℕ} 0 1 = cc in omega arith)
read_by false true c x r e = absurd (let z : ◌≡◌ {A = ℕ} 0 1 = cc in omega arith)
read_by false false true x r e = absurd (let z : ◌≡◌ {A = ℕ} 0 1 = cc in omega arith)
read_by false false false x r e = (refl, refl, refl, cc)

-- the numbers come back, and are those of their types
abbrev Kept : ℕ → ℕ → Measured → Type 0
Kept kind measure m = (kind_of m ≡ kind) × (measure_of m ≡ measure) × MeasuredFits m × (fine m ≡ true)

module _ (kind measure : ℕ) (w : measure < 4294967296) where
  a-depth : kind ≡ 1 → allowed (of_bits binary32 measure) ≡ true → Kept kind measure (Depth (of_bits binary32 measure))
  a-depth k g = (sym k, to_bits-of_bits binary32 measure w (allowed_no_nan _ g), of_bits-fits binary32 measure, g)

  a-fault : kind ≡ 2 → measure < 65536 → Kept kind measure (Fault measure)
  a-fault k h = (sym k, refl, h, refl)

  by_kind : (one two t large : Bool) → eqb kind 1 ≡ one → eqb kind 2 ≡ two → allowed (of_bits binary32 measure) ≡ t → ltb 65535 measure ≡ large
      → two && large ≡ false → one || two ≡ true → one && not t ≡ false
      → Kept kind measure (cond one (Depth (of_bits binary32 measure)) (Fault measure))
  by_kind true two true large p q r s a b c = a-depth (eqb-true kind 1 p) r
  by_kind true two false large p q r s a b c = both refl c
  by_kind false true t true p q r s a b c = both refl a
  by_kind false true t false p q r s a b c = a-fault (eqb-true kind 2 q) (omega (arith, ltb-false 65535 measure s))
  by_kind false false t large p q r s a b c = both b refl

  numbers-kept : (i o : ℕ) (r : Reading) → reading_of kind measure i o ≡ Ok r
      → (r ≡ reading (measured_as kind measure) i o) × Kept kind measure (measured_as kind measure)
  unfolding reading_of number_refusals or_refuse
  numbers-kept i o r e =
      let d = of_bits binary32 measure in
      let x =
      read_by (eqb kind 2 && ltb 65535 measure) (not (is_kind kind)) (eqb kind 1 && not (allowed d)) (reading (measured_as kind measure) i o) r e in (
        sym x.3,
        by_kind (eqb kind 1) (eqb kind 2) (allowed d) (ltb 65535 measure) refl refl refl refl x.0
            (not-false (is_kind kind) x.1) x.2,
      )

  number-refused : (i o n : ℕ) → reading_of kind measure i o ≡ Err n → 0 < n
  unfolding reading_of number_refusals or_refuse
  number-refused i o n e =
      refused_by (eqb kind 2 && ltb 65535 measure) (not (is_kind kind)) (eqb kind 1 && not (allowed (of_bits binary32 measure)))
      (reading (measured_as kind measure) i o) n e

  -- its bytes are read as it, and it is shown by its numbers
  taken_back : (i o : ℕ) (r : Reading) → i < 4294967296 → o < 4294967296 → reading_of kind measure i o ≡ Ok r
      → taken_by (unpack_of (image r)) ≡ taken 0 0 kind measure i o
  taken_back i o r hi ho e =
      let (same, k) = numbers-kept i o r e in
      let x = reading (measured_as kind measure) i o in
      ap (λ (y : Reading). taken_by (unpack_of (image y))) same ∙ ap taken_by (reads_back x (k.2, hi, ho) k.3)
      ∙ ap₂ (λ (a b : ℕ). taken 0 0 a b i o) k.0 k.1

-- ---- a message that was written, read again

-- an answer that means an AUTHORITY is one
means_by : (major : ℕ) (d : List ℕ) (a : Incoming) (m : Message) → message_of major d a ≡ some m → m.type ≡ 8 → Wanted a
    → take_by major d (whole_of a) ≡ taken_as (some m)
unfolding message_of
means_by major d a m e t (is-refused n q) = absurd (omega (arith, ap typed (sym (ap (message_of major d) q) ∙ e), t))
means_by major d a m e t (is-wanted x q) = ap (λ (y : Incoming). take_by major d (whole_of y)) q ∙ ap taken_as (sym (ap (message_of major d) q) ∙ e)
means_by major d a m e t (is-another w z u) = absurd (u major d (ap typed e ∙ t))

pub means_authority : (major : ℕ) (d : List ℕ) (a : Incoming) (m : Message) → message_of major d a ≡ some m → m.type ≡ 8
    → take_by major d (whole_of a) ≡ taken_as (some m)
means_authority major d a m e t = means_by major d a m e t (wanted_as a)

module _ (major : ℕ) (d : List ℕ) (b : Bytes d) (m : T.Authority) (a : read_in d major ≡ M.Authority m) (r : Reading) where
  abbrev was : Message
  was = seen major d m []

  abbrev is : Message
  is = changed authority_kinds was 6 (some (image r))

  was-well : WellFormed authority_kinds was
  unfolding kinds_of
  was-well =
      let (ks, x, again) = read_written-again d b major was (authority-is d b major m a) in
      let kind : some ks ≡ some authority_kinds = sym x.well.known in
      let kinds : ks ≡ authority_kinds = cc in
      subst (λ (k : List Kind). WellFormed k was) kinds x.well

  is-well : length (message_bytes (layout_of authority_kinds is)) ≤ 1232 → WellFormed authority_kinds is
  is-well l =
      changed_well authority_kinds was 6 (some (image r)) was-well
      (payload_held (image r) (image_bytes r) (omega (arith, image_short r.measured r.inflow r.outflow)))
      (authority_joins 8 (changed_at 6 (some (image r)) was.fields) was-well.known) l

  pub written-taken : length (message_bytes (layout_of authority_kinds is)) ≤ 1232
      → take_call major (message_bytes (layout_of authority_kinds is)) ≡ taken_by (unpack_of (image r))
  unfolding take_call
  written-taken l =
      let bytes = message_bytes (layout_of authority_kinds is) in
      means_authority major bytes (read_in bytes major) is (written_read authority_kinds is (is-well l)) refl

-- ---- the calls

put_by_lem : (fits : Bool) (bytes old : List ℕ)
    → (let w : W.Written = cond fits (record { number = 0; length = length bytes }) (record { number = 15; length = 0 }) in
    w.number ≡ 0 → fits ≡ true)
put_by_lem true bytes old z = refl
put_by_lem false bytes old z = absurd (omega (arith, z))

-- what was put stands at the output's start
pub put_there : (m : Made) (old : List ℕ) → m.ok ≡ true → (put m old).given.number ≡ 0
    → (take (put m old).given.length (put m old).output ≡ m.bytes) × (length m.bytes ≤ 1232)
unfolding write_as write_in fit
put_there m old k z =
    let fits = leb (length m.bytes) (length old) && leb (length m.bytes) 1232 in
    let g : fits ≡ true = put_by_lem fits m.bytes old (rw k at z) in (
      rw (k, g) (take_at m.bytes (drop (length m.bytes) old) (length m.bytes) refl),
      leb-true (length m.bytes) 1232 (both_true (leb (length m.bytes) (length old)) (leb (length m.bytes) 1232) g).1,
    )

-- what is no AUTHORITY has a number
some_number : (n : ℕ) → (n ≡ 0 → ⊥) → 0 < n
some_number n u = omega (arith, u)

other_by : (major : ℕ) (d : List ℕ) (a : Incoming) (n : ℕ) → whole_of a ≡ Err n
    → (number_of a ≡ 0 → (m : Message) × (message_of major d a ≡ some m)) → Wanted a → 0 < n
unfolding message_of
other_by major d a n e acc (is-refused k q) =
    let o : Err k ≡ Err n = sym (ap whole_of q) ∙ e in
    let p : k ≡ n = cc in
    some_number n (λ z.
    let (m, x) = acc (ap number_of q ∙ p ∙ z) in
    let y = sym (ap (message_of major d) q) ∙ x in
    let v : ◌≡◌ {A = ℕ} 0 1 = cc in
    omega arith)
other_by major d a n e acc (is-wanted m q) = absurd (let o = sym (ap whole_of q) ∙ e in let z : ◌≡◌ {A = ℕ} 0 1 = cc in omega arith)
other_by major d a n e acc (is-another w z t) = let o = sym w ∙ e in let p : 5 ≡ n = cc in omega (arith, p)

module _ (major : ℕ) (d : List ℕ) (b : Bytes d) (kind measure i o : ℕ) (w : Words measure i o) (old : List ℕ) where
  by_whole : (x : Result T.Authority ℕ) → whole_of (read_in d major) ≡ x → (u : Result Reading ℕ) → reading_of kind measure i o ≡ u
      → (carry_by major d x u old).given.number ≡ 0 → (carry_by major d x u old).given.reading ≡ 0
      → take_call major (take (carry_by major d x u old).given.length (carry_by major d x u old).output) ≡ taken 0 0 kind measure i o
  unfolding message_of
  by_whole (Err n) e u v z q =
      absurd (omega (arith, z, other_by major d (read_in d major) n e (read_accepts d b major).0 (wanted_as (read_in d major))))
  by_whole (Ok m) e (Err n) v z q = absurd (omega (arith, q, number-refused kind measure w.0 i o n v))
  by_whole (Ok m) e (Ok r) v z q =
      let a = whole_authority (read_in d major) m e in
      let (first, short) = put_there (with_reading (was major d b m a r) r) old refl z in
      ap (take_call major) first ∙ written-taken major d b m a r short ∙ taken_back kind measure w.0 i o r w.1 w.2 v

pub carried_back : TakenBack
unfolding carry_call
carried_back major d b kind measure i o w old z q =
    by_whole major d b kind measure i o w old (whole_of (read_in d major)) refl (reading_of kind measure i o) refl z q
