-- Laws of readings carried. In this order: an AUTHORITY that is wanted; the call by what was read; a reading that may be written; its bytes; what
-- is written. Assumes nothing.
use mathlib.Core.Path.{◌≡◌, refl, sym, ap, ap₂, subst, ◌∙◌}
use mathlib.Core.Bool.{Bool, true, false, not, cond, ◌&&◌}
use mathlib.Core.List.{List, [], ◌++◌}
use mathlib.Core.Option.{Option, some, none}
use Prim.Native.Nat.{ℕ, ◌+◌, ◌≤◌}
use native.Mathlib.Omega.{arith}
use lib.Dec.{eqb, leb, ltb}
use lib.Ieee.{Float, binary32, of_bits}
use lib.ListN.{length, take}
use borrow.Author.Tests.{leb-true}
use Rattle.std.specs.Prelude.{Result, Ok, Err}
use Rattle.octet.specs.Number.{Bytes, digits_le}
use Rattle.octet.proofs.LittleLaws.{digits_le-lt}
use Rattle.octet.proofs.TestLaws.{both_true}
use Rattle.octet.specs.Part.{part, splice}
use Rattle.wire_fields.specs.Message.{Message}
use Rattle.wire_fields.specs.Reading.{contents_in}
use Rattle.std.specs.Prelude.{Some, None}
use Rattle.wire_fields.specs.declared.Place.{Place}
use Rattle.wire_fields.specs.Places.{Part}
use Rattle.wire_write.specs.Writing.{Made, fit, write_as, write_in, Wrote}
use Rattle.wire_write.specs.declared.Written as W
use Rattle.wire_payload.specs.Payload.{with_payload}
use Rattle.wire.proofs.PayloadLaws.{seen, payload-within}
use Rattle.wire.proofs.Theorems.{payload_written, authority-is, authority-again}
use Rattle.wire_read.specs.Answers.{read_in}
use Rattle.wire_read.specs.Meaning.{message_of, number_of}
use Rattle.wire_read.specs.Readers.{or_number}
use Rattle.wire_read.specs.declared.Incoming.{Incoming}
use Rattle.wire_read.specs.declared.Incoming.TheVariants as M
use Rattle.wire_read.specs.declared.messages.Authority as T
use Rattle.refusal.specs.Table.{or_refuse}
use Rattle.refusal.proofs.CallLaws.{or_known}
use Rattle.octet.proofs.PartLaws.{take-splice, length-splice}
use Rattle.octet.proofs.BytesLaws.{bytes_append}
use Rattle.readings.specs.Depth.{allowed}
use Rattle.readings.specs.Reading.{reading, kind_of, measure_of, width_of, is_kind, measured_as, reading_contents, image, fine}
use Rattle.readings.specs.Numbers.{number_refusals, reading_of}
use Rattle.readings.specs.Unpack.{kind_in, measure_in, unpack_refusals, reading_in, unpack_of}
use Rattle.readings.specs.Pack.{pack_of}
use Rattle.readings.specs.Pack as P
use Rattle.readings.specs.declared.Measured.{Measured}
use Rattle.readings.specs.declared.Measured.TheVariants.{Depth, Fault}
use Rattle.readings.proofs.PackLaws.{pack-written, length_depth, length_fault}
use Rattle.readings.specs.declared.Reading.{Reading}
use Rattle.carried.specs.declared.Carry.{Carry}
use Rattle.carried.specs.Whole.{whole_of}
use Rattle.carried.specs.Carry.{carry, CarryHanded, carry_handed, with_reading, carry_as, carry_by, carry_call}
use Rattle.carried.specs.Take.{nothing, taken_by, taken_from, taken_as, take_by, take_call}

-- ---- the AUTHORITY that is wanted

other : {n : ℕ} {m : T.Authority} {A : Type 0} → Err n ≡ Ok m → A
other e = absurd (let z : ◌≡◌ {A = ℕ} 0 1 = cc in omega arith)

-- the type of a message, 0 where there is none
abbrev pub typed : Option Message → ℕ
typed none = 0
typed (some m) = m.type

-- a refusal, an AUTHORITY, or another message
pub data Wanted (a : Incoming) : Type 0 where
  is-refused : (n : ℕ) → a ≡ M.Refused n → Wanted a
  is-wanted : (m : T.Authority) → a ≡ M.Authority m → Wanted a
  is-another : whole_of a ≡ Err 5 → number_of a ≡ 0 → ((major : ℕ) (d : List ℕ) → ¬ (typed (message_of major d a) ≡ 8)) → Wanted a

pub wanted_as : (a : Incoming) → Wanted a
unfolding message_of
wanted_as (M.Refused n) = is-refused n refl
wanted_as (M.Authority m) = is-wanted m refl
wanted_as (M.Solicit m) = is-another refl refl (λ major d e. omega (arith, e))
wanted_as (M.Advertise m) = is-another refl refl (λ major d e. omega (arith, e))
wanted_as (M.Request m) = is-another refl refl (λ major d e. omega (arith, e))
wanted_as (M.Flood m) = is-another refl refl (λ major d e. omega (arith, e))
wanted_as (M.Inquire m) = is-another refl refl (λ major d e. omega (arith, e))
wanted_as (M.Ack m) = is-another refl refl (λ major d e. omega (arith, e))
wanted_as (M.Lookup m) = is-another refl refl (λ major d e. omega (arith, e))

pub whole_authority : (a : Incoming) (m : T.Authority) → whole_of a ≡ Ok m → a ≡ M.Authority m
whole_authority a m e = by (wanted_as a)
  where
    by : Wanted a → a ≡ M.Authority m
    by (is-refused n q) = other (sym (ap whole_of q) ∙ e)
    by (is-wanted x q) = q ∙ ap M.Authority (let z : Ok x ≡ Ok m = sym (ap whole_of q) ∙ e in cc)
    by (is-another w z t) = other (sym w ∙ e)

-- an AUTHORITY is what its reader says, or the number of its refusal
pub read-whole : (r : Result T.Authority ℕ) (a b : Incoming) → a ≡ b → or_number M.Authority r ≡ b → whole_of a ≡ r
read-whole (Ok m) a b e f = ap whole_of (e ∙ sym f)
read-whole (Err n) a b e f = ap whole_of (e ∙ sym f)

-- ---- the calls, by what was read

module _ (major : ℕ) (d : List ℕ) where
  pub carry-other : (n : ℕ) (u : Result Reading ℕ) (old : List ℕ) → whole_of (read_in d major) ≡ Err n → carry_handed (carry n 0 0) old ≡ carry_call major d u old
  unfolding carry_call
  carry-other n u old e = sym (ap (λ (w : Result T.Authority ℕ). carry_by major d w u old) e)

  pub carry-authority : (m : T.Authority) (u : Result Reading ℕ) (old : List ℕ) → whole_of (read_in d major) ≡ Ok m
      → carry_as (message_of major d (M.Authority m)) u old ≡ carry_call major d u old
  unfolding carry_call
  carry-authority m u old e = sym (ap (λ (w : Result T.Authority ℕ). carry_by major d w u old) e)

  pub take-other : (n : ℕ) → whole_of (read_in d major) ≡ Err n → nothing n 0 ≡ take_call major d
  unfolding take_call
  take-other n e = sym (ap (take_by major d) e)

  pub take-authority : (m : T.Authority) → whole_of (read_in d major) ≡ Ok m
      → taken_as (message_of major d (M.Authority m)) ≡ take_call major d
  unfolding take_call
  take-authority m e = sym (ap (take_by major d) e)

-- ---- a reading that may be written

fine_by : (a b c : Bool) (x r : Reading)
    → ◌≡◌ {A = Result Reading ℕ} (cond a (Err 1) (cond b (Err 2) (cond c (Err 3) (Ok x)))) (Ok r) → (c ≡ false) × (x ≡ r)
fine_by true b c x r e = absurd (let z : ◌≡◌ {A = ℕ} 0 1 = cc in omega arith)
fine_by false true c x r e = absurd (let z : ◌≡◌ {A = ℕ} 0 1 = cc in omega arith)
fine_by false false true x r e = absurd (let z : ◌≡◌ {A = ℕ} 0 1 = cc in omega arith)
fine_by false false false x r e = (refl, cc)

measured_fine : (b t : Bool) (d : Float) (n : ℕ) → t ≡ allowed d → b && not t ≡ false → fine (cond b (Depth d) (Fault n)) ≡ true
measured_fine true true d n e h = sym e
measured_fine true false d n e h = absurd (let z : ◌≡◌ {A = Bool} true false = h in let y : ◌≡◌ {A = ℕ} 0 1 = cc in omega arith)
measured_fine false t d n e h = refl

pub reading-fine : (kind measure i o : ℕ) (r : Reading) → reading_of kind measure i o ≡ Ok r → fine r.measured ≡ true
unfolding reading_of number_refusals or_refuse
reading-fine kind measure i o r e =
    let d = of_bits binary32 measure in
    let w =
    fine_by (eqb kind 2 && ltb 65535 measure) (not (is_kind kind)) (eqb kind 1 && not (allowed d)) (reading (measured_as kind measure) i o) r e in
    subst (λ (x : Reading). fine x.measured ≡ true) w.1 (measured_fine (eqb kind 1) (allowed d) d measure refl w.0)

-- and so may one that was read
pub unpack_fine : (s : List ℕ) (r : Reading) → unpack_of s ≡ Ok r → fine r.measured ≡ true
unfolding unpack_of unpack_refusals reading_in
unpack_fine s =
    let d = of_bits binary32 (measure_in s) in
    or_known (λ (u : Result Reading ℕ). (r : Reading) → u ≡ Ok r → fine r.measured ≡ true) Err (unpack_refusals s) (Ok (reading_in s))
    (λ n r e. absurd (let z : ◌≡◌ {A = ℕ} 0 1 = cc in omega arith))
    (λ all r e.
    let same : reading_in s ≡ r = cc in
    subst (λ (x : Reading). fine x.measured ≡ true) same
    (measured_fine (eqb (kind_in s) 1) (allowed d) d (measure_in s) refl all.1.1.1.1.0))

-- ---- its bytes

pub image_short : (m : Measured) (i o : ℕ) → length (image (reading m i o)) ≤ 16
image_short (Depth d) i o = omega (arith, length_depth d i o)
image_short (Fault n) i o = omega (arith, length_fault n i o)

-- with room for 16 bytes it is written
pub packed_sure : (r : Reading) (out left : List ℕ) (a : Result ℕ ℕ) → fine r.measured ≡ true → length out ≡ 16 → P.pack_handed a left ≡ pack_of r out
    → (a ≡ Ok (length (image r))) × (left ≡ splice 0 (image r) out)
packed_sure r out left a g l e =
    let p = e ∙ sym (pack-written r out (omega (arith, l, image_short r.measured r.inflow r.outflow)) g) in
    (ap (λ (h : P.PackHanded). h.answer) p, ap (λ (h : P.PackHanded). h.out) p)

-- its first bytes are the reading's
pub packed_image : (r : Reading) (out left : List ℕ) → length out ≡ 16 → left ≡ splice 0 (image r) out → take (length (image r)) left ≡ image r
packed_image r out left l e =
    let z : length (image r) ≡ 0 + length (image r) = omega arith in
    ap (take (length (image r))) e ∙ ap (λ (n : ℕ). take n (splice 0 (image r) out)) z
    ∙ take-splice 0 (image r) out (omega (arith, l, image_short r.measured r.inflow r.outflow))

digits : (w n : ℕ) → Bytes (digits_le 256 w n)
digits w n = digits_le-lt 256 w n (omega arith)

pub image_bytes : (r : Reading) → Bytes (image r)
unfolding image reading_contents
image_bytes r =
    let kind = kind_of r.measured in
    let a = digits_le 256 2 kind in
    let b = digits_le 256 (width_of kind) (measure_of r.measured) in
    let c = digits_le 256 4 r.inflow in
    let d = digits_le 256 4 r.outflow in
    bytes_append (digits_le 256 2 (length (a ++ b ++ c ++ d))) (a ++ b ++ c ++ d) (digits 2 _)
    (bytes_append (a ++ b ++ c) d (bytes_append (a ++ b) c (bytes_append a b (digits 2 _) (digits (width_of kind) _)) (digits 4 _)) (digits 4 _))

-- ---- what is written

short_by : (a b : Bool) (n : ℕ) → (b ≡ true → n ≤ 1232)
    → (let w : W.Written = cond a (cond b (record { number = 0; length = n }) (record { number = 15; length = 0 }))
    (record { number = 6; length = 0 }) in w.length ≤ 1232)
short_by true true n h = h refl
short_by true false n h = omega arith
short_by false b n h = omega arith

pub written_short : (m : Made) (old : List ℕ) (r : W.Written) → r ≡ write_as m old → r.length ≤ 1232
unfolding write_as fit
written_short m old r e =
    subst (λ (w : W.Written). w.length ≤ 1232) (sym e)
    (short_by m.ok (leb (length m.bytes) (length old) && leb (length m.bytes) 1232) (length m.bytes)
    (λ q. leb-true (length m.bytes) 1232 (both_true (leb (length m.bytes) (length old)) (leb (length m.bytes) 1232) q).1))

-- the AUTHORITY that was read, with the reading
module _ (major : ℕ) (d : List ℕ) (b : Bytes d) (m : T.Authority) (a : read_in d major ≡ M.Authority m) where
  pub carried-as : (r : Reading) (old : List ℕ) (w : W.Written) (out v : List ℕ) → v ≡ image r → Wrote (with_payload major d m v) old w out
      → carry_handed (carry w.number w.length 0) out ≡ carry_as (message_of major d (M.Authority m)) (Ok r) old
  unfolding message_of
  carried-as r old w out v e x =
      let s = seen major d m [] in
      let made : with_payload major d m v ≡ with_reading s r =
      ap (with_payload major d m) e
      ∙ payload_written d b major m s a (authority-is d b major m a) (image r) (image_bytes r)
      (omega (arith, image_short r.measured r.inflow r.outflow)) in
      ap₂ (λ (y : W.Written) (l : List ℕ). carry_handed (carry y.number y.length 0) l) (x.answer ∙ ap (λ (y : Made). write_as y old) made)
      (x.output ∙ ap (λ (y : Made). write_in y old) made)

  -- ---- what is taken

  pub payload-there : (p : Place) → m.fields.payload ≡ Some p → p.start + p.len ≤ length d
  payload-there p q = payload-within major d m [] p.start p.len (authority-again d b major m a) q

  pub none-taken : m.fields.payload ≡ None → nothing 0 0 ≡ taken_as (message_of major d (M.Authority m))
  unfolding message_of
  none-taken q = sym (ap (λ (p : Part). taken_from (contents_in d p)) q)

  pub some-taken : (p : Place) → m.fields.payload ≡ Some p → taken_by (unpack_of (part p.start p.len d)) ≡ taken_as (message_of major d (M.Authority m))
  unfolding message_of
  some-taken p q = sym (ap (λ (p : Part). taken_from (contents_in d p)) q)

  -- ---- as the code has it

  pub carried-refused : (u : Result Reading ℕ) (n : ℕ) (old : List ℕ) (g : Carry) → u ≡ Err n → g ≡ carry 0 0 n
      → carry_handed g old ≡ carry_as (message_of major d (M.Authority m)) u old
  unfolding message_of
  carried-refused u n old g e q =
      ap (λ (x : Carry). carry_handed x old) q ∙ sym (ap (λ (x : Result Reading ℕ). carry_as (message_of major d (M.Authority m)) x old) e)

  pub carried-read : (u : Result Reading ℕ) (r : Reading) (old : List ℕ) (x : CarryHanded) → u ≡ Ok r
      → x ≡ carry_as (message_of major d (M.Authority m)) (Ok r) old
      → x ≡ carry_as (message_of major d (M.Authority m)) u old
  carried-read u r old x e q = q ∙ sym (ap (λ (y : Result Reading ℕ). carry_as (message_of major d (M.Authority m)) y old) e)

-- a reading that may be written is packed into 16 bytes
module _ (r : Reading) (out left : List ℕ) (a : Result ℕ ℕ) (g : fine r.measured ≡ true) (l : length out ≡ 16)
    (e : P.pack_handed a left ≡ pack_of r out) where
  pub not-refused : {A : Type 0} (n : ℕ) → a ≡ Err n → A
  not-refused n q = absurd (let z = sym (packed_sure r out left a g l e).0 ∙ q in let y : ◌≡◌ {A = ℕ} 0 1 = cc in omega arith)

  pub packed-length : (n : ℕ) → a ≡ Ok n → n ≡ length (image r)
  packed-length n q = let z = sym q ∙ (packed_sure r out left a g l e).0 in cc

  pub packed-fits : (n : ℕ) → a ≡ Ok n → n ≤ 16
  packed-fits n q = omega (arith, packed-length n q, image_short r.measured r.inflow r.outflow)

  pub packed-left : length left ≡ 16
  packed-left =
      ap length (packed_sure r out left a g l e).1
      ∙ length-splice 0 (image r) out (omega (arith, l, image_short r.measured r.inflow r.outflow)) ∙ l

  pub packed-bytes : (n : ℕ) → a ≡ Ok n → take n left ≡ image r
  packed-bytes n q =
      ap (λ (k : ℕ). take k left) (packed-length n q) ∙ packed_image r out left l (packed_sure r out left a g l e).1
