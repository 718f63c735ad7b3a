-- There and back. In this order: a reading written, and read; bytes read, and written; the same through the contracts. Assumes nothing.
use mathlib.Core.Path.{◌≡◌, refl, sym, ap, ap₂, subst, ◌∙◌}
use mathlib.Core.Bool.{Bool, true, false, not, ◌&&◌, ◌||◌}
use mathlib.Core.List.{List, [], ◌++◌, append-nil}
use Prim.Native.Nat.{ℕ, ◌+◌, ◌^◌, ◌≤◌, ◌<◌}
use native.Mathlib.Omega.{arith}
use lib.Dec.{eqb}
use lib.ListN.{length, take, drop, take-append-drop, drop_of_length-le}
use lib.Seq.{drop-drop}
use lib.Ieee.{Float, binary32, of_bits, to_bits}
use lib.Ieee.Bits.{of_bits-to_bits, to_bits-of_bits, to_bits-lt, of_bits-fits}
use borrow.Author.Tests.{eq-eqb, eqb-true, ltb-false, not-false}
use Rattle.std.specs.Prelude.{Result, Ok, Err}
use Rattle.octet.specs.Number.{Bytes, value_le, digits_le}
use Rattle.octet.specs.Part.{part, splice}
use Rattle.octet.proofs.PartLaws.{length_part, part-digits, part-splice}
use Rattle.octet.proofs.LittleLaws.{value_le-lt, value_le-digits_le, digits_le-value_le}
use Rattle.refusal.specs.Table.{or_refuse}
use Rattle.refusal.proofs.TableLaws.{AllFail, both}
use Rattle.refusal.proofs.CallLaws.{or_known}
use Rattle.readings.specs.Depth.{allowed}
use Rattle.readings.specs.Reading.{reading, depth_of, fault_of, reading_contents, image, fine, MeasuredFits, Typed}
use Rattle.readings.specs.Unpack.{number_at, told_in, kind_in, measure_in, length_fits, unpack_refusals, reading_in, unpack_of}
use Rattle.readings.specs.Pack.{PackHanded, pack_handed, pack_refusals, pack_of}
use Rattle.readings.specs.Numbers.{depth_reading}
use Rattle.readings.specs.Statements.{ReadingReadsBack, WritesBack, PackedReads, UnpackedWrites}
use Rattle.readings.specs.declared.Measured.{Measured}
use Rattle.readings.specs.declared.Measured.TheVariants.{Depth, Fault}
use Rattle.readings.specs.declared.Reading.{Reading}
use Rattle.readings.proofs.DepthLaws.{allowed_no_nan}
use Rattle.readings.proofs.UnpackLaws.{unpack-depth, unpack-fault, depth-whole, fault-whole}
use Rattle.readings.proofs.PackLaws.{pack-written}

-- ---- a reading written, and read

-- bytes whose numbers are those of a reading
depth_read : (s : List ℕ) (d : Float) (i o : ℕ) → length s ≡ 16 → told_in s ≡ 14 → kind_in s ≡ 1 → of_bits binary32 (number_at 4 4 s) ≡ d
    → number_at 8 4 s ≡ i → number_at 12 4 s ≡ o → allowed d ≡ true → unpack_of s ≡ Ok (depth_of d i o)
unfolding depth_reading or_refuse
depth_read s d i o l told kind bits in_is out-is good =
    sym (unpack-depth s (omega arith) (omega arith) kind) ∙ sym (depth-whole s l) ∙ simp (bits, in_is, out-is, good) refl

fault_read : (s : List ℕ) (n i o : ℕ) → length s ≡ 14 → told_in s ≡ 12 → kind_in s ≡ 2 → number_at 4 2 s ≡ n
    → number_at 6 4 s ≡ i → number_at 10 4 s ≡ o → unpack_of s ≡ Ok (fault_of n i o)
fault_read s n i o l told kind fault in_is out-is =
    sym (unpack-fault s (omega arith) (omega arith) kind) ∙ sym (fault-whole s l) ∙ simp (fault, in_is, out-is) refl

module _ (i o : ℕ) (hi : i < 4294967296) (ho : o < 4294967296) where
  back : (m : Measured) → MeasuredFits m → fine m ≡ true → unpack_of (image (reading m i o)) ≡ Ok (reading m i o)
  unfolding image reading_contents digits_le
  back (Depth d) t good =
      let bits = to_bits binary32 d in
      let b : value_le 256 (digits_le 256 4 bits) ≡ bits = value_le-digits_le 256 4 bits (omega arith) (to_bits-lt binary32 d t) in
      depth_read (image (depth_of d i o)) d i o refl
      (value_le-digits_le 256 2 14 (omega arith) (omega arith)) (value_le-digits_le 256 2 1 (omega arith) (omega arith))
      (ap (of_bits binary32) b ∙ of_bits-to_bits binary32 d t)
      (value_le-digits_le 256 4 i (omega arith) hi) (value_le-digits_le 256 4 o (omega arith) ho) good
  back (Fault n) t good =
      fault_read (image (fault_of n i o)) n i o refl
      (value_le-digits_le 256 2 12 (omega arith) (omega arith)) (value_le-digits_le 256 2 2 (omega arith) (omega arith))
      (value_le-digits_le 256 2 n (omega arith) t) (value_le-digits_le 256 4 i (omega arith) hi) (value_le-digits_le 256 4 o (omega arith) ho)

pub reads_back : ReadingReadsBack
reads_back r t good = back r.inflow r.outflow t.1 t.2 r.measured t.0 good

-- ---- bytes read, and written

module _ (s : List ℕ) (b : Bytes s) where
  -- the digits of the number at a place, and what stands behind them
  piece : (at n : ℕ) → at + n ≤ length s → digits_le 256 n (number_at at n s) ++ drop (at + n) s ≡ drop at s
  piece at n h =
      let p = part at n s in
      let digits : digits_le 256 n (value_le 256 p) ≡ p =
      subst (λ (k : ℕ). digits_le 256 k (value_le 256 p) ≡ p) (length_part at n s h)
      (digits_le-value_le 256 p (part-digits 256 at n s (omega arith) b)) in
      ap₂ ◌++◌ digits (sym (drop-drop n at s)) ∙ take-append-drop n (drop at s)

  below : (at n : ℕ) → at + n ≤ length s → number_at at n s < 256 ^ n
  below at n h =
      subst (λ (k : ℕ). number_at at n s < 256 ^ k) (length_part at n s h) (value_le-lt 256 (part at n s) (part-digits 256 at n s (omega arith) b))

  -- the digits of all five numbers, one after the other
  all-five : (w : ℕ) → length s ≡ 12 + w
      → digits_le 256 2 (told_in s) ++ (digits_le 256 2 (kind_in s) ++ (digits_le 256 w (number_at 4 w s)
      ++ (digits_le 256 4 (number_at (4 + w) 4 s) ++ digits_le 256 4 (number_at (8 + w) 4 s)))) ≡ s
  all-five w l =
      let told = digits_le 256 2 (told_in s) in
      let kind = digits_le 256 2 (kind_in s) in
      let measure = digits_le 256 w (number_at 4 w s) in
      let inflow = digits_le 256 4 (number_at (4 + w) 4 s) in
      let outflow = digits_le 256 4 (number_at (8 + w) 4 s) in
      let end : drop (8 + w + 4) s ≡ [] = drop_of_length-le s {i = 8 + w + 4} (omega (arith, l)) in
      let last : outflow ≡ drop (8 + w) s =
      sym (append-nil outflow) ∙ ap (λ (x : List ℕ). outflow ++ x) (sym end) ∙ piece (8 + w) 4 (omega (arith, l)) in
      let next : 8 + w ≡ 4 + w + 4 = omega arith in
      ap (λ (x : List ℕ). told ++ (kind ++ (measure ++ (inflow ++ x)))) (last ∙ ap (λ (k : ℕ). drop k s) next)
      ∙ ap (λ (x : List ℕ). told ++ (kind ++ (measure ++ x))) (piece (4 + w) 4 (omega (arith, l)))
      ∙ ap (λ (x : List ℕ). told ++ (kind ++ x)) (piece 4 w (omega (arith, l)))
      ∙ ap (λ (x : List ℕ). told ++ x) (piece 2 2 (omega (arith, l)))
      ∙ piece 0 2 (omega (arith, l))

  depth-image : length s ≡ 16 → told_in s ≡ 14 → kind_in s ≡ 1 → allowed (of_bits binary32 (number_at 4 4 s)) ≡ true
      → image (depth_of (of_bits binary32 (number_at 4 4 s)) (number_at 8 4 s) (number_at 12 4 s)) ≡ s
  unfolding image reading_contents digits_le
  depth-image l told kind good =
      let bits : to_bits binary32 (of_bits binary32 (number_at 4 4 s)) ≡ number_at 4 4 s =
      to_bits-of_bits binary32 (number_at 4 4 s) (below 4 4 (omega (arith, l))) (allowed_no_nan _ good) in
      let whole = all-five 4 (omega (arith, l)) in
      rw bits (rw (told, kind) at whole)

  fault-image : length s ≡ 14 → told_in s ≡ 12 → kind_in s ≡ 2 → image (fault_of (number_at 4 2 s) (number_at 6 4 s) (number_at 10 4 s)) ≡ s
  unfolding image reading_contents digits_le
  fault-image l told kind =
      let whole = all-five 2 (omega (arith, l)) in
      rw (told, kind) at whole

-- what was accepted: each test failed, and it is what stands behind the table
accepted : (s : List ℕ) (r : Reading) → unpack_of s ≡ Ok r → AllFail (unpack_refusals s) × (reading_in s ≡ r)
unfolding unpack_of
accepted s r e =
    or_known (λ (u : Result Reading ℕ). u ≡ Ok r → AllFail (unpack_refusals s) × (reading_in s ≡ r)) Err (unpack_refusals s) (Ok (reading_in s))
    (λ n f. let z : ◌≡◌ {A = ℕ} 0 1 = cc in absurd (omega arith)) (λ fails f. (fails, cc)) e

-- a reading whose bytes they are, with values of their types and an allowed depth
abbrev Of : List ℕ → Reading → Type 0
Of s r = (image r ≡ s) × Typed r × (fine r.measured ≡ true)

not_both : (a x : Bool) → a ≡ true → a && not x ≡ false → x ≡ true
not_both true x p e = not-false x e
not_both false x p e = both p refl

neither : (a c : Bool) → a ≡ false → c ≡ false → not (a || c) ≡ false → ⊥
neither true c p q e = both refl p
neither false true p q e = both refl q
neither false false p q e = both refl e

module _ (s : List ℕ) (b : Bytes s) (fails : AllFail (unpack_refusals s)) where
  tests : (length s ≡ 2 + told_in s) × (length_fits (kind_in s) (length s) ≡ true)
  unfolding unpack_refusals
  tests = (eqb-true _ _ (not-false _ fails.1.0), not-false _ fails.1.1.0)

  depth-of : kind_in s ≡ 1 → Of s (reading_in s)
  unfolding unpack_refusals length_fits reading_in
  depth-of kind =
      let fit : length_fits 1 (length s) ≡ true = rw kind at tests.1 in
      let l = eqb-true (length s) 16 fit in
      let inside : allowed (of_bits binary32 (measure_in s)) ≡ true =
      not_both (eqb (kind_in s) 1) (allowed (of_bits binary32 (measure_in s))) (eq-eqb _ _ kind) fails.1.1.1.1.0 in
      let good : allowed (of_bits binary32 (number_at 4 4 s)) ≡ true = rw kind at inside in
      rw kind (
        depth-image s b l (omega (arith, l, tests.0)) kind good,
        (of_bits-fits binary32 (number_at 4 4 s), below s b 8 4 (omega (arith, l)), below s b 12 4 (omega (arith, l))),
        good,
      )

  fault-of : kind_in s ≡ 2 → Of s (reading_in s)
  unfolding unpack_refusals length_fits reading_in
  fault-of kind =
      let fit : length_fits 2 (length s) ≡ true = rw kind at tests.1 in
      let l = eqb-true (length s) 14 fit in
      rw kind (
        fault-image s b l (omega (arith, l, tests.0)) kind,
        (below s b 4 2 (omega (arith, l)), below s b 6 4 (omega (arith, l)), below s b 10 4 (omega (arith, l))),
        refl,
      )

  by_kind : (a c : Bool) → eqb (kind_in s) 1 ≡ a → eqb (kind_in s) 2 ≡ c → Of s (reading_in s)
  unfolding unpack_refusals
  by_kind true c p q = depth-of (eqb-true _ 1 p)
  by_kind false true p q = fault-of (eqb-true _ 2 q)
  by_kind false false p q = absurd (neither (eqb (kind_in s) 1) (eqb (kind_in s) 2) p q fails.1.1.1.0)

pub writes_back : WritesBack
writes_back s b r e =
    let a = accepted s r e in
    subst (Of s) a.1 (by_kind s b a.0 (eqb (kind_in s) 1) (eqb (kind_in s) 2) refl refl)

-- ---- through the contracts

-- what was written: there was room, the depth is allowed, and the answer and the bytes are those of the reading
written : (r : Reading) (out left : List ℕ) (n : ℕ) → pack_handed (Ok n) left ≡ pack_of r out
    → (length (image r) ≤ length out) × (fine r.measured ≡ true) × (n ≡ length (image r)) × (left ≡ splice 0 (image r) out)
unfolding pack_of pack_refusals
written r out left n e =
    or_known
    (λ (h : PackHanded). pack_handed (Ok n) left ≡ h
    → (length (image r) ≤ length out) × (fine r.measured ≡ true) × (n ≡ length (image r)) × (left ≡ splice 0 (image r) out))
    (λ (k : ℕ). pack_handed (Err k) out) (pack_refusals r out) (pack_handed (Ok (length (image r))) (splice 0 (image r) out))
    (λ k f. let a : Ok n ≡ Err k = ap (λ (h : PackHanded). h.answer) f in let z : ◌≡◌ {A = ℕ} 0 1 = cc in absurd (omega arith))
    (λ fails f.
    let a : Ok n ≡ Ok (length (image r)) = ap (λ (h : PackHanded). h.answer) f in
    (ltb-false _ _ fails.0, not-false _ fails.1.0, cc, ap (λ (h : PackHanded). h.out) f))
    e

pub packed_reads : PackedReads
packed_reads r t out left n e u is =
    let w = written r out left n e in
    let start : take n left ≡ image r = ap₂ (λ (k : ℕ) (l : List ℕ). take k l) w.2 w.3 ∙ part-splice 0 (image r) out (omega (arith, w.0)) in
    is ∙ ap unpack_of start ∙ reads_back r t w.1

pub unpacked_writes : UnpackedWrites
unpacked_writes s b r is out left a room e =
    let o = writes_back s b r (sym is) in
    let enough : length (image r) ≤ length out = rw o.0 room in
    let all = e ∙ sym (pack-written r out enough o.2) in (
      ap (λ (h : PackHanded). h.answer) all ∙ ap (λ (l : List ℕ). Ok (length l)) o.0,
      ap (λ (h : PackHanded). h.out) all ∙ ap (λ (l : List ℕ). splice 0 l out) o.0,
    )
