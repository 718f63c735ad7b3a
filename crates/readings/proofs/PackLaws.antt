-- What packing hands back, and the bytes of a reading put together. In this order: by the tests of the code; the bytes, by the kind; three parts
-- side by side are one. Assumes nothing.
use mathlib.Core.Path.{◌≡◌, refl, sym, ap, ap₂, ◌∙◌}
use mathlib.Core.Bool.{true, false}
use mathlib.Core.List.{List, ◌++◌}
use Prim.Native.Nat.{ℕ, ◌+◌, ◌≤◌, ◌<◌}
use native.Mathlib.Nat.{zero-add}
use native.Mathlib.Omega.{arith}
use lib.ListN.{length, length-append}
use lib.Ieee.{Float, binary32, to_bits}
use borrow.Author.Tests.{lt-ltb, le-ltb}
use Rattle.std.specs.Prelude.{Ok, Err}
use Rattle.octet.specs.Number.{digits_le}
use Rattle.octet.specs.Part.{splice}
use Rattle.octet.proofs.PartLaws.{splice_next}
use Rattle.octet.proofs.LittleLaws.{length-digits_le}
use Rattle.refusal.specs.Table.{or_refuse}
use Rattle.readings.specs.Reading.{depth_of, fault_of, reading_contents, image, fine}
use Rattle.readings.specs.Pack.{pack_handed, pack_refusals, pack_of}
use Rattle.readings.specs.declared.Reading.{Reading}

module _ (r : Reading) (out : List ℕ) where
  pub pack-no-room : length out < length (image r) → pack_handed (Err 1) out ≡ pack_of r out
  unfolding pack_of pack_refusals or_refuse
  pack-no-room h = simp (lt-ltb _ _ h) refl

  pub pack-outside : length (image r) ≤ length out → fine r.measured ≡ false → pack_handed (Err 3) out ≡ pack_of r out
  unfolding pack_of pack_refusals or_refuse
  pack-outside h f = simp (le-ltb _ _ h, f) refl

  pub pack-written : length (image r) ≤ length out → fine r.measured ≡ true
      → pack_handed (Ok (length (image r))) (splice 0 (image r) out) ≡ pack_of r out
  unfolding pack_of pack_refusals or_refuse
  pack-written h f = simp (le-ltb _ _ h, f) refl

-- ---- the bytes

abbrev pub head : ℕ → ℕ → List ℕ
head size kind = digits_le 256 2 size ++ digits_le 256 2 kind

abbrev pub litres : ℕ → ℕ → List ℕ
litres i o = digits_le 256 4 i ++ digits_le 256 4 o

pub image_depth : (d : Float) (i o : ℕ) → head 14 1 ++ digits_le 256 4 (to_bits binary32 d) ++ litres i o ≡ image (depth_of d i o)
unfolding image reading_contents digits_le
image_depth d i o = refl

pub image_fault : (n i o : ℕ) → head 12 2 ++ digits_le 256 2 n ++ litres i o ≡ image (fault_of n i o)
unfolding image reading_contents digits_le
image_fault n i o = refl

pub length_depth : (d : Float) (i o : ℕ) → length (image (depth_of d i o)) ≡ 16
unfolding image reading_contents digits_le
length_depth d i o = refl

pub length_fault : (n i o : ℕ) → length (image (fault_of n i o)) ≡ 14
unfolding image reading_contents digits_le
length_fault n i o = refl

-- ---- put down one after the other

-- two numbers of one width
pub put_two : (w at m n : ℕ) (out one two : List ℕ) → at + w + w ≤ length out → one ≡ splice at (digits_le 256 w m) out
    → two ≡ splice (at + w) (digits_le 256 w n) one → two ≡ splice at (digits_le 256 w m ++ digits_le 256 w n) out
put_two w at m n out one two room p q =
    q ∙ ap (splice (at + w) (digits_le 256 w n)) p
    ∙ splice_next at w (digits_le 256 w m) (digits_le 256 w n) out (length-digits_le 256 w m) (omega (arith, length-digits_le 256 w n))

-- a reading's three parts

length_head : (size kind : ℕ) → length (head size kind) ≡ 4
unfolding digits_le
length_head size kind = refl

length_litres : (i o : ℕ) → length (litres i o) ≡ 8
unfolding digits_le
length_litres i o = refl

module _ (size kind w m i o : ℕ) (out : List ℕ) (room : 12 + w ≤ length out) where
  side_by_side : splice (4 + w) (litres i o) (splice 4 (digits_le 256 w m) (splice 0 (head size kind) out))
      ≡ splice 0 (head size kind ++ digits_le 256 w m ++ litres i o) out
  side_by_side =
      let a = head size kind in
      let b = digits_le 256 w m in
      let joined : length (a ++ b) ≡ 4 + w = length-append a b ∙ ap₂ (λ (p q : ℕ). p + q) (length_head size kind) (length-digits_le 256 w m) in
      ap (splice (4 + w) (litres i o)) (splice_next 0 4 a b out (length_head size kind) (omega (arith, length-digits_le 256 w m)))
      ∙ ap (λ (k : ℕ). splice k (litres i o) (splice 0 (a ++ b) out)) (sym (zero-add (4 + w)))
      ∙ splice_next 0 (4 + w) (a ++ b) (litres i o) out joined (omega (arith, length_litres i o))

  pub put_three : (one two three : List ℕ) → one ≡ splice 0 (head size kind) out → two ≡ splice 4 (digits_le 256 w m) one
      → three ≡ splice (4 + w) (litres i o) two → three ≡ splice 0 (head size kind ++ digits_le 256 w m ++ litres i o) out
  put_three one two three p q r = r ∙ ap (splice (4 + w) (litres i o)) (q ∙ ap (splice 4 (digits_le 256 w m)) p) ∙ side_by_side
