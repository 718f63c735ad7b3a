-- Laws of a whole message written: its header, then its fields one after another, is its bytes at the start of the output; what writing gives.
-- Assumes nothing.
use Prim.Native.Nat.{ℕ, ◌+◌, ◌≤◌, min}
use native.Mathlib.Decide.{dec_le}
use native.Mathlib.Omega.{arith}
use native.Mathlib.Nat.{zero-add}
use mathlib.Core.List.{List, [], ◌∷◌, ◌++◌, append_assoc}
use mathlib.Core.Bool.{Bool, true, false, cond, ◌&&◌}
use mathlib.Core.Path.{◌≡◌, refl, sym, ap, ◌∙◌}
use lib.Dec.{leb}
use lib.ListN.{length, drop, length-append, replicate, length-replicate}
use borrow.Author.Tests.{lt-leb, leb-true}
use Rattle.octet.specs.Number.{digits_be}
use Rattle.octet.specs.Part.{splice}
use Rattle.octet.proofs.PartLaws.{splice_nil}
use Rattle.octet.proofs.TestLaws.{both_true}
use Rattle.wire_shapes.specs.Field.{gap}
use Rattle.wire_shapes.specs.Shapes.{Kind}
use Rattle.wire_fields.specs.Message.{Contents, layout_from, message_bytes, header_of, layout_of}
use Rattle.wire_shapes.proofs.ShapeLaws.{and_false}
use Rattle.wire_fields.proofs.WholeLaws.{length_header}
use Rattle.wire_read.specs.Meaning.{held}
use Rattle.wire_write.specs.Writing.{Made, fit, write_as, write_in, Wrote}
use Rattle.wire_write.specs.Pieces.{field_bytes, part_bytes, past_of, Given, contents_of, message_pieces}
use Rattle.wire_write.proofs.PutLaws.{put-put, put-length, head_length}

part-is : (i : ℕ) (k : Kind) (t : Bool) (v : List ℕ) (ks : List Kind) (fs : List Contents)
    → message_bytes (layout_from i (k ∷ ks) (held t v ∷ fs))
    ≡ part_bytes i t k.number k.padded v ++ message_bytes (layout_from (past_of i t k.padded (length v)) ks fs)
unfolding part_bytes past_of field_bytes
part-is i k true v ks fs = simp append_assoc
part-is i k false v ks fs = refl

pub part_length : (i : ℕ) (t : Bool) (n : ℕ) (p : Bool) (v : List ℕ) → i + length (part_bytes i t n p v) ≡ past_of i t p (length v)
unfolding part_bytes past_of field_bytes
part_length i true n p v =
    let g = gap p (i + (length v + 4)) in
    let e = length-replicate {A = ℕ} g 0 in
    let e₁ = length-append (digits_be 256 2 n ++ digits_be 256 2 (length v + 4) ++ v) (replicate g 0) in
    let e₂ = length-append (digits_be 256 2 n ++ digits_be 256 2 (length v + 4)) v in
    let e₃ = head_length n (length v + 4) in
    omega arith
part_length i false n p v = omega arith

-- where the fields end
abbrev pub finish : ℕ → List Kind → List Contents → ℕ
finish i ks fs = i + length (message_bytes (layout_from i ks fs))

-- the same by the fields handed in, and the output after all of them
abbrev pub end_all : ℕ → List Kind → List Given → ℕ
end_all i [] gs = i
end_all i (k ∷ ks) [] = i
end_all i (k ∷ ks) (g ∷ gs) = end_all (past_of i g.there k.padded (length g.bytes)) ks gs

abbrev pub put_all : List ℕ → ℕ → List Kind → List Given → List ℕ
put_all o i [] gs = o
put_all o i (k ∷ ks) [] = o
put_all o i (k ∷ ks) (g ∷ gs) =
    put_all (splice i (part_bytes i g.there k.number k.padded g.bytes) o)
    (past_of i g.there k.padded (length g.bytes)) ks gs

pub finish_all : (ks : List Kind) (i : ℕ) (gs : List Given) → finish i ks (contents_of gs) ≡ end_all i ks gs
finish_all [] i gs = omega arith
finish_all (k ∷ ks) i [] = omega arith
finish_all (k ∷ ks) i (g ∷ gs) =
    let j = past_of i g.there k.padded (length g.bytes) in
    let r = message_bytes (layout_from j ks (contents_of gs)) in
    let e₁ = ap length (part-is i k g.there g.bytes ks (contents_of gs)) in
    let e₂ = length-append (part_bytes i g.there k.number k.padded g.bytes) r in
    let e₃ = part_length i g.there k.number k.padded g.bytes in
    let e₄ = finish_all ks j gs in
    omega arith

pub end_least : (ks : List Kind) (i : ℕ) (gs : List Given) → i ≤ end_all i ks gs
end_least ks i gs = let e = finish_all ks i gs in omega arith

pub put_all_lem : (ks : List Kind) (o : List ℕ) (i : ℕ) (gs : List Given) → end_all i ks gs ≤ length o
    → put_all o i ks gs ≡ splice i (message_bytes (layout_from i ks (contents_of gs))) o
put_all_lem [] o i gs h = sym (splice_nil i o)
put_all_lem (k ∷ ks) o i [] h = sym (splice_nil i o)
put_all_lem (k ∷ ks) o i (g ∷ gs) h =
    let j = past_of i g.there k.padded (length g.bytes) in
    let b = part_bytes i g.there k.number k.padded g.bytes in
    let r = message_bytes (layout_from j ks (contents_of gs)) in
    let e = part_length i g.there k.number k.padded g.bytes in
    let f = finish_all ks j gs in
    let l = put-length o i b (omega arith) in
    put_all_lem ks (splice i b o) j gs (omega arith) ∙ put-put o i b (omega arith) j r (sym e) (omega arith)
    ∙ ap (λ (b : List ℕ). splice i b o) (sym (part-is i k g.there g.bytes ks (contents_of gs)))

from_start : (o b : List ℕ) → splice 0 b o ≡ b ++ drop (length b) o
unfolding splice
from_start o b = rw zero-add

-- a field ends no sooner than it starts
pub past_more : (i : ℕ) (t p : Bool) (l : ℕ) → i ≤ past_of i t p l
unfolding past_of
past_more i true p l = omega arith
past_more i false p l = omega arith

-- ---- what writing gives

module _ (m : Made) (old : List ℕ) where
  pub wrote-6 : m.ok ≡ false → Wrote m old (record { number = 6; length = 0 }) old
  unfolding write_as write_in
  wrote-6 k = record { answer = rw k; output = rw k }

  pub wrote-15 : m.ok ≡ true → fit m.bytes old ≡ false → Wrote m old (record { number = 15; length = 0 }) old
  unfolding write_as write_in
  wrote-15 k f = record { answer = rw (k, f); output = rw (k, f) }

  -- what was written for a message whose fields are right, by whether there was room
  pub wrote_by : (room : Bool) (n : ℕ) (out : List ℕ) → m.ok ≡ true → room ≡ fit m.bytes old → (room ≡ true → n ≡ length m.bytes)
      → out ≡ cond room (splice 0 m.bytes old) old
      → Wrote m old (cond room (record { number = 0; length = n }) (record { number = 15; length = 0 })) out
  unfolding write_as write_in
  wrote_by true n out k f e o = record { answer = rw (k, sym f, e refl); output = rw (k, sym f) (o ∙ from_start old m.bytes) }
  wrote_by false n out k f e o = record { answer = rw (k, sym f); output = rw (k, sym f) o }

-- a message of fields handed in
module _ (ks : List Kind) (major minor type id : ℕ) (gs : List Given) (old : List ℕ) where
  whole-size : length (message_bytes (layout_of ks (message_pieces major minor type id gs))) ≡ end_all 12 ks gs
  whole-size =
      let m = message_pieces major minor type id gs in
      length-append (header_of m) (message_bytes (layout_from 12 ks (contents_of gs))) ∙ omega (arith, length_header m, finish_all ks 12 gs)

  -- room for as many bytes as were counted, up to 1233, is room for the message
  pub room-is : (n : ℕ) → n ≡ min 1233 (end_all 12 ks gs)
      → (leb n (length old) && leb n 1232) ≡ fit (message_bytes (layout_of ks (message_pieces major minor type id gs))) old
  unfolding fit
  room-is n e = go (dec_le (end_all 12 ks gs) 1232)
    where
      go : Dec (end_all 12 ks gs ≤ 1232) → (leb n (length old) && leb n 1232)
          ≡ (leb (length (message_bytes (layout_of ks (message_pieces major minor type id gs)))) (length old)
          && leb (length (message_bytes (layout_of ks (message_pieces major minor type id gs)))) 1232)
      go (yes h) = ap (λ (x : ℕ). leb x (length old) && leb x 1232) (omega (arith, whole-size))
      go (no h) =
          rw (whole-size, lt-leb (end_all 12 ks gs) 1232 (omega arith), lt-leb n 1232 (omega arith))
          (and_false (leb n (length old)) ∙ sym (and_false (leb (end_all 12 ks gs) (length old))))

  module _ (f : fit (message_bytes (layout_of ks (message_pieces major minor type id gs))) old ≡ true) where
    -- the fields end within the output and within a datagram
    pub ends-within : (end_all 12 ks gs ≤ length old) × (end_all 12 ks gs ≤ 1232)
    unfolding fit
    ends-within =
        let n = length (message_bytes (layout_of ks (message_pieces major minor type id gs))) in
        let b = both_true (leb n (length old)) (leb n 1232) f in
        let x = leb-true n (length old) b.0 in
        let y = leb-true n 1232 b.1 in
        (omega (arith, whole-size), omega (arith, whole-size))

    pub exact-end : (n : ℕ) → n ≡ min 1233 (end_all 12 ks gs) → n ≡ length (message_bytes (layout_of ks (message_pieces major minor type id gs)))
    exact-end n e = omega (arith, whole-size, ends-within.1)

    pub whole-put : splice 12 (message_bytes (layout_from 12 ks (contents_of gs))) (splice 0 (header_of (message_pieces major minor type id gs)) old)
        ≡ splice 0 (message_bytes (layout_of ks (message_pieces major minor type id gs))) old
    whole-put =
        let header = header_of (message_pieces major minor type id gs) in
        let r = message_bytes (layout_from 12 ks (contents_of gs)) in
        let lh = length_header (message_pieces major minor type id gs) in
        let e = finish_all ks 12 gs in
        let w = ends-within.0 in
        put-put old 0 header (omega arith) 12 r (omega arith) (omega arith)
