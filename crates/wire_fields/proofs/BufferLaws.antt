-- An AUTHORITY's buffer by itself, in any list: what is found is what it reads as, and the other way round; and it is the same fields
-- whether it stands at place 0 or after the split controls, at 28.
use Prim.Native.Nat.{ℕ, ◌+◌}
use native.Mathlib.Omega.{arith}
use mathlib.Core.List.{List, [], ◌∷◌}
use mathlib.Core.Bool.{Bool, true, false}
use mathlib.Core.Option.{some, none}
use mathlib.Core.Path.{◌≡◌, refl, ap, ◌∙◌}
use lib.ListN.{length}
use Rattle.octet.specs.Number.{Bytes}
use Rattle.wire_shapes.specs.Field.{gap}
use Rattle.wire_shapes.specs.Shapes.{Kind}
use Rattle.wire_fields.specs.Kinds.{buffer_kinds}
use Rattle.wire_fields.specs.Message.{Contents, Formed, layout_from, message_bytes, cleared, parts_of}
use Rattle.wire_fields.specs.Reading.{places_at, values_of}
use Rattle.wire_fields.specs.Places.{Part}
use Rattle.wire_fields.proofs.SegmentLaws.{agrees_of, of_agrees}
use Rattle.wire_fields.proofs.TableLaws.{sound, complete}
use Rattle.wire_fields.proofs.KindLaws.{buffer_lawful}
use Rattle.wire_fields.proofs.WholeLaws.{lengths}

-- a list of bytes reads as a buffer with these fields
pub record BufferReads (b : List ℕ) (fs : List Contents) : Type 0 where
  pub formed : Formed buffer_kinds fs
  pub same : cleared (layout_from 0 buffer_kinds fs) b ≡ message_bytes (layout_from 0 buffer_kinds fs)

pub buffer_found : (b : List ℕ) → Bytes b → (ps : List Part) → places_at buffer_kinds b 0 ≡ some ps → BufferReads b (values_of buffer_kinds b ps)
buffer_found b h ps e =
    let s = sound buffer_kinds buffer_lawful b h 0 ps e in
    record { formed = s.0; same = of_agrees (layout_from 0 buffer_kinds (values_of buffer_kinds b ps)) b s.1 }

pub buffer_reads : (b : List ℕ) (fs : List Contents) → BufferReads b fs
    → (places_at buffer_kinds b 0 ≡ some (parts_of 0 buffer_kinds fs)) × (values_of buffer_kinds b (parts_of 0 buffer_kinds fs) ≡ fs)
buffer_reads b fs r =
    complete buffer_kinds buffer_lawful b 0 (omega arith) fs r.formed
    (agrees_of (layout_from 0 buffer_kinds fs) (lengths buffer_kinds buffer_lawful 0 fs) b r.same)

gap_shift : (p : Bool) (e : ℕ) → gap p (28 + e) ≡ gap p e
gap_shift true e = omega arith
gap_shift false e = refl

pub layout_shift : (ks : List Kind) (i : ℕ) (fs : List Contents) → layout_from (28 + i) ks fs ≡ layout_from i ks fs
layout_shift [] i fs = refl
layout_shift (k ∷ ks) i [] = refl
layout_shift (k ∷ ks) i (none ∷ fs) = layout_shift ks i fs
layout_shift (k ∷ ks) i (some v ∷ fs) =
    let n = length v + 4 in
    let a : 28 + i + n ≡ 28 + (i + n) = omega arith in
    let g : gap k.padded (28 + i + n) ≡ gap k.padded (i + n) = ap (gap k.padded) a ∙ gap_shift k.padded (i + n) in
    let e : 28 + i + n + gap k.padded (28 + i + n) ≡ 28 + (i + n + gap k.padded (i + n)) = omega arith in
    let r = layout_shift ks (i + n + gap k.padded (i + n)) fs in
    rw (e, g, r)
