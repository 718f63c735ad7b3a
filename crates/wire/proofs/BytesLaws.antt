-- What a well-formed message is written as is bytes. Assumes nothing.
use Prim.Native.Nat.{ℕ, zero, suc, ◌+◌}
use native.Mathlib.Omega.{arith}
use mathlib.Core.List.{List, [], ◌∷◌, ◌++◌}
use mathlib.Core.Option.{some, none}
use lib.ListN.{length, replicate}
use Rattle.octet.specs.Number.{Bytes, digits_be}
use Rattle.octet.proofs.BytesLaws.{bytes_nil, bytes_cons, bytes_append, bytes_zeros, bytes_digits}
use Rattle.wire_shapes.specs.Field.{gap}
use Rattle.wire_shapes.specs.Shapes.{Kind}
use Rattle.wire_fields.specs.Message.{Contents, Formed, Message, WellFormed, ends, layout_from, layout_of, message_bytes, opening}

bytes_fields : (ks : List Kind) (i : ℕ) (fs : List Contents) → Formed ks fs → Bytes (message_bytes (layout_from i ks fs))
bytes_fields [] i fs f = bytes_nil
bytes_fields (k ∷ ks) i [] f = bytes_nil
bytes_fields (k ∷ ks) i (none ∷ fs) f = bytes_fields ks i fs f.1
bytes_fields (k ∷ ks) i (some v ∷ fs) f =
    let g = gap k.padded (i + (length v + 4)) in
    let rest = message_bytes (layout_from (ends i k (some v)) ks fs) in
    bytes_append (digits_be 256 2 k.number ++ digits_be 256 2 (length v + 4)) (v ++ (replicate g 0 ++ rest))
    (bytes_append (digits_be 256 2 k.number) (digits_be 256 2 (length v + 4)) (bytes_digits 2 k.number) (bytes_digits 2 (length v + 4)))
    (bytes_append v (replicate g 0 ++ rest) f.0.whole
    (bytes_append (replicate g 0) rest (bytes_zeros g) (bytes_fields ks (ends i k (some v)) fs f.1)))

bytes_opening : Bytes opening
bytes_opening zero = omega arith
bytes_opening (suc zero) = omega arith
bytes_opening (suc (suc zero)) = omega arith
bytes_opening (suc (suc (suc zero))) = omega arith
bytes_opening (suc (suc (suc (suc zero)))) = omega arith
bytes_opening (suc (suc (suc (suc (suc i))))) = omega arith

pub bytes_message : (ks : List Kind) (m : Message) → WellFormed ks m → Bytes (message_bytes (layout_of ks m))
bytes_message ks m w =
    let id = digits_be 256 4 m.id in
    let rest = m.major ∷ m.minor ∷ m.type ∷ id in
    bytes_append (opening ++ rest) (message_bytes (layout_from 12 ks m.fields))
    (bytes_append opening rest bytes_opening
    (bytes_cons m.major (m.minor ∷ m.type ∷ id) w.major-byte
    (bytes_cons m.minor (m.type ∷ id) w.minor-byte (bytes_cons m.type id w.type-byte (bytes_digits 4 m.id)))))
    (bytes_fields ks 12 m.fields w.formed)
