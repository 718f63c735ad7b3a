-- Laws of fields put one after the other: a run of bytes right after another, and a field as its head, its contents and its padding. Assumes nothing.
use Prim.Native.Nat.{ℕ, ◌+◌, ◌≤◌}
use native.Mathlib.Omega.{arith}
use mathlib.Core.List.{List, ◌++◌}
use mathlib.Core.Bool.{Bool}
use mathlib.Core.Path.{◌≡◌, ap, ◌∙◌}
use lib.ListN.{length, length-append, replicate, length-replicate}
use Rattle.octet.specs.Number.{digits_be}
use Rattle.octet.specs.Part.{splice}
use Rattle.octet.proofs.PartLaws.{length-splice, splice-splice}
use Rattle.octet.proofs.BigLaws.{length-digits_be}
use Rattle.wire_shapes.specs.Field.{gap}
use Rattle.wire_write.specs.Pieces.{field_bytes, end_of}

pub head_length : (n w : ℕ) → length (digits_be 256 2 n ++ digits_be 256 2 w) ≡ 4
head_length n w = length-append (digits_be 256 2 n) (digits_be 256 2 w) ∙ omega (arith, length-digits_be 256 2 n, length-digits_be 256 2 w)

module _ (o : List ℕ) (i : ℕ) (a : List ℕ) (h : i + length a ≤ length o) where
  pub put-length : length (splice i a o) ≡ length o
  put-length = length-splice i a o h

  -- a run right after it
  pub put-put : (j : ℕ) (b : List ℕ) → j ≡ i + length a → j + length b ≤ length o → splice j b (splice i a o) ≡ splice i (a ++ b) o
  put-put j b e m = ap (λ (k : ℕ). splice k b (splice i a o)) e ∙ splice-splice i a o h b (omega arith)

-- a field put in three runs
module _ (o : List ℕ) (i n : ℕ) (p : Bool) (v : List ℕ) (h : end_of i p (length v) ≤ length o) where
  pub put-field : (l : ℕ) → l ≡ length v
      → splice (i + (l + 4)) (replicate (gap p (i + (l + 4))) 0) (splice (i + 4) v (splice i (digits_be 256 2 n ++ digits_be 256 2 (l + 4)) o))
      ≡ splice i (field_bytes i n p v) o
  unfolding field_bytes
  put-field l e =
      let z = replicate {A = ℕ} (gap p (i + (length v + 4))) 0 in
      let lz = length-replicate {A = ℕ} (gap p (i + (length v + 4))) 0 in
      let a = digits_be 256 2 n ++ digits_be 256 2 (length v + 4) in
      let la = head_length n (length v + 4) in
      let lb = length-append a v in
      rw (
        e,
        put-put o i a (omega arith) (i + 4) v (omega arith) (omega arith),
        put-put o i (a ++ v) (omega arith) (i + (length v + 4)) z (omega arith) (omega arith),
      )
