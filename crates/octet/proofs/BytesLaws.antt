-- Laws of lists of bytes: none, one more, two joined, zeros, the bytes of a number. Assumes nothing.
use Prim.Native.Nat.{ℕ, zero, suc, ◌<◌}
use native.Mathlib.Omega.{arith}
use mathlib.Core.List.{List, [], ◌∷◌, ◌++◌}
use lib.ListN.{replicate}
use Rattle.octet.specs.Number.{Bytes, digits_be}
use Rattle.octet.proofs.BigLaws.{digits_be-lt}

pub bytes_nil : Bytes []
bytes_nil i = omega arith

pub bytes_cons : (x : ℕ) (xs : List ℕ) → x < 256 → Bytes xs → Bytes (x ∷ xs)
bytes_cons x xs h b zero = h
bytes_cons x xs h b (suc i) = b i

pub bytes_append : (xs ys : List ℕ) → Bytes xs → Bytes ys → Bytes (xs ++ ys)
bytes_append [] ys a b i = b i
bytes_append (x ∷ xs) ys a b zero = a 0
bytes_append (x ∷ xs) ys a b (suc i) = bytes_append xs ys (λ j. a (suc j)) b i

pub bytes_zeros : (n : ℕ) → Bytes (replicate n 0)
bytes_zeros zero i = omega arith
bytes_zeros (suc n) zero = omega arith
bytes_zeros (suc n) (suc i) = bytes_zeros n i

pub bytes_digits : (w n : ℕ) → Bytes (digits_be 256 w n)
bytes_digits w n = digits_be-lt 256 w n (omega arith)
