-- Laws of text put together. In this order: a part of a slice replaced; one text behind another; the key of a record. Assumes nothing.
use mathlib.Core.Path.{◌≡◌, refl, sym, ap, ap₂, ◌∙◌}
use mathlib.Core.List.{List, [], ◌∷◌, ◌++◌, append_assoc}
use Prim.Native.Nat.{ℕ, ◌+◌, ◌≤◌}
use native.Mathlib.Omega.{arith}
use lib.ListN.{length, take, length-append}
use Rattle.octet.specs.Number.{Bytes, digits_be}
use Rattle.octet.specs.Part.{part, splice}
use Rattle.octet.proofs.PartLaws.{take-splice}
use Rattle.record.specs.Record.{key_of}
use Rattle.neighbours.proofs.ListLaws.{key-digits}
use Rattle.why.specs.Puts.{Puts}

pub puts_splice : (at : ℕ) (text out : List ℕ) (end : ℕ) (left : List ℕ) → at + length text ≤ length out → end ≡ at + length text
    → left ≡ splice at text out
    → Puts at text out end left
puts_splice at text out end left room e s = record {
  ends = e;
  stands = ap₂ (λ (n : ℕ) (l : List ℕ). take n l) e s ∙ take-splice at text out room;
}

pub puts_next : {at : ℕ} {xs ys out : List ℕ} {end : ℕ} {left : List ℕ} {last : ℕ} {all : List ℕ} → Puts at xs out end left
    → Puts end ys left last all
    → Puts at (xs ++ ys) out last all
puts_next {at} {xs} {ys} {out} {end} {left} {last} {all} p q = record {
  ends = omega (arith, p.ends, q.ends, length-append xs ys);
  stands = q.stands ∙ ap (λ (l : List ℕ). l ++ ys) p.stands ∙ append_assoc (take at out) xs ys;
}

-- the 32 bytes of a key are those of its number
pub key_bytes_lem : (r : List ℕ) → Bytes r → 32 ≤ length r → part 0 32 r ≡ digits_be 256 32 (key_of r)
key_bytes_lem r b h = key-digits 0 r b (omega arith)
