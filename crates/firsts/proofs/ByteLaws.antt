-- The byte that a key begins with: of a key where it lies, and of one in hand. Assumes nothing.
use mathlib.Core.Path.{◌≡◌, sym, ap, subst, ◌∙◌}
use mathlib.Core.List.{List, [], ◌∷◌}
use Prim.Native.Nat.{ℕ, suc, ◌+◌, ◌*◌, ◌/◌, ◌^◌, ◌≤◌, ◌<◌}
use native.Mathlib.Nat.{div-div-eq-div-mul}
use native.Mathlib.Omega.{arith}
use lib.Arith.{digits_div}
use lib.ListN.{length, get_or}
use Rattle.octet.specs.Number.{Digits, value_be}
use Rattle.octet.specs.Part.{part}
use Rattle.octet.proofs.PartLaws.{length_part, part_one, part-digits}
use Rattle.octet.proofs.BigLaws.{value_be-lt, value_be-part}
use Rattle.key.specs.declared.Key.{Key}
use Rattle.key.specs.Number.{key_at, number}
use Rattle.key.proofs.KeyLaws.{Fit, fit-digits}
use Rattle.firsts.specs.Firsts.{first_byte}

one_byte : (x : ℕ) → value_be 256 (x ∷ []) ≡ x
unfolding value_be
one_byte x = omega arith

-- the first of w bytes and one
lead : (w at : ℕ) (s : List ℕ) → Digits 256 s → at + 1 + w ≤ length s → value_be 256 (part at (1 + w) s) / 256 ^ w ≡ get_or s at 0
lead w at s d h =
    let low : value_be 256 (part (at + 1) w s) < 256 ^ w =
    subst (λ (n : ℕ). value_be 256 (part (at + 1) w s) < 256 ^ n) (length_part (at + 1) w s (omega arith))
    (value_be-lt 256 (part (at + 1) w s) (part-digits 256 (at + 1) w s (omega arith) d)) in
    ap (λ (n : ℕ). n / 256 ^ w) (value_be-part 256 at 1 w s (omega arith)) ∙ digits_div (value_be 256 (part at 1 s)) low
    ∙ ap (value_be 256) (part_one at s (omega arith)) ∙ one_byte (get_or s at 0)

pub key-begins : (at : ℕ) (s : List ℕ) → Digits 256 s → at + 32 ≤ length s → first_byte (key_at at s) ≡ get_or s at 0
unfolding first_byte
key-begins at s d h = lead 31 at s d (omega arith)

-- the first of some words
lead_word : (b m x : ℕ) (xs : List ℕ) → Digits b xs → value_be b (x ∷ xs) / (b ^ length xs * m) ≡ x / m
unfolding value_be
lead_word b m x xs d =
    sym (div-div-eq-div-mul (x * b ^ length xs + value_be b xs) (b ^ length xs) m) ∙ ap (λ (n : ℕ). n / m) (digits_div x (value_be-lt b xs d))

pub word_begins : (k : Key) → Fit k → k.a / 72057594037927936 ≡ first_byte (number k)
unfolding first_byte number
word_begins k f =
    let d : Digits (2 ^ 64) (k.b ∷ k.c ∷ k.d ∷ []) = λ i. fit-digits f (suc i) in
    sym (lead_word (2 ^ 64) 72057594037927936 k.a (k.b ∷ k.c ∷ k.d ∷ []) d)
