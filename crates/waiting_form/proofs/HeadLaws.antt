-- The bytes of a place between its kind and its key: as one number; what they decide. Assumes nothing.
use mathlib.Core.Path.{◌≡◌, refl, sym, ap, ◌∙◌}
use mathlib.Core.Bool.{Bool, true, false, ◌&&◌}
use mathlib.Core.List.{List}
use Prim.Native.Nat.{ℕ, zero, suc, ◌+◌, ◌*◌, ◌/◌, ◌<◌}
use native.Mathlib.Omega.{arith}
use lib.Dec.{eqb, leb}
use lib.ListN.{length, get_or}
use borrow.Author.Tests.{eq-eqb, ne_eqb, lt-leb}
use Rattle.octet.specs.Number.{Digits, value_le}
use Rattle.octet.specs.Part.{part}
use Rattle.octet.proofs.LittleLaws.{four_bytes_lem}
use Rattle.octet.proofs.TestLaws.{and_true}
use Rattle.own.specs.Own.{Own}
use Rattle.waiting.specs.Place.{tries_of}
use Rattle.waiting.specs.Form.{place_by, place_form}

pub and_false : (t : Bool) → t && false ≡ false
and_false true = refl
and_false false = refl

-- three bytes of which the higher two are zero
three_bytes : (b c d : ℕ) → leb (b + c * 256 + d * 65536) 2 ≡ leb b 2 && eqb c 0 && eqb d 0
three_bytes b zero zero =
    let low : b + 0 * 256 + 0 * 65536 ≡ b = omega arith in
    ap (λ (n : ℕ). leb n 2) low ∙ sym (rw (eq-eqb 0 0 refl) (and_true (leb b 2 && true) ∙ and_true (leb b 2)))
three_bytes b (suc c) d =
    lt-leb (b + suc c * 256 + d * 65536) 2 (omega arith)
    ∙ sym (rw (ne_eqb (suc c) 0 (λ e. omega arith), and_false (leb b 2)) refl)
three_bytes b zero (suc d) =
    lt-leb (b + 0 * 256 + suc d * 65536) 2 (omega arith)
    ∙ sym (rw (ne_eqb (suc d) 0 (λ e. omega arith)) (and_false (leb b 2 && eqb 0 0)))

above_kind : (a m n : ℕ) → a < 256 → n ≡ a + m * 256 → n / 256 ≡ m
above_kind a m n h e = omega arith

pub head_word : (p : List ℕ) → Digits 256 p → length p ≡ 140
    → leb (value_le 256 (part 4 4 p) / 256) 2 ≡ leb (get_or p 5 0) 2 && eqb (get_or p 6 0) 0 && eqb (get_or p 7 0) 0
head_word p d h =
    let whole = four_bytes_lem 4 p (omega arith) in
    let rest : value_le 256 (part 4 4 p) / 256 ≡ get_or p 5 0 + get_or p 6 0 * 256 + get_or p 7 0 * 65536 =
    above_kind (get_or p 4 0) (get_or p 5 0 + get_or p 6 0 * 256 + get_or p 7 0 * 65536) (value_le 256 (part 4 4 p)) (d 4) (omega (arith, whole)) in
    ap (λ (n : ℕ). leb n 2) rest ∙ three_bytes (get_or p 5 0) (get_or p 6 0) (get_or p 7 0)

-- as the form of a place tests them first
abbrev pub is_fresh : List ℕ → Bool
is_fresh p = leb (tries_of p) 2 && eqb (get_or p 6 0) 0 && eqb (get_or p 7 0) 0

pub stale_is : (own : Own) (p : List ℕ) → false ≡ is_fresh p → false ≡ place_form own p
unfolding place_by
stale_is own p e = rw (sym e) refl
