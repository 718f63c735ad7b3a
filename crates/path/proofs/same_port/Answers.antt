-- `path::same_port` meets its contract: the two ports are read where they lie, and are the same in either order of bytes. Assumes nothing.
use mathlib.Core.Path.{◌≡◌, sym, ap, ap₂, ◌∙◌}
use mathlib.Core.List.{List}
use Prim.Native.Nat.{ℕ, ◌+◌, ◌≤◌}
use native.Mathlib.Omega.{arith}
use lib.Dec.{eqb}
use lib.ListN.{length}
use Rattle.octet.specs.Number.{Digits, value_be, value_le}
use Rattle.octet.specs.Part.{part}
use Rattle.octet.proofs.LittleLaws.{value_le_inj}
use Rattle.octet.proofs.PartLaws.{part-digits, length_part}
use Rattle.octet.proofs.TestLaws.{same_by}
use Rattle.key.proofs.PlaceLaws.{same_value}
use Rattle.record.proofs.PlaceLaws.{part-part}
use Rattle.table.proofs.PieceLaws.{part-start}
use Rattle.path.proofs.same_port.Goals as goal

-- numbers are the same in one order of bytes where they are in the other
either_order : (xs ys : List ℕ) → Digits 256 xs → Digits 256 ys → length xs ≡ length ys
    → eqb (value_le 256 xs) (value_le 256 ys) ≡ eqb (value_be 256 xs) (value_be 256 ys)
either_order xs ys d e n = sym (same_by (value_le 256) xs ys (value_le_inj 256 xs ys d e n)) ∙ same_value 256 xs ys d e n

pub returns : goal.returns
returns c =
    let k = c in
    let s = c in
    let a = s.args in
    let l : a.at + 100 ≤ length a.s.now = s.requires.0 in
    let m : a.start + 18 ≤ length a.path.now = s.requires.1 in
    ap₂ eqb c.read_u16_le.ensures c.read_u16_le-port.ensures
    ∙ either_order (part a.start 2 a.path.now) (part (a.at + 32) 2 a.s.now)
    (part-digits 256 a.start 2 a.path.now (omega (arith, m)) (λ i. omega (arith, k.type_inv.path i)))
    (part-digits 256 (a.at + 32) 2 a.s.now (omega (arith, l)) (λ i. omega (arith, k.type_inv.s i)))
    (length_part a.start 2 a.path.now (omega (arith, m)) ∙ sym (length_part (a.at + 32) 2 a.s.now (omega (arith, l))))
    ∙ ap₂ eqb
    (ap (value_be 256) (sym (part-start a.start 18 2 a.path.now (omega arith))))
    (ap (value_be 256) (sym (part-part a.at 100 32 2 a.s.now (omega arith))))
