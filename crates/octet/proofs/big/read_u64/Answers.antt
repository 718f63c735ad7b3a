-- `octet::read_u64` meets its contract: each half the other way round. Assumes nothing.
use mathlib.Core.Path.{◌≡◌, ap, ◌∙◌}
use Prim.Native.Nat.{ℕ, ◌+◌, ◌/◌, ◌%◌}
use native.Mathlib.Omega.{arith}
use Rattle.octet.specs.Number.{Digits, value_be}
use Rattle.octet.specs.Part.{part}
use Rattle.octet.proofs.BigLaws.{value_be-part}
use Rattle.octet.proofs.LittleLaws.{swapped_of, swap_part, halves_of}
use Rattle.octet.proofs.big.read_u64.Goals as goal

pub returns : goal.returns
returns c =
    let read = c in
    let known = c in
    let start = c in
    let at = start.args.at in
    let s = start.args.s.now in
    let d : Digits 256 s = λ i. omega (arith, known.type_inv.s i) in
    let h = halves_of at s d start.requires in
    let e = read.read_u64_le-word.ensures in
    let high : c.swapped-high.result ≡ value_be 256 (part at 4 s) =
    c.swapped-high.ensures ∙ ap swapped_of (ap (λ (n : ℕ). n % 4294967296) e ∙ h.0) ∙ swap_part at s d (omega (arith, start.requires)) in
    let low : c.swapped-low.result ≡ value_be 256 (part (at + 4) 4 s) =
    c.swapped-low.ensures ∙ ap swapped_of (ap (λ (n : ℕ). n / 4294967296) e ∙ h.1) ∙ swap_part (at + 4) s d (omega (arith, start.requires)) in
    omega (arith, high, low, value_be-part 256 at 4 4 s (omega (arith, start.requires)))
