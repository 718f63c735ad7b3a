-- `octet::write_u32` meets its contract, by the law that writes a number as two of half its width. Assumes nothing.
use mathlib.Core.Path.{ap, ◌∙◌}
use mathlib.Core.List.{List}
use Prim.Native.Nat.{ℕ, ◌+◌, ◌%◌}
use native.Mathlib.Omega.{arith}
use Rattle.octet.specs.Number.{digits_be}
use Rattle.octet.specs.Part.{splice}
use Rattle.octet.proofs.BigLaws.{splice_halves_be}
use Rattle.octet.proofs.big.write_u32.Goals as goal

pub returns : goal.returns
returns c =
    let second = c in
    let first = c in
    let a = first.args in
    second.write_u16-2.ensures ∙ ap (λ (t : List ℕ). splice (a.at + 2) (digits_be 256 2 (a.n % 65536)) t) first.write_u16.ensures
    ∙ splice_halves_be 256 a.at 2 2 a.n a.s.now (omega arith) (omega arith)
