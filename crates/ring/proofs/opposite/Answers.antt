-- `ring::opposite` meets its contract: the first byte flipped, the others as they are. Assumes nothing.
use mathlib.Core.Path.{refl, ap, ◌∙◌}
use mathlib.Core.List.{List}
use Prim.Native.Nat.{ℕ}
use native.Mathlib.Omega.{arith}
use lib.ListN.{replicate, set}
use Rattle.octet.specs.Number.{Digits}
use Rattle.octet.specs.Part.{part, splice}
use Rattle.octet.proofs.PartLaws.{length_part}
use Rattle.key.specs.Number.{key_at}
use Rattle.ring.proofs.HalfLaws.{bytes_are, opposite-is}
use Rattle.ring.proofs.opposite.Goals as goal

pub returns : goal.returns
returns c =
    let copied = c in
    let known = c in
    let start = c in
    let s = start.args.key.now in
    let y = c.flip.result in
    let d : Digits 256 s = λ i. omega (arith, c.type_inv.key i) in
    let z : List ℕ = replicate {A = ℕ} 32 0 in
    ap (λ (l : List ℕ). key_at 0 (set l 0 y)) copied.copy_to.ensures
    ∙ opposite-is s d start.requires (set (splice 1 (part 1 31 s) z) 0 y) y
    (bytes_are y (part 1 31 s) z (length_part 1 31 s (omega (arith, start.requires))) refl) c.flip.ensures
