-- `octet::write_u16` meets its contract: the two stores are one replaced part. Assumes nothing.
use mathlib.Core.Path.{sym, ap, ◌∙◌}
use Prim.Native.Nat.{ℕ, ◌%◌, ◌/◌}
use native.Mathlib.Omega.{arith}
use mathlib.Core.List.{[], ◌∷◌}
use native.Mathlib.Nat.{div-one}
use lib.ListN.{length-set}
use Rattle.octet.specs.Number.{digits_be}
use Rattle.octet.specs.Part.{splice}
use Rattle.octet.proofs.PartLaws.{splice_two}
use Rattle.octet.proofs.big.write_u16.Goals as goal

pub bounds-s-at-2 : goal.bounds-s-at-2
bounds-s-at-2 c = simp length-set (omega arith)

pub returns : goal.returns
unfolding digits_be
returns c =
    let n = c.args.n in
    sym (splice_two c.args.at (n / 256 % 256) (n % 256) c.args.s.now c.requires)
    ∙ ap (λ (y : ℕ). splice c.args.at (n / 256 % 256 ∷ y % 256 ∷ []) c.args.s.now) (sym (div-one n))
