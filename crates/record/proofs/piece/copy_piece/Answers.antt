-- `record::piece::copy_piece` meets its contract: the range of the code is the piece. Assumes nothing.
use Prim.Native.Nat.{ℕ, ◌+◌, ◌-◌}
use native.Mathlib.Omega.{arith}
use mathlib.Core.Path.{◌≡◌, ap, ◌∙◌}
use Rattle.octet.specs.Part.{part, splice}
use Rattle.record.proofs.piece.copy_piece.Goals as goal

pub returns : goal.returns
returns c =
    let a = c.args in
    let e : a.start + a.n - a.start ≡ a.n = omega arith in
    c.copy_to.ensures ∙ ap (λ (k : ℕ). splice a.at (part a.start k a.d.now) a.dst.now) e
