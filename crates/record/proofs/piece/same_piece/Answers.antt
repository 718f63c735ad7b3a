-- `record::piece::same_piece` meets its contract: each range of the code is a piece. Assumes nothing.
use Prim.Native.Nat.{ℕ, ◌+◌, ◌-◌}
use native.Mathlib.Omega.{arith}
use mathlib.Core.Path.{◌≡◌, ap₂, ◌∙◌}
use Rattle.octet.specs.Part.{part, same}
use Rattle.record.proofs.piece.same_piece.Goals as goal

pub returns : goal.returns
returns c =
    let a = c.args in
    let e : a.i + a.n - a.i ≡ a.n = omega arith in
    let f : a.j + a.n - a.j ≡ a.n = omega arith in
    c.equal.ensures ∙ ap₂ (λ (k m : ℕ). same (part a.i k a.s.now) (part a.j m a.d.now)) e f
