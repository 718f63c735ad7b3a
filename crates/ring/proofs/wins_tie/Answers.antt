-- `ring::wins_tie` meets its contract: of one key none is taken, of two the one from which the target is less than half the ring up. Assumes nothing.
use mathlib.Core.Path.{◌≡◌, sym, ap, ◌∙◌}
use Prim.Native.Nat.{ℕ, ◌<◌}
use native.Mathlib.Omega.{arith}
use borrow.Author.Tests.{eqb-true, eqb-false}
use Rattle.key.specs.Number.{number}
use Rattle.key.specs.Around.{ring, tie}
use Rattle.key.proofs.KeyLaws.{number-ring}
use Rattle.key.proofs.AroundLaws.{tie_self}
use Rattle.ring.proofs.TieLaws.{tie-word}
use Rattle.ring.proofs.wins_tie.Goals.{Start}
use Rattle.ring.proofs.wins_tie.Goals as goal

small : (s : Start) → (number s.args.target < ring) × (number s.args.k < ring) × (number s.args.j < ring)
small s = (number-ring s.args.target (omega arith), number-ring s.args.k (omega arith), number-ring s.args.j (omega arith))

pub returns-then-is_same : goal.returns-then-is_same
returns-then-is_same c =
    let a = c.args in
    let e : number a.k ≡ number a.j = eqb-true (number a.k) (number a.j) (sym c.is_same.ensures ∙ c.if-is_same.true) in
    sym (ap (λ (n : ℕ). tie (number a.target) (number a.k) n) (sym e) ∙ tie_self (number a.target) (number a.k))

pub returns : goal.returns
returns c =
    let s = (goal.at.returns c).Start in
    let a = c.args in
    tie-word (number a.target) (number a.k) (number a.j) (small s).0 (small s).1 (small s).2 c.requires
    (eqb-false (number a.k) (number a.j) (sym c.is_same.ensures ∙ c.if-is_same.false))
    c.minus-down.result (omega (arith, c.minus-down.type_inv)) c.minus-down.ensures
