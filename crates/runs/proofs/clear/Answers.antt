use mathlib.Core.Path.{◌≡◌, sym, ap, ◌∙◌}
use Prim.Native.Nat.{ℕ, ◌+◌}
use native.Mathlib.Omega.{arith}
use mathlib.Core.List.{List}
use lib.ListN.{set, replicate}
use Rattle.octet.specs.Part.{splice}
use Rattle.octet.proofs.PartLaws.{splice_nil}
use Rattle.runs.proofs.TurnLaws.{fill_turn}
use Rattle.runs.proofs.clear.Goals as goal

pub loop-i-init : goal.loop-i-init
loop-i-init c = (sym (splice_nil c.args.at c.args.s.now))

pub loop-i-preserved : goal.loop-i-preserved
loop-i-preserved c =
    let at-loop = c in
    let at-start = c in
    ap (λ (l : List ℕ). set l (at-start.args.at + at-loop.loop-i.i) 0) at-loop.loop-i.invariant
    ∙ fill_turn at-start.args.at at-loop.loop-i.i 0 at-start.args.s.now (omega arith)

pub returns : goal.returns
returns c =
    let e : c.loop-i.i ≡ c.args.n = omega arith in
    c.loop-i.invariant ∙ ap (λ (k : ℕ). splice c.args.at (replicate k 0) c.args.s.now) e
