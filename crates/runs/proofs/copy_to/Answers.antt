use mathlib.Core.Path.{◌≡◌, sym, ap, ◌∙◌}
use Prim.Native.Nat.{ℕ, ◌+◌}
use native.Mathlib.Omega.{arith}
use mathlib.Core.List.{List}
use lib.ListN.{length, take, get_or, set}
use lib.Seq.{take-length}
use Rattle.octet.specs.Part.{splice}
use Rattle.octet.proofs.PartLaws.{splice_nil}
use Rattle.runs.proofs.TurnLaws.{copy_turn}
use Rattle.runs.proofs.copy_to.Goals as goal

pub loop-i-init : goal.loop-i-init
loop-i-init c = (sym (splice_nil c.args.at c.args.dst.now))

pub loop-i-preserved : goal.loop-i-preserved
loop-i-preserved c =
    let at-loop = c in
    let at-start = c in
    ap (λ (l : List ℕ). set l (at-start.args.at + at-loop.loop-i.i) (get_or at-start.args.src.now at-loop.loop-i.i 0))
    at-loop.loop-i.invariant
    ∙ copy_turn at-start.args.at at-loop.loop-i.i at-start.args.src.now at-start.args.dst.now (omega arith) (omega arith)

pub returns : goal.returns
returns c =
    let at-start = c in
    let e : c.loop-i.i ≡ length at-start.args.src.now = omega arith in
    c.loop-i.invariant
    ∙ ap (λ (l : List ℕ). splice at-start.args.at l at-start.args.dst.now)
    (ap (λ (k : ℕ). take k at-start.args.src.now) e ∙ take-length at-start.args.src.now)
