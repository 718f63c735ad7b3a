use mathlib.Core.Path.{◌≡◌, sym, ap, ◌∙◌}
use Prim.Native.Nat.{ℕ, ◌+◌}
use native.Mathlib.Nat.{zero-add}
use native.Mathlib.Omega.{arith}
use lib.ListN.{get_or, set}
use Rattle.octet.specs.Part.{part, splice}
use Rattle.octet.proofs.PartLaws.{splice_nil}
use Rattle.runs.proofs.TurnLaws.{down_turn}
use Rattle.runs.proofs.rows.shift.Goals as goal

pub loop-i-init : goal.loop-i-init
loop-i-init g c = (sym (splice_nil 0 c.args.s.now))

pub loop-i-preserved : goal.loop-i-preserved
loop-i-preserved g c =
    let at-loop = c in
    let at-start = c in
    let i = at-loop.loop-i.i in
    let l = at-loop.loop-i.s in
    ap (λ (j : ℕ). set l j (get_or l (g.row.R + i) 0)) (sym (zero-add i))
    ∙ down_turn g.row.R 0 i at-start.args.s.now (omega arith) (omega arith) l at-loop.loop-i.invariant

pub returns : goal.returns
returns g c =
    let at-start = c in
    let s = at-start.args.s.now in
    let e : c.loop-i.i ≡ at-start.args.n = omega arith in
    c.loop-i.invariant ∙ ap (λ (j : ℕ). splice 0 (part g.row.R j s) s) e
