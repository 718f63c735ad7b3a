use mathlib.Core.Path.{◌≡◌, sym, ap, ap₂, ◌∙◌}
use Prim.Native.Nat.{ℕ, ◌+◌, ◌-◌}
use native.Mathlib.Nat.{zero-add, add-zero, sub_self, sub-zero}
use native.Mathlib.Omega.{arith}
use lib.ListN.{get_or, set}
use Rattle.octet.specs.Part.{part, splice}
use Rattle.octet.proofs.PartLaws.{splice_nil}
use Rattle.runs.proofs.TurnLaws.{up_turn}
use Rattle.runs.proofs.rows.lift.Goals as goal

pub loop-i-init : goal.loop-i-init
loop-i-init g c =
    let s = c.args.s.now in
    let end = g.row.R + c.args.n in
    let none = ap (λ (j : ℕ). splice end (part (0 + c.args.n) j s) s) (sub_self c.args.n) in
    (sym (none ∙ splice_nil end s))

pub loop-i-preserved : goal.loop-i-preserved
loop-i-preserved g c =
    let at-loop = c in
    let at-start = c in
    let j = at-loop.loop-i.i - 1 in
    let l = at-loop.loop-i.s in
    ap (λ (m : ℕ). set l (g.row.R + j) (get_or l m 0)) (sym (zero-add j))
    ∙ up_turn 0 g.row.R at-start.args.n at-loop.loop-i.i j at-start.args.s.now
    (omega arith) (omega arith) (omega arith) (omega arith) l at-loop.loop-i.invariant

pub returns : goal.returns
returns g c =
    let at-start = c in
    let s = at-start.args.s.now in
    let n = at-start.args.n in
    let e : c.loop-i.i ≡ 0 = omega arith in
    c.loop-i.invariant ∙ ap (λ (j : ℕ). splice (g.row.R + j) (part (0 + j) (n - j) s) s) e ∙ ap₂ (λ (p k : ℕ). splice p (part 0 k s) s) (add-zero g.row.R) (sub-zero n)
