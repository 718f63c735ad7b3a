use mathlib.Core.Path.{refl, sym, ap, ◌∙◌}
use mathlib.Core.List.{List}
use Prim.Native.Nat.{◌+◌, ◌*◌}
use native.Mathlib.Omega.{arith}
use lib.ListN.{length}
use Rattle.octet.specs.Part.{splice}
use Rattle.octet.proofs.PartLaws.{splice_nil}
use Rattle.table.specs.Rows.{joined}
use Rattle.changed.specs.Changes.{Change}
use Rattle.changed.specs.Entries.{list_bytes}
use Rattle.merged.proofs.StepLaws.{Rest, Stepped, stepped, rest_all, rest-none}
use Rattle.merged.proofs.WriteLaws.{write_turn}
use Rattle.merged.proofs.written.write.Goals.{After-step-next}
use Rattle.merged.proofs.written.write.Goals as goal

pub loop-i-init : goal.loop-i-init
loop-i-init c =
    let s = c in
    let a = s.args in
    let all = ap length (rest_all a.«before».now a.used a.«after».now a.held) in
    (omega arith, omega arith, refl, omega arith, omega (arith, all, s.requires.4), refl)

-- a step that was made
by : (p : After-step-next)
    → (let a = p.args in Stepped a.«before».now a.used a.«after».now a.held p.loop-i.i p.loop-i.j p.step-next.result)
by p =
    let a = p.args in
    stepped a.«before».now a.used a.«after».now a.held (λ k. omega (arith, p.type_inv.before k)) (omega arith) (omega arith)
    p.loop-i.i p.loop-i.j p.step-next.result p.step-next.ensures (omega arith) (omega arith) (omega arith)

pub put-requires : goal.put-requires
put-requires c =
    let p = (goal.at.put-requires c).After-step-next in
    let t = by p in (
      λ e. omega (arith, t.old-read e),
      λ e. omega (arith, t.new-read e),
      λ e. omega (arith, t.one e, t.counted, p.loop-i.invariant.4),
    )

pub overflow_add-i-in-loop-i : goal.overflow_add-i-in-loop-i
overflow_add-i-in-loop-i c = omega (arith, (by (goal.at.overflow_add-i-in-loop-i c).After-step-next).old-within)

pub overflow_add-j : goal.overflow_add-j
overflow_add-j c = omega (arith, (by (goal.at.overflow_add-j c).After-step-next).new-within)

pub overflow_mul-at : goal.overflow_mul-at
overflow_mul-at c = omega (arith, (by (goal.at.overflow_mul-at c).After-step-next).few)

pub overflow_add-at : goal.overflow_add-at
overflow_add-at c =
    let p = (goal.at.overflow_add-at c).After-step-next in
    let l = c in
    let s = c in
    omega (arith, (by p).few, l.loop-i.invariant.3, l.loop-i.invariant.0, l.loop-i.invariant.1, s.requires.2, s.requires.3)

pub loop-i-smaller : goal.loop-i-smaller
loop-i-smaller c = let t = by (goal.at.loop-i-smaller c).After-step-next in omega (arith, t.onward, t.old-within, t.new-within)

pub loop-i-preserved : goal.loop-i-preserved
loop-i-preserved c =
    let w = c in
    let p = (goal.at.loop-i-preserved c).After-step-next in
    let l = c in
    let a = l.args in
    let t = by p in
    let n = p.step-next.result in
    let rest = list_bytes (Rest a.«before».now a.used a.«after».now a.held (l.loop-i.i + n.old) (l.loop-i.j + n.new)) in (
      t.old-within,
      t.new-within,
      omega arith,
      omega (arith, t.few, t.onward, l.loop-i.invariant.3),
      omega (arith, t.counted, l.loop-i.invariant.4),
      ap (splice (l.loop-i.at + 101 * n.entries) rest) w.put.ensures
          ∙ write_turn a.«before».now a.used a.«after».now a.held l.loop-i.i l.loop-i.j n t (omega arith) l.loop-i.at l.loop-i.output l.loop-i.invariant.4
          ∙ l.loop-i.invariant.5,
    )

pub shape_of-output : goal.shape_of-output
shape_of-output c = c.loop-i.invariant.2

pub returns : goal.returns
unfolding joined
returns c =
    let l = c in
    let a = l.args in
    let none = rest-none a.«before».now a.used a.«after».now a.held l.loop-i.i l.loop-i.j (omega arith) (omega arith) in
    sym (splice_nil l.loop-i.at l.loop-i.output) ∙ ap (λ (x : List Change). splice l.loop-i.at (list_bytes x) l.loop-i.output) (sym none) ∙ l.loop-i.invariant.5
