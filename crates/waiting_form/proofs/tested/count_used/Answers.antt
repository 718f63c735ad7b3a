use mathlib.Core.Path.{sym, ◌∙◌}
use native.Mathlib.Nat.{zero-add}
use native.Mathlib.Omega.{arith}
use Rattle.table.specs.Rows.{rows}
use Rattle.waiting.specs.Form.{used_in, used_of}
use Rattle.waiting.proofs.WalkLaws.{used-here, used-on, used-end}
use Rattle.waiting_form.proofs.tested.count_used.Goals as goal

pub loop-at-init : goal.loop-at-init
unfolding used_of
loop-at-init c = sym (zero-add (used_in (rows 140 16 c.args.table.now)))

pub returns-then-table-at-eq0 : goal.returns-then-table-at-eq0
returns-then-table-at-eq0 c =
    let t = c.args.table.now in
    let l = c.loop-at in
    sym (l.invariant ∙ used-here 16 t l.at (omega arith) c.if-table-at-eq0.true)

pub loop-at-preserved : goal.loop-at-preserved
loop-at-preserved c =
    let t = c.args.table.now in
    let l = c.loop-at in
    l.invariant ∙ used-on 16 t l.at (omega arith) c.if-table-at-eq0.false

pub returns : goal.returns
returns c =
    let t = c.args.table.now in
    let l = c.loop-at in
    omega (arith, l.invariant, used-end 16 t l.at (omega arith))
