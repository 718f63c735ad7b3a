-- `merged::merge::step` meets its contract: an end, or the order of the two keys. Assumes nothing.
use mathlib.Core.Path.{◌≡◌, sym, ◌∙◌}
use Prim.Native.Nat.{◌*◌}
use lib.ListN.{drop}
use native.Mathlib.Omega.{arith}
use Rattle.octet.specs.Part.{part}
use Rattle.std.specs.declared.cmp.Ordering.{Ordering}
use Rattle.std.specs.declared.cmp.Ordering.TheVariants.{Less, Equal, Greater}
use Rattle.table.specs.Rows.{rows}
use Rattle.merged.specs.Steps.{by_order, step_of}
use Rattle.merged.proofs.StepLaws.{step_new, step_gone, step_by}
use Rattle.merged.proofs.merge.step.Goals.{After-order_at}
use Rattle.merged.proofs.merge.step.Goals as goal

-- where both have a record, by the order of their keys
by : (c : After-order_at) (o : Ordering) → c.order_at.result ≡ o → (let a = c.args in
    by_order o (part (100 * a.i) 100 a.«before».now) (part (100 * a.j) 100 a.«after».now)
    ≡ step_of (drop a.i (rows 100 a.used a.«before».now)) (drop a.j (rows 100 a.held a.«after».now)))
by c o e =
    let a = c.args in
    step_by a.«before».now a.used a.i a.«after».now a.held a.j (omega (arith, c.if-i-used.false)) (omega (arith, c.if-j-held.false)) o
    (sym c.order_at.ensures ∙ e)

pub returns-then-i-used : goal.returns-then-i-used
returns-then-i-used c =
    let a = c.args in
    step_new a.«before».now a.used a.i _ (omega (arith, c.if-i-used.true))

pub returns-then-j-held : goal.returns-then-j-held
returns-then-j-held c =
    let a = c.args in
    step_gone a.«before».now a.used a.i a.«after».now a.held a.j (omega (arith, c.if-i-used.false)) (omega (arith, c.if-j-held.true))

pub returns-in-Less : goal.returns-in-Less
returns-in-Less c =
    by (goal.at.returns-in-Less c).After-order_at Less c.in-Less.is

pub returns-in-Equal : goal.returns-in-Equal
returns-in-Equal c =
    c.one_key.ensures ∙ by (goal.at.returns-in-Equal c).After-order_at Equal c.in-Equal.is

pub returns-in-Greater : goal.returns-in-Greater
returns-in-Greater c =
    by (goal.at.returns-in-Greater c).After-order_at Greater c.in-Greater.is
