-- `own::form::above_before` meets its contract: by the key before. Assumes nothing.
use mathlib.Core.Path.{sym, ◌∙◌}
use Prim.Native.Nat.{◌*◌}
use Rattle.key.specs.Number.{key_at}
use Rattle.own.proofs.LowLaws.{low_first, low_next}
use Rattle.own.proofs.form.above_before.Goals as goal

pub returns-then-i-eq0 : goal.returns-then-i-eq0
returns-then-i-eq0 c =
    let a = c.args in
    sym (low_first a.s.now a.i (key_at (100 * a.i) a.s.now) c.if-i-eq0.true)

-- behind the first the test is that against the key before
pub returns : goal.returns
returns c =
    let a = c.args in
    c.less_at.ensures ∙ sym (low_next a.s.now a.i (key_at (100 * a.i) a.s.now) c.if-i-eq0.false)
