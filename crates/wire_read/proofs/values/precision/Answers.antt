-- `wire_read::values::precision` meets its contract, by the criteria. Assumes nothing.
use Prim.Native.Nat.{◌+◌}
use borrow.Author.Tests.{eq-eqb, ne_eqb}
use mathlib.Core.Path.{sym, ◌∙◌}
use lib.ListN.{get_or}
use Rattle.wire_read.specs.Answers.{precision_at}
use Rattle.wire_read.proofs.values.precision.Goals as goal

pub returns-then-byte_from-ne8 : goal.returns-then-byte_from-ne8
unfolding precision_at
returns-then-byte_from-ne8 c =
    let a = c.args in
    rw (ne_eqb (get_or a.d.now (a.start + 4) 0) 8 (λ q. c.if-byte_from-ne8.true (c.byte_from.ensures ∙ q)))

pub returns : goal.returns
unfolding precision_at
returns c =
    let a = c.args in
    let e = sym c.byte_from.ensures ∙ c.if-byte_from-ne8.false in
    rw (eq-eqb (get_or a.d.now (a.start + 4) 0) 8 e, sym c.byte_from-high.ensures, sym c.byte_from-low.ensures)
