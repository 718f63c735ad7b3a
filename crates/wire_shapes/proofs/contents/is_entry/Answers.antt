use borrow.Author.Tests.{lt-leb}
use native.Mathlib.Omega.{arith}
use mathlib.Core.Path.{sym, ap, ◌∙◌}
use Prim.Native.Nat.{ℕ, ◌+◌, ◌*◌}
use lib.Dec.{leb, eqb}
use lib.ListN.{get_or}
use Rattle.wire_shapes.proofs.ShapeLaws.{entry-few, entry_in_lem, entry-many, and_false}
use borrow.Author.Rules.{rules}
use Rattle.wire_shapes.proofs.contents.is_entry.Goals as goal

pub returns-then-len-lt54 : goal.returns-then-len-lt54
returns-then-len-lt54 c = let a = c.args in sym (entry-few a.d.now a.start a.len (search rules) (omega arith))

pub returns-then-count-gt4 : goal.returns-then-count-gt4
returns-then-count-gt4 c =
    let a = c.args in
    let n = get_or a.d.now (a.start + 37) 0 in
    rw (
      entry_in_lem a.d.now a.start a.len (search rules) (omega arith),
      lt-leb n 4 (omega arith),
      and_false (leb 1 n),
    )

pub returns : goal.returns
returns c =
    let a = c.args in
    ap (λ (n : ℕ). eqb a.len (38 + 16 * n)) c.wide-count.ensures
    ∙ sym (entry-many a.d.now a.start a.len (search rules) (omega arith) (omega arith))
