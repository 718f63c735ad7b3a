use borrow.Author.Rules.{rules}
use borrow.Author.Tests.{le-leb, lt-leb}
use native.Mathlib.Omega.{arith}
use mathlib.Core.Path.{sym, ap}
use Prim.Native.Nat.{ℕ, ◌%◌}
use lib.Dec.{eqb}
use Rattle.wire_shapes.specs.Field.{number_at}
use Rattle.wire_shapes.proofs.ShapeLaws.{split-other, split-in}
use Rattle.wire_shapes.proofs.contents.is_split.Goals as goal

pub returns-then-len-ne4 : goal.returns-then-len-ne4
returns-then-len-ne4 c = let a = c.args in sym (split-other a.d.now a.start a.len (search rules) c.if-len-ne4.true)

pub returns-then-read_u16-gt37348 : goal.returns-then-read_u16-gt37348
returns-then-read_u16-gt37348 c =
    let a = c.args in
    rw (split-in a.d.now a.start a.len (search rules) (omega arith), lt-leb (number_at a.start 2 a.d.now) 0x91E4 (omega arith))

pub returns : goal.returns
returns c =
    let a = c.args in
    rw (split-in a.d.now a.start a.len (search rules) (omega arith), le-leb (number_at a.start 2 a.d.now) 0x91E4 (omega arith))
    (ap (λ (n : ℕ). eqb (n % 1188) 0) c.read_u16-2.ensures)
