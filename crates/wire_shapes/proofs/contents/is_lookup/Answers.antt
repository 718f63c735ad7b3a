use borrow.Author.Tests.{le-leb, lt-leb, eq-eqb, ne_eqb}
use native.Mathlib.Omega.{arith}
use mathlib.Core.Path.{sym}
use Prim.Native.Nat.{◌+◌}
use lib.ListN.{get_or}
use Rattle.wire_shapes.proofs.ShapeLaws.{lookup-other, lookup-in}
use borrow.Author.Rules.{rules}
use Rattle.wire_shapes.proofs.contents.is_lookup.Goals as goal

pub returns-then-len-ne8 : goal.returns-then-len-ne8
returns-then-len-ne8 c = let a = c.args in sym (lookup-other a.d.now a.start a.len (search rules) c.if-len-ne8.true)

pub returns-then-d-start-gt3 : goal.returns-then-d-start-gt3
returns-then-d-start-gt3 c =
    let a = c.args in
    rw (lookup-in a.d.now a.start a.len (search rules) (omega arith), lt-leb (get_or a.d.now (a.start + 5) 0) 3 (omega arith))

pub returns-then-criteria-le2 : goal.returns-then-criteria-le2
returns-then-criteria-le2 c =
    let a = c.args in
    rw (
      lookup-in a.d.now a.start a.len (search rules) (omega arith),
      le-leb (get_or a.d.now (a.start + 5) 0) 3 (omega arith),
      le-leb (get_or a.d.now (a.start + 4) 0) 2 (omega arith),
    )

pub returns-then-criteria-eq4 : goal.returns-then-criteria-eq4
returns-then-criteria-eq4 c =
    let a = c.args in
    rw (
      lookup-in a.d.now a.start a.len (search rules) (omega arith),
      le-leb (get_or a.d.now (a.start + 5) 0) 3 (omega arith),
      lt-leb (get_or a.d.now (a.start + 4) 0) 2 (omega arith),
      eq-eqb (get_or a.d.now (a.start + 4) 0) 4 (omega arith),
    )

pub returns : goal.returns
returns c =
    let a = c.args in
    rw (
      lookup-in a.d.now a.start a.len (search rules) (omega arith),
      le-leb (get_or a.d.now (a.start + 5) 0) 3 (omega arith),
      lt-leb (get_or a.d.now (a.start + 4) 0) 2 (omega arith),
      ne_eqb (get_or a.d.now (a.start + 4) 0) 4 (omega arith),
    )
