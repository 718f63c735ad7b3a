-- `wire_read::header` meets its contract: the first tests of document 01's table, in its order. Assumes nothing.
use borrow.Author.Tests.{le-leb, lt-leb, eq-eqb, ne_eqb}
use native.Mathlib.Omega.{arith}
use mathlib.Core.Path.{sym, ◌∙◌}
use lib.ListN.{length, get_or}
use Rattle.wire_read.specs.Answers.{head_number}
use Rattle.wire_read.proofs.header.Goals as goal

pub returns-then-d-lt12 : goal.returns-then-d-lt12
unfolding head_number
returns-then-d-lt12 c =
    let a = c.args in
    rw (lt-leb 12 (length a.d.now) (omega arith))

pub returns-then-d-gt1232 : goal.returns-then-d-gt1232
unfolding head_number
returns-then-d-gt1232 c =
    let a = c.args in
    let d = a.d.now in
    rw (le-leb 12 (length d) (omega arith), lt-leb (length d) 1232 (omega arith))

pub returns-then-not-is_opened : goal.returns-then-not-is_opened
unfolding head_number
returns-then-not-is_opened c =
    let a = c.args in
    let d = a.d.now in
    let o = sym c.is_opened.ensures ∙ c.if-not-is_opened.true in
    rw (le-leb 12 (length d) (omega arith), le-leb (length d) 1232 (omega arith), o)

pub returns-then-d-major : goal.returns-then-d-major
unfolding head_number
returns-then-d-major c =
    let a = c.args in
    let d = a.d.now in
    let o = sym c.is_opened.ensures ∙ c.if-not-is_opened.false in
    let m = ne_eqb (get_or d 5 0) a.major c.if-d-major.true in
    rw (le-leb 12 (length d) (omega arith), le-leb (length d) 1232 (omega arith), o, m)

pub returns : goal.returns
unfolding head_number
returns c =
    let a = c.args in
    let d = a.d.now in
    let o = sym c.is_opened.ensures ∙ c.if-not-is_opened.false in
    let m = eq-eqb (get_or d 5 0) a.major c.if-d-major.false in
    rw (le-leb 12 (length d) (omega arith), le-leb (length d) 1232 (omega arith), o, m)
