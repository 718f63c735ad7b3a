use borrow.Author.Rules.{rules}
use borrow.Author.Tests.{le-leb, lt-leb, eq-eqb, ne_eqb}
use native.Mathlib.Omega.{arith}
use native.Mathlib.Nat.{mul-le-mul}
use mathlib.Core.Path.{sym, ap, ◌∙◌}
use Prim.Native.Nat.{ℕ, ◌+◌, ◌*◌, ◌≤◌}
use lib.Dec.{eqb}
use Rattle.wire_shapes.specs.Field.{number_at}
use Rattle.wire_shapes.proofs.ShapeLaws.{array-short, array_in}
use Rattle.wire_shapes.proofs.contents.is_array.Goals as goal

pub returns-then-len-lt8 : goal.returns-then-len-lt8
returns-then-len-lt8 c =
    let a = c.args in
    sym (array-short a.d.now a.start a.len (search rules) a.element a.size a.least a.most (omega arith))

pub returns-then-count-least : goal.returns-then-count-least
returns-then-count-least c =
    let a = c.args in
    rw (
      array_in a.d.now a.start a.len (search rules) a.element a.size a.least a.most (omega arith),
      lt-leb a.least (number_at a.start 2 a.d.now) (omega arith),
    )

pub returns-then-most-count : goal.returns-then-most-count
returns-then-most-count c =
    let a = c.args in
    rw (
      array_in a.d.now a.start a.len (search rules) a.element a.size a.least a.most (omega arith),
      le-leb a.least (number_at a.start 2 a.d.now) (omega arith),
      lt-leb (number_at a.start 2 a.d.now) a.most (omega arith),
    )

pub overflow_mul-whole : goal.overflow_mul-whole
overflow_mul-whole c =
    let a = c.args in
    let m : c.read_u16-count.result * a.size ≤ 65535 * 65535 = mul-le-mul {n₂ = 65535} {m₂ = 65535} (omega arith) (omega arith) in
    omega arith

pub overflow_add-whole : goal.overflow_add-whole
overflow_add-whole c =
    let a = c.args in
    let m : c.read_u16-count.result * a.size ≤ 65535 * 65535 = mul-le-mul {n₂ = 65535} {m₂ = 65535} (omega arith) (omega arith) in
    omega arith

pub returns-then-read_u16-whole : goal.returns-then-read_u16-whole
returns-then-read_u16-whole c =
    let a = c.args in
    let w = ap (λ (n : ℕ). 8 + n * a.size) c.read_u16-count.ensures in
    rw (
      array_in a.d.now a.start a.len (search rules) a.element a.size a.least a.most (omega arith),
      le-leb a.least (number_at a.start 2 a.d.now) (omega arith),
      le-leb (number_at a.start 2 a.d.now) a.most (omega arith),
      ne_eqb (number_at (a.start + 2) 2 a.d.now) (8 + (number_at a.start 2 a.d.now) * a.size)
          (λ q. c.if-read_u16-whole.true (c.read_u16.ensures ∙ q ∙ sym w)),
    )

pub returns-then-read_u16-element : goal.returns-then-read_u16-element
returns-then-read_u16-element c =
    let a = c.args in
    let w = ap (λ (n : ℕ). 8 + n * a.size) c.read_u16-count.ensures in
    rw (
      array_in a.d.now a.start a.len (search rules) a.element a.size a.least a.most (omega arith),
      le-leb a.least (number_at a.start 2 a.d.now) (omega arith),
      le-leb (number_at a.start 2 a.d.now) a.most (omega arith),
      eq-eqb (number_at (a.start + 2) 2 a.d.now) (8 + (number_at a.start 2 a.d.now) * a.size)
          (sym c.read_u16.ensures ∙ c.if-read_u16-whole.false ∙ w),
      ne_eqb (number_at (a.start + 4) 2 a.d.now) a.element (λ q. c.if-read_u16-element.true (c.read_u16-2.ensures ∙ q)),
    )

pub returns-then-read_u16-size : goal.returns-then-read_u16-size
returns-then-read_u16-size c =
    let a = c.args in
    let w = ap (λ (n : ℕ). 8 + n * a.size) c.read_u16-count.ensures in
    rw (
      array_in a.d.now a.start a.len (search rules) a.element a.size a.least a.most (omega arith),
      le-leb a.least (number_at a.start 2 a.d.now) (omega arith),
      le-leb (number_at a.start 2 a.d.now) a.most (omega arith),
      eq-eqb (number_at (a.start + 2) 2 a.d.now) (8 + (number_at a.start 2 a.d.now) * a.size)
          (sym c.read_u16.ensures ∙ c.if-read_u16-whole.false ∙ w),
      eq-eqb (number_at (a.start + 4) 2 a.d.now) a.element (omega arith),
      ne_eqb (number_at (a.start + 6) 2 a.d.now) a.size (λ q. c.if-read_u16-size.true (c.read_u16-3.ensures ∙ q)),
    )

pub returns : goal.returns
returns c =
    let a = c.args in
    let w = ap (λ (n : ℕ). 8 + n * a.size) c.read_u16-count.ensures in
    rw (
      array_in a.d.now a.start a.len (search rules) a.element a.size a.least a.most (omega arith),
      le-leb a.least (number_at a.start 2 a.d.now) (omega arith),
      le-leb (number_at a.start 2 a.d.now) a.most (omega arith),
      eq-eqb (number_at (a.start + 2) 2 a.d.now) (8 + (number_at a.start 2 a.d.now) * a.size)
          (sym c.read_u16.ensures ∙ c.if-read_u16-whole.false ∙ w),
      eq-eqb (number_at (a.start + 4) 2 a.d.now) a.element (omega arith),
      eq-eqb (number_at (a.start + 6) 2 a.d.now) a.size (omega arith),
    ) (ap (eqb a.len) w)
