-- `Cursor::fixed` meets its contract: number and length are the two halves of one number. Assumes nothing.
use native.Mathlib.Omega.{arith}
use mathlib.Core.Path.{refl, sym, ◌∙◌}
use Prim.Native.Nat.{◌+◌}
use Rattle.wire_fields.proofs.StepLaws.{fixed-missing, fixed-past, fixed-other, fixed-good}
use borrow.Author.Rules.{rules}
use Rattle.wire_fields.proofs.Cursor.fixed.Goals as goal

pub returns-then-d-lt4 : goal.returns-then-d-lt4
returns-then-d-lt4 c =
    let a = c.args in
    fixed-missing a.d.now a.self.at a.number a.padded a.len (λ s. omega (arith, s.room))

pub returns-then-d-at : goal.returns-then-d-at
returns-then-d-at c =
    let a = c.args in
    fixed-missing a.d.now a.self.at a.number a.padded a.len (λ s. omega (arith, s.room))

pub returns-then-d-next : goal.returns-then-d-next
returns-then-d-next c =
    let a = c.args in
    fixed-past a.d.now a.self.at a.number a.padded a.len _ _ refl c.padding.ensures.value
    (λ i. omega (arith, c.type_inv.d i)) (omega arith) (omega arith)

pub returns-then-read_u32-head : goal.returns-then-read_u32-head
returns-then-read_u32-head c =
    let a = c.args in
    fixed-other a.d.now a.self.at a.number a.padded a.len (a.len + 4) _ refl c.padding.ensures.value
    (λ i. omega (arith, c.type_inv.d i)) (omega arith)
    (λ e. c.if-read_u32-head.true (c.read_u32.ensures ∙ e))

pub returns : goal.returns
returns c =
    let a = c.args in
    fixed-good a.d.now a.self.at a.number a.padded a.len (a.len + 4) _ refl c.padding.ensures.value
    (λ i. omega (arith, c.type_inv.d i)) (omega arith) (search rules) (omega arith)
    (sym c.read_u32.ensures ∙ c.if-read_u32-head.false)
