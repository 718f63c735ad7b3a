-- `wire_fields::opening::is_opened` meets its contract: the first four bytes are compared as one number, and the fifth. Assumes nothing.
use borrow.Author.Tests.{eq-eqb, ne_eqb}
use native.Mathlib.Omega.{arith}
use mathlib.Core.Path.{sym, ◌∙◌}
use Prim.Native.Nat.{zero, suc}
use Rattle.octet.specs.Number.{Bytes}
use Rattle.wire_shapes.specs.Field.{number_at}
use Rattle.wire_fields.specs.Message.{opening}
use Rattle.wire_fields.proofs.HeadLaws.{five-same}
use borrow.Author.Rules.{rules}
use Rattle.wire_fields.proofs.opening.is_opened.Goals as goal

opening_bytes : Bytes opening
opening_bytes zero = omega arith
opening_bytes (suc zero) = omega arith
opening_bytes (suc (suc zero)) = omega arith
opening_bytes (suc (suc (suc zero))) = omega arith
opening_bytes (suc (suc (suc (suc zero)))) = omega arith
opening_bytes (suc (suc (suc (suc (suc i))))) = omega arith

pub returns-then-read_u32-first : goal.returns-then-read_u32-first
returns-then-read_u32-first c =
    let d = c.args.d.now in
    let first = c.read_u32.ensures in
    let other = ne_eqb (number_at 0 4 d) (number_at 0 4 opening) (λ e. c.if-read_u32-first.true (first ∙ e ∙ sym c.read_u32-first.ensures)) in
    rw (five-same d opening (λ i. omega (arith, c.type_inv.d i)) opening_bytes (search rules) (omega arith), other)

pub returns : goal.returns
returns c =
    let d = c.args.d.now in
    let first = c.read_u32.ensures in
    let equal = eq-eqb (number_at 0 4 d) (number_at 0 4 opening) (sym first ∙ c.if-read_u32-first.false ∙ c.read_u32-first.ensures) in
    rw (five-same d opening (λ i. omega (arith, c.type_inv.d i)) opening_bytes (search rules) (omega arith), equal)
