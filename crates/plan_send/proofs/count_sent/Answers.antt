-- `plan_send::count_sent` meets its contract: the byte of the own record at the place, or of the one held there. Assumes nothing.
use mathlib.Core.Path.{sym}
use Prim.Native.Nat.{◌+◌, ◌*◌}
use native.Mathlib.Omega.{arith}
use Rattle.octet.proofs.PartLaws.{part_at}
use Rattle.plan_send.proofs.count_sent.Goals as goal

pub overflow_mul-result : goal.overflow_mul-result
overflow_mul-result c = omega (arith, c.requires.0 c.if-ours.true)

pub overflow_add-result : goal.overflow_add-result
overflow_add-result c = omega (arith, c.requires.0 c.if-ours.true)

pub bounds-own-at : goal.bounds-own-at
bounds-own-at c = omega (arith, c.requires.0 c.if-ours.true)

pub overflow_cast-result : goal.overflow_cast-result
overflow_cast-result c = omega (arith, c.type_inv.own (100 * c.args.at + 34))

pub returns-then-ours : goal.returns-then-ours
returns-then-ours c =
    let a = c.args in
    let from = 100 * a.at in (
      rw c.if-ours.true (sym (part_at from 100 34 a.own.now (omega arith))),
      omega (arith, c.type_inv.own (from + 34)),
    )

pub overflow_mul-result-2 : goal.overflow_mul-result-2
overflow_mul-result-2 c = omega (arith, c.requires.1 c.if-ours.false)

pub overflow_add-result-2 : goal.overflow_add-result-2
overflow_add-result-2 c = omega (arith, c.requires.1 c.if-ours.false)

pub bounds-cache-at : goal.bounds-cache-at
bounds-cache-at c = omega (arith, c.requires.1 c.if-ours.false)

pub overflow_cast-result-2 : goal.overflow_cast-result-2
overflow_cast-result-2 c = omega (arith, c.type_inv.cache (100 * c.args.at + 34))

pub returns : goal.returns
returns c =
    let a = c.args in
    let from = 100 * a.at in (
      rw c.if-ours.false (sym (part_at from 100 34 a.cache.now (omega arith))),
      omega (arith, c.type_inv.cache (from + 34)),
    )
