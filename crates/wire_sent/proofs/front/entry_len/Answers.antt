-- `wire_sent::front::entry_len` meets its contract: the count is that of a record in form. Assumes nothing.
use Prim.Native.Nat.{◌+◌, ◌*◌}
use native.Mathlib.Omega.{arith}
use mathlib.Core.Bool.{true, false}
use mathlib.Core.Path.{◌≡◌, refl, sym, ◌∙◌}
use lib.ListN.{get_or}
use Rattle.wire_write.specs.Making.{formed_at}
use Rattle.wire_sent.proofs.FrontLaws.{EntryAt, entry_formed, entry-most}
use Rattle.wire_sent.proofs.front.entry_len.Goals.{Else-not-formed_in}
use Rattle.wire_sent.proofs.front.entry_len.Goals as goal

-- behind the test a record in form stands there
formed : (m : Else-not-formed_in) → formed_at m.args.at m.args.s.now ≡ true
formed m = sym m.formed_in.ensures ∙ m.if-not-formed_in.false

there : (m : Else-not-formed_in) → let a = m.args in EntryAt a.at a.s.now (44 + 16 * get_or a.s.now (a.at + 34) 0)
there m = entry_formed _ _ (formed m)

pub returns-then-not-formed_in : goal.returns-then-not-formed_in
returns-then-not-formed_in c =
    let e : formed_at c.args.at c.args.s.now ≡ false =
    sym c.formed_in.ensures ∙ c.if-not-formed_in.true in
    sym (rw e refl)

pub overflow_add-result : goal.overflow_add-result
overflow_add-result c = omega (arith, (there (goal.at.overflow_add-result c).Else-not-formed_in).within)

pub bounds-s-at : goal.bounds-s-at
bounds-s-at c = omega (arith, (there (goal.at.bounds-s-at c).Else-not-formed_in).within)

pub overflow_cast-result : goal.overflow_cast-result
overflow_cast-result c = omega (arith, entry-most (there (goal.at.overflow_cast-result c).Else-not-formed_in))

pub overflow_mul-result : goal.overflow_mul-result
overflow_mul-result c = omega (arith, entry-most (there (goal.at.overflow_mul-result c).Else-not-formed_in))

pub overflow_add-result-2 : goal.overflow_add-result-2
overflow_add-result-2 c = omega (arith, entry-most (there (goal.at.overflow_add-result-2 c).Else-not-formed_in))

pub returns : goal.returns
returns c = sym (rw (formed (goal.at.returns c).Else-not-formed_in) refl)
