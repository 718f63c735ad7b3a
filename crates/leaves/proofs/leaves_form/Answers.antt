-- `leaves::leaves_form` meets its contract: what the form test answers says both whether and how many. Assumes nothing.
use mathlib.Core.Path.{sym, ◌∙◌}
use borrow.Author.Tests.{le-leb, lt-leb}
use Rattle.own.specs.Own.{own_keys}
use Rattle.cache.proofs.ShapeLaws.{good-is, bad-is}
use Rattle.leaves.specs.Leaves.{held_or257}
use borrow.Author.Rules.{rules}
use Rattle.leaves.proofs.leaves_form.Goals as goal

pub returns-then-own-lt32 : goal.returns-then-own-lt32
unfolding held_or257
returns-then-own-lt32 c = simp (lt-leb _ _ c.if-own-lt32.true)

pub returns-in-Some : goal.returns-in-Some
unfolding held_or257
returns-in-Some c =
    let if1 = c in
    let args = if1.args in
    let told = good-is (own_keys args.own.now) args.cache.now (sym c.form.ensures ∙ c.in-Some.is) in
    simp (le-leb _ _ if1.if-own-lt32.false, told.0) (sym told.1)

pub returns : goal.returns
unfolding held_or257
returns c =
    let if1 = c in
    let args = if1.args in
    let told = bad-is (own_keys args.own.now) args.cache.now (sym c.form.ensures ∙ c.in_default.is) in
    simp (le-leb _ _ if1.if-own-lt32.false, told)
