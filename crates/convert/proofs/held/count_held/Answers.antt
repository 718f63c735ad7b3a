use mathlib.Core.Path.{sym, ◌∙◌}
use Prim.Native.Nat.{◌/◌}
use native.Mathlib.Nat.{zero-add}
use lib.ListN.{length}
use Rattle.own.specs.Own.{own_keys}
use Rattle.table.specs.Rows.{rows}
use Rattle.cache.specs.Form.{leading}
use Rattle.own.specs.Low.{low_at}
use Rattle.cache.proofs.ShapeLaws.{count-more, count-stop, count-end}
use Rattle.convert.specs.Old.{old_record_form}
use native.Mathlib.Omega.{arith}
use Rattle.convert.proofs.held.count_held.Goals as goal

pub loop-i-init : goal.loop-i-init
unfolding low_at
loop-i-init c =
    let a = c.args in (
      omega arith,
      sym (zero-add (leading old_record_form (own_keys a.own.now) 0 (rows 100 (length a.cache.now / 100) a.cache.now))),
    )

pub returns-then-not-place_follows : goal.returns-then-not-place_follows
returns-then-not-place_follows c =
    let l = c in
    let a = l.args in
    sym (l.loop-i.invariant.1 ∙ count-stop old_record_form (own_keys a.own.now) (length a.cache.now / 100) a.cache.now l.loop-i.i (omega arith)
    (sym c.place_follows.ensures ∙ c.if-not-place_follows.true))

pub loop-i-preserved : goal.loop-i-preserved
loop-i-preserved c =
    let l = c in
    let a = l.args in (
      omega arith,
      l.loop-i.invariant.1 ∙ count-more old_record_form (own_keys a.own.now) (length a.cache.now / 100) a.cache.now l.loop-i.i (omega arith)
          (sym c.place_follows.ensures ∙ c.if-not-place_follows.false),
    )

pub returns : goal.returns
returns c =
    let l = c in
    let a = l.args in
    let e = count-end old_record_form (own_keys a.own.now) (length a.cache.now / 100) a.cache.now l.loop-i.i (omega arith) in
    omega (arith, e, l.loop-i.invariant.1)
