use mathlib.Core.Path.{sym, ◌∙◌}
use Prim.Native.Nat.{◌/◌}
use lib.ListN.{length}
use native.Mathlib.Omega.{arith}
use Rattle.own.specs.Low.{low_at}
use Rattle.convert.specs.Old.{old_record_form}
use Rattle.own.proofs.FormLaws.{not-whole, too_few, too_many, by-records, rising-more, rising-stop, rising-end}
use Rattle.convert.proofs.ours.form.Goals as goal

pub returns-then-size-ne0 : goal.returns-then-size-ne0
returns-then-size-ne0 c = sym (not-whole old_record_form c.args.own.now c.if-size-ne0.true)

pub returns-then-size-lt-RECORD_LEN : goal.returns-then-size-lt-RECORD_LEN
returns-then-size-lt-RECORD_LEN c = sym (too_few old_record_form c.args.own.now c.if-size-ne0.false c.if-size-lt-RECORD_LEN.true)

pub returns-then-size-gt400 : goal.returns-then-size-gt400
returns-then-size-gt400 c =
    let own = c.args.own.now in
    sym (too_many old_record_form own c.if-size-ne0.false (omega (arith, c.if-size-lt-RECORD_LEN.false)) c.if-size-gt400.true)

pub loop-i-init : goal.loop-i-init
unfolding low_at
loop-i-init c =
    let own = c.args.own.now in
    (omega arith, by-records old_record_form own c.if-size-ne0.false (omega (arith, c.if-size-lt-RECORD_LEN.false)) (omega (arith, c.if-size-gt400.false)))

pub returns-then-not-follows : goal.returns-then-not-follows
returns-then-not-follows c =
    let l = c in
    let own = l.args.own.now in
    sym (l.loop-i.invariant.1 ∙ rising-stop old_record_form (length own / 100) own l.loop-i.i (omega arith)
    (sym c.follows.ensures ∙ c.if-not-follows.true))

pub loop-i-preserved : goal.loop-i-preserved
loop-i-preserved c =
    let l = c in
    let own = l.args.own.now in (
      omega arith,
      l.loop-i.invariant.1 ∙ rising-more old_record_form (length own / 100) own l.loop-i.i (omega arith)
          (sym c.follows.ensures ∙ c.if-not-follows.false),
    )

pub returns : goal.returns
returns c =
    let l = c in
    let own = l.args.own.now in
    sym (l.loop-i.invariant.1 ∙ rising-end old_record_form (length own / 100) own l.loop-i.i (omega arith))
