-- `convert::ours::follows` meets its contract: each test decides a part. Assumes nothing.
use mathlib.Core.Path.{◌≡◌, refl, sym, ap, ◌∙◌}
use mathlib.Core.Bool.{true, false}
use Prim.Native.Nat.{◌*◌}
use lib.Dec.{leb}
use Rattle.octet.specs.Part.{part}
use Rattle.own.specs.Low.{low_at}
use Rattle.own.proofs.FormLaws.{row-key}
use Rattle.convert.specs.Old.{old_record_form}
use Rattle.convert.proofs.ours.follows.Goals as goal

pub returns-then-not-is_formed : goal.returns-then-not-is_formed
returns-then-not-is_formed c =
    let a = c.args in
    let f : old_record_form (part (100 * a.i) 100 a.own.now) ≡ false = sym c.is_formed.ensures ∙ c.if-not-is_formed.true in
    sym (rw f refl)

pub returns : goal.returns
returns c =
    let a = c.args in
    let f : old_record_form (part (100 * a.i) 100 a.own.now) ≡ true = sym c.is_formed.ensures ∙ c.if-not-is_formed.false in
    c.above_before.ensures ∙ sym (rw f (ap (leb (low_at a.own.now a.i)) (row-key (100 * a.i) a.own.now)))
