-- `record::is_record` meets its contract: of 100 bytes the part from the start is the whole. Assumes nothing.
use mathlib.Core.Path.{refl, sym, ap, ◌∙◌}
use lib.ListN.{length}
use lib.Seq.{take_all}
use borrow.Author.Tests.{ne_eqb}
use Rattle.record.specs.Record.{record_form}
use native.Mathlib.Omega.{arith}
use Rattle.record.proofs.is_record.Goals as goal

pub returns-then-r-ne-RECORD_LEN : goal.returns-then-r-ne-RECORD_LEN
unfolding record_form
returns-then-r-ne-RECORD_LEN c = sym (rw (ne_eqb (length c.args.r.now) 100 c.if-r-ne-RECORD_LEN.true) refl)

pub returns : goal.returns
returns c =
    let c3 = c in
    c.is_formed.ensures ∙ ap record_form (take_all 100 c3.args.r.now (omega arith))
