-- `own::form::own_form` meets its contract: one record is in form where it is a record; of several all are walked. Assumes nothing.
use mathlib.Core.Path.{sym, ◌∙◌}
use Rattle.own.proofs.PlaceLaws.{one-own-form}
use Rattle.own.proofs.form.own_form.Goals as goal

pub returns-then-own-eq-RECORD_LEN : goal.returns-then-own-eq-RECORD_LEN
returns-then-own-eq-RECORD_LEN c = c.is_record.ensures ∙ sym (one-own-form c.args.own.now c.if-own-eq-RECORD_LEN.true)

pub returns : goal.returns
returns c = c.all_formed.ensures
