-- `convert::used::form` meets its contract: its tests are those of the definition. Assumes nothing.
use Prim.Native.Nat.{◌*◌, ◌≤◌}
use mathlib.Core.Path.{sym, ◌∙◌}
use native.Mathlib.Omega.{arith}
use Rattle.own.specs.Own.{own_keys}
use Rattle.waiting.proofs.FormLaws.{used_few}
use Rattle.convert.proofs.UsedLaws.{not_long, formed-is}
use Rattle.convert.proofs.used.form.Goals.{After-count_used-used}
use Rattle.convert.proofs.used.form.Goals as goal

-- the used places lie within the table
within : (c : After-count_used-used) → 140 * c.count_used-used.result ≤ 2240
within c = omega (arith, c.count_used-used.ensures, used_few c.args.table.now)

pub returns-then-table-ne-WAITING_LEN : goal.returns-then-table-ne-WAITING_LEN
returns-then-table-ne-WAITING_LEN c = sym (not_long (own_keys c.args.own.now) c.args.table.now c.if-table-ne-WAITING_LEN.true)

pub overflow_mul-used : goal.overflow_mul-used
overflow_mul-used c = omega (arith, within (goal.at.overflow_mul-used c).After-count_used-used)

pub slice_bounds-is_zero-count : goal.slice_bounds-is_zero-count
slice_bounds-is_zero-count c = omega (arith, within (goal.at.slice_bounds-is_zero-count c).After-count_used-used)

pub slice_bounds-is_zero-start : goal.slice_bounds-is_zero-start
slice_bounds-is_zero-start c = omega (arith, within (goal.at.slice_bounds-is_zero-start c).After-count_used-used)

pub places_formed-formed-requires : goal.places_formed-formed-requires
places_formed-formed-requires c = omega (arith, within (goal.at.places_formed-formed-requires c).After-count_used-used)

pub returns : goal.returns
returns c =
    let a = c.args in
    c.then_some.ensures
    ∙ sym (formed-is (own_keys a.own.now) a.table.now (omega arith) c.count_used-used.ensures c.is_zero-clear.ensures c.places_formed-formed.ensures)
