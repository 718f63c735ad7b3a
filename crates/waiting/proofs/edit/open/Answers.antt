-- `waiting::edit::open` meets its contract: a place opened is a row inserted at the slot of its ID. Assumes nothing.
use mathlib.Core.Path.{ap, ap₂, ◌∙◌}
use native.Mathlib.Omega.{arith}
use lib.ListN.{length}
use Rattle.table.specs.Rows.{rows, bytes_of}
use Rattle.table.proofs.RowLaws.{rows-length}
use Rattle.waiting.specs.Place.{new_place}
use Rattle.waiting.proofs.NewLaws.{new-length, new-id}
use Rattle.waiting.proofs.EditLaws.{opened_at, slot_few}
use Rattle.waiting.proofs.edit.open.Goals as goal

pub insert_row-requires : goal.insert_row-requires
insert_row-requires c =
    let start = c in
    let a = start.args in
    let few = slot_few a.id (rows 140 a.used a.table.now) in
    let long = new-length a.id a.kind a.tries a.key.now a.held.now start.requires.3 start.requires.4 in (
      omega (arith, c.slot-at.ensures, few, rows-length 140 a.used a.table.now),
      ap length c.write_place.ensures ∙ long,
      omega arith,
      start.requires.2,
    )

pub returns : goal.returns
returns c =
    let written = c in
    let slotted = c in
    let start = c in
    let a = start.args in
    let ps = rows 140 a.used a.table.now in
    let id = new-id a.id a.kind a.tries a.key.now a.held.now start.requires.3 start.requires.4 (omega arith) in
    c.insert_row.ensures
    ∙ ap₂ bytes_of start.requires.1
    (opened_at a.id slotted.slot-at.result written.write_place.new.place
    (new_place a.id a.kind a.tries a.key.now a.held.now) ps slotted.slot-at.ensures id written.write_place.ensures)
