-- `waiting::edit::free` meets its contract: a place freed is a row removed. Assumes nothing.
use mathlib.Core.Path.{ap₂, ◌∙◌}
use Rattle.table.specs.Rows.{rows, bytes_of}
use Rattle.waiting.proofs.EditLaws.{freed_remove}
use Rattle.waiting.proofs.edit.free.Goals as goal

pub returns : goal.returns
returns c =
    let start = c in
    let a = start.args in
    c.remove_row.ensures ∙ ap₂ bytes_of start.requires.1 (freed_remove a.at (rows 140 a.used a.table.now))
