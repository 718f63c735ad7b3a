-- `waiting::edit::write_place` meets its contract: the fields written side by side are the whole place. Assumes nothing.
use mathlib.Core.Path.{ap, ◌∙◌}
use mathlib.Core.List.{[], ◌∷◌}
use Rattle.octet.specs.Part.{splice}
use Rattle.waiting.proofs.NewLaws.{written}
use Rattle.waiting.proofs.edit.write_place.Goals as goal

pub returns : goal.returns
returns c =
    let keyed = c in
    let headed = c in
    let numbered = c in
    let start = c in
    let a = start.args in
    let head = headed.copy_to.ensures ∙ ap (splice 4 (a.kind ∷ a.tries ∷ 0 ∷ 0 ∷ [])) numbered.write_u32_le.ensures in
    c.copy_to-3.ensures
    ∙ ap (splice 40 a.held.now) (keyed.copy_to-2.ensures ∙ ap (splice 8 a.key.now) head)
    ∙ written a.id a.kind a.tries a.key.now a.held.now start.requires.1 start.requires.2 a.place.now start.requires.0
