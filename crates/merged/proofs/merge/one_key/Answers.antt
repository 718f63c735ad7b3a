-- `merged::merge::one_key` meets its contract. Assumes nothing.
use mathlib.Core.Path.{sym, ◌∙◌}
use Rattle.merged.proofs.StepLaws.{one_same, one_other}
use Rattle.merged.proofs.merge.one_key.Goals as goal

pub returns-then-same_piece : goal.returns-then-same_piece
returns-then-same_piece c = one_same _ _ (sym c.same_piece.ensures ∙ c.if-same_piece.true)

pub returns : goal.returns
returns c = one_other _ _ (sym c.same_piece.ensures ∙ c.if-same_piece.false)
