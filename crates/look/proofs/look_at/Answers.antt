-- `look_at` meets its contract: what is told is part of the brief. Assumes nothing.
use mathlib.Core.Path.{ap, ◌∙◌}
use Rattle.look.specs.declared.Brief.{Brief}
use Rattle.look.proofs.BriefLaws.{brief_seen}
use Rattle.look.proofs.look_at.Goals as goal

pub returns : goal.returns
returns c =
    ap (λ (b : Brief). b.seen) c.brief_at-told.ensures ∙ brief_seen _
