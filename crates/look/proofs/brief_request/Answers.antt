-- What is told of the message that its reader gives, or of its refusal. Assumes nothing.
use mathlib.Core.Path.{sym, ap, subst, ◌∙◌}
use Rattle.wire_read.specs.Readers.{or_six}
use Rattle.wire_read.specs.declared.Incoming.{Incoming}
use Rattle.wire_read.specs.declared.Incoming.TheVariants as M
use Rattle.look.specs.Seen.{look_of, brief_of, Small}
use Rattle.look.proofs.BriefLaws.{brief_by}
use Rattle.look.proofs.brief_request.Goals as goal

pub returns-in_default : goal.returns-in_default
returns-in_default c =
    c.refused.ensures
    ∙ ap brief_of (sym (ap (or_six M.Request) c.in_default.is) ∙ c.read_request.ensures)

pub seen_as-seen-requires : goal.seen_as-seen-requires
unfolding look_of
seen_as-seen-requires c =
    subst (λ (a : Incoming). Small (look_of a)) (sym c.in-Some.ensures) c.requires.1

pub returns : goal.returns
unfolding brief_of look_of
returns c = c.alone.ensures ∙ brief_by c.seen_as-seen.ensures ∙ ap brief_of c.in-Some.ensures
