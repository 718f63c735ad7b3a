-- What is told of the message that an AUTHORITY's reader gives, or of its refusal: 6, or 7 where it is in part. Assumes nothing.
use mathlib.Core.Path.{sym, ap, ap₂, subst, ◌∙◌}
use Rattle.wire_read.specs.Readers.{or_number}
use Rattle.wire_read.specs.declared.Incoming.{Incoming}
use Rattle.wire_read.specs.declared.Incoming.TheVariants as M
use Rattle.look.specs.Seen.{look_of, briefed, brief_of, Small}
use mathlib.Core.Bool.{Bool}
use Rattle.look.specs.declared.Look.{Look}
use Rattle.look.specs.declared.Brief.{Brief}
use Rattle.look.proofs.brief_authority.Goals as goal

pub returns-in-Err : goal.returns-in-Err
returns-in-Err c =
    c.refused.ensures
    ∙ ap brief_of (sym (ap (or_number M.Authority) c.in-Err.is) ∙ c.read_authority.ensures)

pub seen_as-seen-requires : goal.seen_as-seen-requires
unfolding look_of
seen_as-seen-requires c =
    subst (λ (a : Incoming). Small (look_of a)) (sym c.in-Ok.ensures) c.requires.1

pub returns : goal.returns
unfolding brief_of look_of
returns c =
    ap (λ (b : Brief). record b { flag = c.is_some.result }) c.alone.ensures
    ∙ ap₂ (λ (s : Look) (f : Bool). briefed s 0 f 0 0) c.seen_as-seen.ensures c.is_some.ensures
    ∙ ap brief_of c.in-Ok.ensures
