-- `refused` meets its contract. Assumes nothing.
use mathlib.Core.Path.{ap, ◌∙◌}
use mathlib.Core.Bool.{false}
use Rattle.look.specs.Seen.{briefed, look_of, brief_of}
use Rattle.look.specs.declared.Look.{Look}
use Rattle.look.proofs.refused.Goals as goal

pub returns : goal.returns
unfolding brief_of look_of
returns c =
    c.alone.ensures ∙ ap (λ (s : Look). briefed s 0 false 0 0) c.seen_as.ensures
