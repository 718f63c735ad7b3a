-- `replay::line::put_end` meets its contract. Assumes nothing.
use mathlib.Core.Path.{◌∙◌}
use native.Mathlib.Omega.{arith}
use borrow.Author.Rules.{rules}
use Rattle.replay.proofs.TextLaws.{empty_trace, ended}
use Rattle.replay.proofs.line.put_end.Goals as goal

pub returns-then-at-eq0 : goal.returns-then-at-eq0
returns-then-at-eq0 c =
    record { upper_bound = c.put_line.ensures.upper_bound; out_after = c.put_line.ensures.out_after ∙ empty_trace _ c.if-at-eq0.true }

pub returns : goal.returns
returns c = record { upper_bound = omega arith; out_after = ended _ c.if-at-eq0.false }
