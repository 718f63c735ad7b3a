-- `replay::line::put` meets its contract. Assumes nothing.
use mathlib.Core.Path.{◌∙◌}
use native.Mathlib.Omega.{arith}
use lib.ListN.{take}
use borrow.Author.Rules.{rules}
use Rattle.replay.proofs.TextLaws.{no_line, bad-first, later-line}
use Rattle.replay.proofs.line.put.Goals as goal

pub returns-then-answer-eq0 : goal.returns-then-answer-eq0
returns-then-answer-eq0 c = record { upper_bound = omega arith; out_after = no_line _ _ _ c.if-at-eq0.true c.if-answer-eq0.true }

pub returns-then-at-eq0 : goal.returns-then-at-eq0
returns-then-at-eq0 c =
    let a = c.args in record {
      upper_bound = c.put_line.ensures.upper_bound;
      out_after = c.put_line.ensures.out_after
          ∙ bad-first a.at a.answer (take a.from a.out.now) c.if-at-eq0.true c.if-answer-eq0.false;
    }

pub returns : goal.returns
returns c =
    let a = c.args in record {
      upper_bound = c.put_line-2.ensures.upper_bound;
      out_after = c.put_line-2.ensures.out_after
          ∙ later-line a.at a.answer (take a.from a.out.now) c.if-at-eq0.false;
    }
