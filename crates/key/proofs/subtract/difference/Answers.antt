-- `key::difference` meets its contract: the smaller is taken from the larger, and nothing wraps. Assumes nothing.
use Rattle.std.proofs.Common.{sym, ◌∙◌, le_of_lt, arith, ltb-false, ltb-true}
use Rattle.key.specs.Number.{number}
use Rattle.key.proofs.DifferenceLaws.{distance_above, distance_below}
use Rattle.key.proofs.KeyLaws.{Fit, number-ring}
use Rattle.key.proofs.RingLaws.{up_straight}
use Rattle.key.proofs.subtract.difference.Goals.{Start}
use Rattle.key.proofs.subtract.difference.Goals as goal

words-fit : (s : Start) → Fit s.args.x × Fit s.args.y
words-fit s = (omega arith, omega arith)

pub returns-then-is_less : goal.returns-then-is_less
returns-then-is_less c =
    let s = (goal.at.returns-then-is_less c).Start in
    let x = number s.args.x in
    let y = number s.args.y in
    let h = le_of_lt (ltb-true x y (sym c.is_less.ensures ∙ c.if-is_less.true)) in
    c.minus.ensures ∙ up_straight x y h (number-ring s.args.y (words-fit s).1) ∙ sym (distance_below x y h)

pub returns : goal.returns
returns c =
    let s = (goal.at.returns c).Start in
    let x = number s.args.x in
    let y = number s.args.y in
    let h = ltb-false x y (sym c.is_less.ensures ∙ c.if-is_less.false) in
    c.minus-2.ensures ∙ up_straight y x h (number-ring s.args.x (words-fit s).0) ∙ sym (distance_above x y h)
