-- `key::minus` meets its contract: each step is one digit of the law, and what is borrowed in the end wraps. Assumes nothing.
use Rattle.std.proofs.Common.{◌^◌, arith}
use Rattle.key.specs.Number.{number}
use Rattle.key.specs.Around.{ring, up}
use Rattle.key.proofs.DifferenceLaws.{borrowed_wraps}
use Rattle.key.proofs.DifferenceLaws.Borrowed.{end, digit}
use Rattle.key.proofs.KeyLaws.{Fit, fit-digits}
use Rattle.key.proofs.subtract.minus.Goals.{Start}
use Rattle.key.proofs.subtract.minus.Goals as goal

-- the two keys' words are words
fits : (s : Start) → Fit s.args.x × Fit s.args.y
fits s = (omega arith, omega arith)

pub returns : goal.returns
unfolding number up ring
returns c =
    let f = fits (goal.at.returns c).Start in
    borrowed_wraps (2 ^ 64)
    (digit c.sub_word-a.ensures.0 (digit c.sub_word-b.ensures.0 (digit c.sub_word-c.ensures.0 (digit c.sub_word-d.ensures.0 end))))
    (fit-digits f.0) (fit-digits f.1)
    (fit-digits (omega (arith, c.sub_word-a.type_inv, c.sub_word-b.type_inv, c.sub_word-c.type_inv, c.sub_word-d.type_inv)))
