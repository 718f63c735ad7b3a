-- `why::line::put` meets its contract. Assumes nothing.
use mathlib.Core.Path.{refl}
use borrow.Author.Rules.{rules}
use Rattle.why.proofs.PutsLaws.{puts_splice}
use Rattle.why.proofs.line.put.Goals as goal

pub returns : goal.returns
returns c =
    puts_splice c.args.at c.args.text.now c.args.out.now _ _ c.requires refl c.copy_to.ensures
