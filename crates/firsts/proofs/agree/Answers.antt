-- `firsts::agree` meets its contract: the keys are counted afresh, and the two compared. Assumes nothing.
use mathlib.Core.Path.{sym, ap, ◌∙◌}
use Rattle.octet.specs.Part.{same}
use Rattle.firsts.proofs.FirstsLaws.{firsts_none}
use Rattle.firsts.proofs.agree.Goals as goal

pub count_keys-requires : goal.count_keys-requires
count_keys-requires c = let s = c in (s.requires.0, s.requires.1, sym firsts_none)

pub returns : goal.returns
returns c =
    let counted = c in
    let a = counted.args in
    c.equal.ensures ∙ ap (same a.firsts.now) counted.count_keys.ensures
