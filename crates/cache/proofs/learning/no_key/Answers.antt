-- `cache::learning::no_key` meets its contract: four words of zero are the number 0. Assumes nothing.
use mathlib.Core.Path.{refl}
use Rattle.octet.specs.Number.{value_be}
use Rattle.key.specs.Number.{number}
use Rattle.cache.proofs.learning.no_key.Goals as goal

pub returns : goal.returns
unfolding number value_be
returns c = refl
