-- `cache::learning::unmoved` meets its contract. Assumes nothing.
use mathlib.Core.Path.{ap}
use mathlib.Core.Bool.{false}
use Rattle.cache.specs.Change.{changes}
use Rattle.cache.proofs.learning.unmoved.Goals as goal

pub returns : goal.returns
returns c = ap (changes false false) c.no_key.ensures
