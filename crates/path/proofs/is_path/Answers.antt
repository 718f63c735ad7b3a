-- `path::is_path` meets its contract: the remainder is the definition's. Assumes nothing.
use mathlib.Core.Path.{refl}
use Rattle.path.specs.Path.{path_form}
use Rattle.path.proofs.is_path.Goals as goal

pub returns : goal.returns
unfolding path_form
returns c = refl
