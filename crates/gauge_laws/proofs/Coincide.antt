-- Any two results that a contract allows coincide. Assumes nothing.
use mathlib.Core.Path.{sym, ◌∙◌}
use Rattle.gauge_laws.specs.Coincide.{OneResult}

pub one_result : OneResult
one_result R d r s p q = p ∙ sym q
