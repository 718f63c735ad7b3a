-- `cache::calls::memory` meets its contract: the own records first, then the cache. Assumes nothing.
use mathlib.Core.Path.{refl, sym, ◌∙◌}
use Rattle.cache.proofs.calls.memory.Goals as goal

pub returns-then-not-own_form : goal.returns-then-not-own_form
returns-then-not-own_form c = sym (rw (sym c.own_form.ensures ∙ c.if-not-own_form.true) refl)

pub returns : goal.returns
returns c = c.form.ensures ∙ sym (rw (sym c.own_form.ensures ∙ c.if-not-own_form.false) refl)
