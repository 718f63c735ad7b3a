-- `cache::place::find` meets its contract: what the search tells, as a place or that before which it would be. Assumes nothing.
use mathlib.Core.Path.{refl, sym, ap, ◌∙◌}
use Rattle.key.specs.Number.{key_at}
use Rattle.table.specs.Rows.{rows}
use Rattle.search.specs.declared.Sought.{Sought}
use Rattle.cache.specs.Form.{keys_of}
use Rattle.cache.proofs.FindLaws.{found_sought}
use Rattle.cache.proofs.place.find.Goals as goal

pub returns : goal.returns
returns c =
    let a = c.args in
    ap (λ (q : Sought). q.found) c.find_key.ensures
    ∙ sym (found_sought (key_at 0 a.key.now) 0 (keys_of (rows 100 a.used a.cache.now)) c.requires.rising refl)
