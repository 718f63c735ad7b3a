-- `gauge_search` meets its contract: what the search answers, with its numbers in 32 bits. Assumes nothing.
use mathlib.Core.Path.{ap, ◌∙◌}
use native.Mathlib.Omega.{arith}
use Rattle.cache.specs.declared.calls.Searched.{Searched}
use Rattle.cache.proofs.SearchLaws.{search-few}
use Rattle.gauge.specs.Searching.{search_answered}
use borrow.Author.Rules.{rules}
use Rattle.gauge.proofs.gauge_search.Goals as goal

pub answer_of-requires : goal.answer_of-requires
answer_of-requires c =
    let a = c.args in
    let e = c.search_key-done.ensures in
    let few = search-few a.own.now a.cache.now a.key.now in
    (omega (arith, ap (λ (s : Searched). s.place) e, few.0), omega (arith, ap (λ (s : Searched). s.compared) e, few.1))

pub returns : goal.returns
returns c = c.answer_of.ensures ∙ ap search_answered c.search_key-done.ensures
