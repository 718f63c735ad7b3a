-- `gauge_neighbours` meets its contract: the cache's neighbour list, with its counts in 32 bits. Assumes nothing.
use mathlib.Core.Path.{sym, ap, ◌∙◌}
use native.Mathlib.Omega.{arith}
use Rattle.neighbours.specs.Calls.{Written, list_counts, list_written}
use Rattle.gauge_plan.specs.Lent.{with_cache}
use Rattle.gauge.specs.Counts.{list_answered, gauge_list}
use Rattle.gauge.specs.Ours.{ours}
use Rattle.gauge.proofs.CountLaws.{list_few}
use borrow.Author.Rules.{rules}
use Rattle.gauge.proofs.gauge_neighbours.Goals as goal

pub answer_of-requires : goal.answer_of-requires
answer_of-requires c =
    let a = c.args in
    let few = list_few a.own.now a.cache.now a.key.now a.output.now in
    let e = ap (λ r. list_written r c.neighbour_list.new.out) (sym c.in-Ok.is) ∙ c.neighbour_list.ensures in
    (omega (arith, ap (λ (w : Written). (list_counts w.answer).below) e, few.0), omega (arith, ap (λ (w : Written). (list_counts w.answer).above) e, few.1))

pub returns-in-Ok : goal.returns-in-Ok
unfolding gauge_list
returns-in-Ok c o =
    let m = with_cache c.args.cache.now o in
    rw c.answer_of.ensures (
    ap (list_answered m) (ap (λ r. list_written r c.neighbour_list.new.out) (sym c.in-Ok.is) ∙ c.neighbour_list.ensures))

pub returns-in-Err : goal.returns-in-Err
unfolding gauge_list
returns-in-Err c o =
    let m = with_cache c.args.cache.now o in
    rw c.answer_of-in-Err.ensures (
    ap (list_answered m) (ap (λ r. list_written r c.neighbour_list.new.out) (sym c.in-Err.is) ∙ c.neighbour_list.ensures))
