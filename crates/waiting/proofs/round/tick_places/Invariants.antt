-- `waiting::round::tick_places` meets its contract: what is done and what is left make the whole, and the rest is cleared. Assumes nothing.
use Rattle.waiting.proofs.TickLaws.{Left}
use Rattle.waiting.proofs.round.tick_places.Given as goal

abbrev pub invariant-loop-at : goal.invariant-loop-at
invariant-loop-at l = Left l.used l.initial.table l.initial.output l.table l.output l.at l.kept
