-- Beside the demands. A sequence of calls on lent memory, and the events that it makes: `step` is what a call leaves in memory, and `events` what it does to the
-- keys in that state (nothing where it is refused).
-- Assumes nothing.
use Rattle.std.specs.Prelude.{List, [], ◌∷◌, ◌++◌}
use Rattle.kept.specs.History.{Event}

unfoldable pub run : {State Call : Type 0} → (State → Call → State) → State → List Call → State
run step state [] = state
run step state (call ∷ calls) = run step (step state call) calls

unfoldable pub events_of : {State Call : Type 0} → (State → Call → State) → (State → Call → List Event) → State → List Call → List Event
events_of step events state [] = []
events_of step events state (call ∷ calls) = events state call ++ events_of step events (step state call) calls
