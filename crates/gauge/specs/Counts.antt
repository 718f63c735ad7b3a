-- Helps the code. Tick and neighbour list as the radio program calls them: "how many are listed is returned"; "Up to five keys below, then up to five above,
-- nearest first", with the two counts. Each answers document 01's number and two counts; what they do is in waiting and cache. Tied to document 01 by
-- `ours-meets` (sentences/Theorems). Assumes nothing.
use Rattle.std.specs.Prelude.{not, List, [], ◌∷◌, ltb, length}
use Rattle.refusal.specs.Table.{Refusal, when, or_refuse}
use Rattle.neighbours.specs.Calls.{Written, list_number, list_counts, list_call}
use Rattle.waiting_form.specs.Call.{Ticked, tick_done}
use Rattle.gauge_plan.specs.Lent.{Memory, with_waiting, Tick, Listing}
use Rattle.gauge_plan.specs.Memory.{tick_fit}
use Rattle.gauge_commit.specs.Sending.{answer, Handed, handed}

-- the second count is 0; the cache is not looked at
abbrev pub tick_answered : Memory → Ticked → Handed
tick_answered m t = handed (answer t.number t.count 0) (with_waiting t.table m) t.output

-- "The list needs room for 16 numbers of 32 bits, else 15"
abbrev pub tick_table : Memory → Tick → List Refusal
tick_table m l = when 1 (not (tick_fit l.own m)) ∷ when 15 (ltb (length l.output) 64) ∷ []

unfoldable pub gauge_tick : Memory → Tick → Handed
gauge_tick m l = or_refuse (λ n. handed (answer n 0 0) m l.output) (tick_table m l) (tick_answered m (tick_done m.waiting l.output))

-- memory stays as it is
abbrev pub list_answered : Memory → Written → Handed
list_answered m w = handed (answer (list_number w.answer) (list_counts w.answer).below (list_counts w.answer).above) m w.output

unfoldable pub gauge_list : Memory → Listing → Handed
gauge_list m l = list_answered m (list_call l.own m.cache l.key l.output)
