-- Laws of a tick and of the neighbour list: the tick is waiting_form's; the counts are small. Assumes nothing.
use mathlib.Core.Path.{◌≡◌}
use Prim.Native.Nat.{ℕ, ◌≤◌}
use native.Mathlib.Omega.{arith}
use mathlib.Core.List.{List}
use lib.ListN.{length-take}
use Rattle.key.specs.Number.{key_at}
use Rattle.key.specs.Around.{below, above, side_of, nearness}
use Rattle.refusal.proofs.CallLaws.{or_known, or_under}
use Rattle.table.proofs.RowLaws.{rows-length}
use Rattle.kept.specs.Neighbours.{nearest_first}
use Rattle.cache.specs.Form.{keys_of}
use Rattle.std.specs.Prelude.{Ok, Err}
use Rattle.neighbours.specs.Listing.{counts_of, after_list}
use Rattle.neighbours.specs.Calls.{Written, list_counts, list_written, list_wrong, list_call}
use Rattle.cache.specs.Calls.{held_by}
use Rattle.waiting.specs.Form.{used_of, places_of}
use Rattle.waiting_form.specs.Call.{Ticked, tick_handed, tick_refusals, tick_done, tick_call}
use Rattle.waiting.proofs.TickLaws.{listed_few}
use Rattle.waiting.proofs.FormLaws.{used_few}
use Rattle.gauge_plan.specs.Lent.{Memory, Tick}
use Rattle.gauge_plan.specs.Memory.{tick_fit}
use Rattle.gauge.specs.Counts.{tick_answered, gauge_tick}

-- the call is that on own record, waiting table and output
pub tick-called : (m : Memory) (l : Tick) → tick_answered m (tick_call l.own m.waiting l.output) ≡ gauge_tick m l
unfolding gauge_tick tick_call tick_refusals tick_fit
tick-called m l =
    or_under (tick_answered m) (λ (n : ℕ). tick_handed n 0 m.waiting l.output) (tick_refusals l.own m.waiting l.output)
    (tick_done m.waiting l.output)

-- at most 16 IDs are listed
pub tick_few : (own t o : List ℕ) → (tick_call own t o).count ≤ 16
unfolding tick_call tick_done
tick_few own t o =
    or_known (λ (r : Ticked). r.count ≤ 16) (λ (n : ℕ). tick_handed n 0 t o) (tick_refusals own t o) (tick_done t o)
    (λ n. omega arith)
    (λ f. omega (arith, listed_few (places_of t), rows-length 140 (used_of t) t, used_few t))

-- at most five keys of each side
pub list_few : (own cache key out : List ℕ) → ((list_counts (list_call own cache key out).answer).below ≤ 5) × ((list_counts (list_call own cache key out).answer).above ≤ 5)
unfolding list_call
list_few own cache key out =
    let k = key_at 0 key in
    let recs = held_by own cache in
    or_known (λ (w : Written). ((list_counts w.answer).below ≤ 5) × ((list_counts w.answer).above ≤ 5)) (λ (n : ℕ). list_written (Err n) out)
    (list_wrong own cache key out) (list_written (Ok (counts_of k recs)) (after_list k recs out))
    (λ n. (omega arith, omega arith))
    (λ f. (
      omega (arith, length-take 5 (nearest_first (side_of k) (nearness k) below (keys_of recs))),
      omega (arith, length-take 5 (nearest_first (side_of k) (nearness k) above (keys_of recs))),
    ))
