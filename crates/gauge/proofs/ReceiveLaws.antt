-- A datagram received: the call, by its plan. Assumes nothing.
use mathlib.Core.Path.{◌≡◌, refl, ap}
use mathlib.Core.Bool.{false}
use Rattle.own.specs.Own.{own_form}
use Rattle.gauge_plan.specs.Lent.{Memory, Receive}
use Rattle.gauge_plan.specs.declared.Plan.{Plan}
use Rattle.gauge_plan.specs.declared.Plan.TheVariants.{Refuse}
use Rattle.gauge_plan.proofs.MemoryLaws.{no_record}
use Rattle.gauge.specs.Receive.{carried, receive_call}
use Rattle.plan_message.specs.Planned.{receive_plan}

pub call_by : (m : Memory) (l : Receive) {p : Plan} → receive_plan m l ≡ p → receive_call m l ≡ carried m l p
unfolding receive_call
call_by m l e = ap (carried m l) e

-- own records are tested before all else, and the plan refuses them whatever is handed in
pub plan_own : (m : Memory) (l : Receive) → own_form l.own ≡ false → receive_plan m l ≡ Refuse 1
unfolding receive_plan
plan_own m l e = rw (no_record l.own m e) refl
