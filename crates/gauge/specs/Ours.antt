-- Helps the code. Our gauge: what the contracts of the exported calls cite. Nobody has to read what it does: it meets the sentences (`ours-meets`), which leave
-- no second gauge (`one-gauge`, sentences/Theorems). Assumes nothing.
use Rattle.gauge_plan.specs.Lent.{receives, sends, ticks, lists}
use Rattle.gauge.specs.Words.{Gauge}
use Rattle.gauge.specs.Receive.{receive_call}
use Rattle.gauge.specs.Send.{send_call}
use Rattle.gauge.specs.Counts.{gauge_tick, gauge_list}

abbrev pub ours : Gauge
ours m (receives l) = receive_call m l
ours m (sends l) = send_call m l
ours m (ticks l) = gauge_tick m l
ours m (lists l) = gauge_list m l
