-- A reading changes nothing that the gauge does. Assumes nothing.
use mathlib.Core.Path.{refl, sym, ap, ◌∙◌}
use mathlib.Core.List.{List}
use Prim.Native.Nat.{ℕ, ◌≤◌}
use native.Mathlib.Omega.{arith}
use lib.ListN.{length, drop}
use lib.Seq.{take_at}
use Rattle.readings.specs.Reading.{image}
use Rattle.carried.specs.Carry.{with_reading}
use Rattle.carried.proofs.CarryLaws.{image_short, image_bytes}
use Rattle.carried.proofs.Theorems.{carry_writes}
use Rattle.gauge_plan.specs.Lent.{hearing, receives}
use Rattle.gauge.specs.Ours.{ours}
use Rattle.sentences.specs.Heard.{heard}
use Rattle.sentences.proofs.SameLaws.{same-heard}
use Rattle.sentences.proofs.Theorems.{ours_meets}
use Rattle.carried_laws.specs.Statements.{written_by, CarriedActs, CarriedActsAny}
use Rattle.carried_laws.proofs.SaysLaws.{hears-before, hears-after, bytes_after}

pub carried_acts_any : CarriedActsAny
carried_acts_any g p l ty kind measure i o old z y m =
    let major = l.major in
    let d = l.datagram in
    let b = ty.0 in
    let (msg, r, (w, t), q, few, e) = carry_writes major d b kind measure i o old z y in
    let v = (with_reading msg r).bytes in
    let s : length (image r) ≤ 1232 = omega (arith, image_short r.measured r.inflow r.outflow) in
    let is = ap written_by e ∙ take_at v (drop (length v) old) (length v) refl in
    same-heard g p m l d v ty.1 b
    (bytes_after major d w.0 msg w.1 w.2 t (image r) (image_bytes r) s few) (heard msg)
    (hears-before major d w.0 msg w.1 w.2 t (image r) (image_bytes r) s)
    (hears-after major d w.0 msg w.1 w.2 t (image r) (image_bytes r) s few)
    ∙ ap (λ (x : List ℕ). g m (receives (hearing x l))) (sym is)

pub carried_acts : CarriedActs
carried_acts = carried_acts_any ours ours_meets
