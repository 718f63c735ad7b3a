-- `cpas::is_cpa` meets its contract: its tests are the definition's. Assumes nothing.
use mathlib.Core.Path.{refl, sym}
use native.Mathlib.Omega.{arith}
use lib.ListN.{drop, length-drop}
use Rattle.cpas.proofs.CpaLaws.{cpa_short, cpa_tests}
use Rattle.cpas.proofs.is_cpa.Goals as goal

pub returns-then-room-lt2 : goal.returns-then-room-lt2
returns-then-room-lt2 c =
    let a = c.args in
    sym (cpa_short (drop a.at a.cpas.now) (omega (arith, length-drop a.at a.cpas.now, c.if-room-lt2.true)))

pub returns : goal.returns
returns c =
    let a = c.args in
    cpa_tests a.at a.cpas.now c.size_at-size.ensures.0 refl
